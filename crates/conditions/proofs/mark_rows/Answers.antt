-- `conditions::mark_rows` meets its contract.
use mathlib.Core.Path.{sym, ap, subst, ◌∙◌}
use mathlib.Core.List.{List, map}
use Rattle.model.specs.Faults.{is_fine}
use Rattle.model.specs.Catalog.{column_from}
use Rattle.model.specs.Conditions.{Test}
use Rattle.model.proofs.FaultLaws.{earlier_first, earlier_fine}
use Rattle.nav.proofs.Walk.{walk_fine, walk_less}
use Rattle.conditions.specs.Tests.{tests_at}
use Rattle.conditions.proofs.Faulty.{worst_on, worst_end, got_on, tests_end}
use Rattle.conditions.proofs.Narrowing.{Going, going_none, going_on, going_end}
use Rattle.conditions.proofs.mark_rows.Goals as goal

pub loop-g-init : goal.loop-g-init
loop-g-init c = (sym (earlier_first _), c.requires.f_value, λ e table o. going_none _ _ _ _ o)

pub narrow_by-t-requires : goal.narrow_by-t-requires
narrow_by-t-requires c = record { running = c.requires.running; at_value = (walk_fine c.args.text.now c.in-Some.is c.loop-g.invariant.1).0; columns_len_bound = c.requires.columns_len_bound }

pub loop-g-smaller : goal.loop-g-smaller
loop-g-smaller c =
    let a = c.args in
    rw c.next_item-g.ensures (walk_less a.text.now c.in-Some.is)

pub loop-g-preserved : goal.loop-g-preserved
loop-g-preserved c =
    let a = c.args in
    let h = c.in-Some.is in
    let t = c.narrow_by-t.ensures in
    rw c.next_item-g.ensures (
      worst_on a.text.now a.names.now a.columns.now _ c.loop-g.w c.narrow_by-t.result c.loop-g.invariant.0 h t.fault c.earlier-w.ensures,
      (walk_fine a.text.now h c.loop-g.invariant.1).1,
      λ e table o.
          let z = earlier_fine c.loop-g.w c.narrow_by-t.result (ap is_fine (sym c.earlier-w.ensures) ∙ e) in
          let m = t.marks (ap is_fine (sym t.fault) ∙ z.1) in
          going_on (map column_from a.columns.now) table (tests_at a.text.now a.names.now a.columns.now a.f).got a.rows.now (subst (λ (ts : List Test). Going (map column_from a.columns.now) table (tests_at a.text.now a.names.now a.columns.now a.f).got ts a.rows.now c.loop-g.marks) (got_on a.text.now a.names.now a.columns.now h) (c.loop-g.invariant.2 z.0 table o)) m.0 m.1 m.2,
    )

pub returns : goal.returns
returns c =
    let a = c.args in
    let h = c.in_default.is in
    let f = worst_end a.text.now a.names.now a.columns.now _ c.loop-g.w c.loop-g.invariant.0 h in
    record {
      fault = sym f;
      marks = λ e table o. going_end (map column_from a.columns.now) table (tests_at a.text.now a.names.now a.columns.now a.f).got a.rows.now (subst (λ (ts : List Test). Going (map column_from a.columns.now) table (tests_at a.text.now a.names.now a.columns.now a.f).got ts a.rows.now c.loop-g.marks) (ap (λ t. t.got) (tests_end a.text.now a.names.now a.columns.now h)) (c.loop-g.invariant.2 (ap is_fine (sym f) ∙ e) table o));
    }
