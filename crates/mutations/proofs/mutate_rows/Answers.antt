-- `mutations::mutate_rows` meets its contract.
use mathlib.Core.Path.{◌≡◌, sym, ap, ◌∙◌}
use mathlib.Core.Bool.{true}
use mathlib.Core.List.{List, map}
use mathlib.Core.Logic.{⊎_elim}
use Prim.Native.Nat.{◌≤◌}
use native.Mathlib.Omega.{arith}
use lib.ListN.{length}
use Rattle.model.specs.Faults.{is_fine, Judged}
use Rattle.model.specs.Mutations.{Mutation}
use Rattle.model.specs.Catalog.{column_from}
use Rattle.model.proofs.FaultLaws.{earlier_fine}
use Rattle.nav.proofs.Walk.{walk_fine, walk_less}
use Rattle.mutations.specs.Mutating.{mutation_at, mutations_at}
use Rattle.mutations.proofs.Faulty.{got_on, mutations_end, worst_on, worst_end}
use Rattle.mutations.proofs.Rowwise.{walked_on, walked_by, mutated}
use Rattle.mutations.proofs.mutate_rows.Goals as goal

pub read_mutation-m-requires : goal.read_mutation-m-requires
read_mutation-m-requires c = record { running = c.requires.running; at_value = (walk_fine c.args.text.now c.in-Some.is c.loop-g.invariant.0).0 }

pub loop-g-smaller : goal.loop-g-smaller
loop-g-smaller c =
    let a = c.args in
    rw c.next_item-g.ensures (walk_less a.text.now c.in-Some.is)

pub loop-g-preserved : goal.loop-g-preserved
loop-g-preserved c =
    let room : c.args.n ≤ length c.args.marks.now = omega (arith, c.all-1, c.requires.n_le_most_rows.0) in
    let fine : let a = c.args in is_fine c.earlier-w.result ≡ true → (is_fine c.loop-g.w ≡ true) × (is_fine (mutation_at a.text.now a.names.now a.columns.now c.in-Some.p).fault ≡ true) = λ y. let p = earlier_fine c.loop-g.w c.read_mutation-m.result.fault (ap is_fine (sym c.earlier-w.ensures) ∙ y) in
    (p.0, ap is_fine (sym c.read_mutation-m.ensures.fault) ∙ p.1) in
    let a = c.args in
    let h = c.in-Some.is in
    let z = map column_from a.columns.now in
    rw c.next_item-g.ensures (
      (walk_fine a.text.now h c.loop-g.invariant.0).1,
      worst_on a.text.now a.names.now a.columns.now _ c.loop-g.w c.read_mutation-m.result.fault c.loop-g.invariant.1 h c.read_mutation-m.ensures.fault c.earlier-w.ensures,
      ⊎_elim
          (λ w.
          let y = fine (sym c.is_fine-ok.ensures ∙ w.if-ok.true) in
          walked_on z a.marks.now a.n a.rows.now (room) c.loop-g.invariant.2 y.0 (got_on a.text.now a.names.now a.columns.now h) w.mutate_marked-s.ensures (c.read_mutation-m.ensures.got y.1) w.rows-is w.e-is (w.stop-is ∙ w.fault_or-stop.ensures))
          (λ w. walked_by z a.marks.now a.n a.rows.now c.loop-g.invariant.2 (sym c.is_fine-ok.ensures ∙ w.if-ok.false) w.rows-is w.e-is w.stop-is)
          c.if-ok.branch-raw,
    )

pub returns : goal.returns
returns c =
    let a = c.args in
    let n = c.in_default.is in
    mutated (map column_from a.columns.now) a.marks.now a.n a.rows.now c.requires.n_le_most_rows.1 (mutations_at a.text.now a.names.now a.columns.now a.f) c.loop-g.invariant.2
    (ap (λ (q : Judged (List Mutation)). q.got) (mutations_end a.text.now a.names.now a.columns.now n)) (worst_end a.text.now a.names.now a.columns.now _ c.loop-g.w c.loop-g.invariant.1 n) c.fault_or.ensures
