-- `selection::put_rows` meets its contract.
use mathlib.Core.Path.{◌≡◌, refl, sym, ap, ◌∙◌}
use mathlib.Core.Bool.{true}
use mathlib.Core.List.{List}
use Prim.Native.Nat.{ℕ, ◌-◌}
use native.Mathlib.Omega.{arith}
use lib.ListN.{length}
use Rattle.json_writer.specs.Texts.{joined}
use Rattle.json_writer.proofs.Putting.{due_all, due_is, due_next, due_none}
use Rattle.catalog.specs.Entries.{columns_at}
use Rattle.selection.specs.Picks.{picked_from}
use Rattle.selection.proofs.Picks.{rows_next, rows_end}
use Rattle.selection.proofs.put_rows.Goals as goal

pub loop-i-init : goal.loop-i-init
loop-i-init c =
    let a = c.args in
    let e : length a.rows.now ≡ length a.rows.now - 0 = omega arith in (
      omega arith,
      (
        refl,
        (
          omega arith,
          due_is (due_all _ _ _) (
              ap (λ (m : ℕ). joined true (picked_from a.schema.now a.table a.flags.now (length (columns_at a.schema.now a.table)) a.marks.now a.rows.now 0 m)) e
              ∙ ap (λ (l : List (List ℕ)). joined true (picked_from a.schema.now a.table a.flags.now (length l) a.marks.now a.rows.now 0 (length a.rows.now - 0))) (sym c.columns_of-columns.ensures.0)
              ),
        ),
      ),
    )

pub loop-i-preserved : goal.loop-i-preserved
loop-i-preserved c =
    let a = c.args in
    (omega (arith, c.loop-i-test.true), (c.put_picked-r.auto.out ∙ c.loop-i.invariant.1.0, (omega (arith, c.put_picked-r.ensures.short, c.loop-i.invariant.1.1.0), due_next (due_is c.loop-i.invariant.1.1.1 (rows_next a.schema.now a.table a.flags.now (length c.columns_of-columns.result.now) a.marks.now a.rows.now c.loop-i.first c.loop-i.i (length a.rows.now) c.loop-i-test.true c.repeats-again.ensures)) c.put_picked-r.ensures)))

pub returns : goal.returns
returns c =
    let a = c.args in
    due_none (due_is c.loop-i.invariant.1.1.1 (rows_end a.schema.now a.table a.flags.now (length c.columns_of-columns.result.now) a.marks.now a.rows.now c.loop-i.first c.loop-i.i (length a.rows.now) c.loop-i-test.false)) 172352 (omega (arith, c.loop-i.invariant.0, c.loop-i.invariant.1.1.0, c.requires.rows_len_bound))
