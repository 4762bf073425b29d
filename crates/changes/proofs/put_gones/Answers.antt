-- `changes::put_gones` meets its contract.
use mathlib.Core.Path.{refl, sym, ap, ◌∙◌}
use mathlib.Core.List.{[], ◌∷◌}
use Prim.Native.Nat.{ℕ, ◌+◌, ◌*◌, ◌≤◌}
use native.Mathlib.Omega.{arith}
use borrow.Author.Rules.{rules}
use lib.ListN.{length, drop}
use Rattle.model.specs.Limits.{rows_offset}
use Rattle.model.specs.Rows.{has}
use Rattle.model.specs.Records.{gone}
use Rattle.inner.specs.Working.{working, table_in, id_in, key_in}
use Rattle.area.specs.Layout.{rows_at}
use Rattle.area.proofs.Copies.{rows_length, rows_are}
use Rattle.changes.proofs.Writing.{recorded_is, along_is, along_next, along_end}
use Rattle.changes.proofs.Rows.{gones_like, gones_other, gones_end, key_table, key_id, key_is}
use Rattle.changes.proofs.put_gones.Goals as goal
use Rattle.changes.proofs.put_gones.Goals.{then-not-has_key, else-not-has_key}

pub put_gone-to-requires : goal.put_gone-to-requires
put_gone-to-requires c =
    let a = c.loop-i.invariant.1 [] in
    record { id_len = search rules; room = record { few = a.few; room = omega (arith, a.short, c.requires.room.room, c.loop-i-test.true); enough = omega (arith, a.size, c.requires.room.enough) } }

pub loop-i-preserved : goal.loop-i-preserved
loop-i-preserved c =
    let l = c.loop-i in
    let a = c.args in
    let cells = rows_at a.m a.area.now in
    let size : a.m ≤ length cells = omega (arith, rows_length a.m (drop rows_offset a.area.now)) in
    let row = rows_are a.area.now l.i a.m c.loop-i-test.true in
    let there = ap key_in row ∙ sym (key_is c.key_at-key.ensures) in
    elim c.if-not-has_key.branch [
      | then-not-has_key w ↦ (
        omega (arith, c.loop-i-test.true),
        λ sc. rw (w.records-is, w.to-is) (along_is (along_next
            (along_is (l.invariant.1 sc) (gones_other sc (working sc a.n a.after.now) cells a.m size l.i c.loop-i-test.true (ap (λ (x : ℕ). has x (working sc a.n a.after.now)) there ∙ sym (c.has_key.ensures sc) ∙ w.if-not-has_key.true)) (26 * l.i) (omega arith))
            (recorded_is w.put_gone-to.ensures (λ j. gone ((key_table c.key_at-key.ensures ∙ sym (ap table_in row)) j) ((key_id c.key_at-key.ensures ∙ sym (ap id_in row)) j) ∷ []) 26 (omega arith)) w.put_gone-to.auto.records) refl (26 * (l.i + 1)) (omega arith)),
      )
      | else-not-has_key w ↦ (omega (arith, c.loop-i-test.true), λ sc. rw (w.records-is, w.to-is) (along_is (l.invariant.1 sc) (gones_like sc (working sc a.n a.after.now) cells a.m size l.i c.loop-i-test.true (ap (λ (x : ℕ). has x (working sc a.n a.after.now)) there ∙ sym (c.has_key.ensures sc) ∙ w.if-not-has_key.false)) (26 * (l.i + 1)) (omega arith)))
    ]

pub returns : goal.returns
returns c =
    let l = c.loop-i in
    let a = c.args in
    let cells = rows_at a.m a.area.now in
    λ sc. along_end (along_is (l.invariant.1 sc) (gones_end sc (working sc a.n a.after.now) cells a.m (omega (arith, rows_length a.m (drop rows_offset a.area.now))) l.i c.loop-i-test.false) (26 * l.i) (omega arith)) (26 * a.m) (omega (arith, l.invariant.0))
