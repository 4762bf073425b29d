-- `rows::add` meets its contract.
use mathlib.Core.Path.{sym, ap, ◌∙◌}
use Prim.Native.Nat.{ℕ}
use lib.ListN.{take}
use Rattle.model.specs.Areas.{row_from}
use Rattle.inner.specs.Working.{working, slot, inserted}
use Rattle.inner.proofs.Working.{row_key}
use Rattle.inner.proofs.Places.{add_slot, working_inserted, tidy_inserted}
use Rattle.rows.proofs.add.Goals as goal

pub returns : goal.returns
returns c =
    let a = c.args in
    let i = c.slot_of-i.result in
    let e = c.insert_at.ensures in
    let z = c.insert_at.new.rows in
    record {
      rows = λ s.
          working_inserted s a.n _ a.rows.now z i a.row.now e
          ∙ ap (λ (p : ℕ). inserted p (row_from s a.row.now) (working s a.n a.rows.now)) (c.slot_of-i.ensures.value s ∙ ap (λ (k : ℕ). slot k (working s a.n a.rows.now)) (sym (row_key s a.row.now)))
          ∙ sym (add_slot (row_from s a.row.now) (working s a.n a.rows.now));
      tidy = λ s t r. rw e (tidy_inserted s i a.row.now (take a.n a.rows.now) t r);
    }
