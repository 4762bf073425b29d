-- `rows::remove_at` meets its contract.
use mathlib.Core.Path.{sym, ◌∙◌}
use Prim.Native.Nat.{◌-◌}
use native.Mathlib.Omega.{arith}
use lib.ListN.{take}
use Rattle.inner.specs.Working.{working}
use Rattle.inner.proofs.Places.{place_at, working_removed, tidy_removed}
use Rattle.inner.proofs.Ordering.{removed_ordered}
use Rattle.rows.proofs.remove_at.Goals as goal

pub returns : goal.returns
returns c =
    let a = c.args in
    let e = c.close_at.ensures in
    let z = c.close_at.new.rows in
    record {
      rows = λ s. working_removed s a.n (a.n - 1) a.rows.now z a.i e;
      key = λ s k p. working_removed s a.n (a.n - 1) a.rows.now z a.i e ∙ sym (place_at k (working s a.n a.rows.now) a.i p).remove;
      tidy = λ s t. rw e (tidy_removed s a.i (take a.n a.rows.now) t);
      ordered = λ o. removed_ordered a.n (a.n - 1) a.i a.rows.now z (omega (arith, o.there, c.close_at.auto.rows)) e o;
    }
