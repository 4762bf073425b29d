-- `store::reply::is_few` meets its contract.
use Prim.Native.Nat.{ℕ, ◌+◌, ◌-◌, ◌≤◌}
use mathlib.Core.Path.{◌≡◌, sym, ◌∙◌}
use native.Mathlib.Omega.{arith}
use borrow.Author.Tests.{lt-leb, le-leb, leb-true, leb-false}
use lib.Dec.{leb}
use Rattle.model.proofs.Tests.{split}
use Rattle.store.proofs.reply.is_few.Goals as goal

moved : (n k : ℕ) → n ≤ 8 → leb k (8 - n) ≡ leb (n + k) 8
moved n k h =
    split (leb (n + k) 8)
    (λ t. le-leb k (8 - n) (omega (arith, leb-true (n + k) 8 t)) ∙ sym t)
    (λ t. lt-leb k (8 - n) (omega (arith, leb-false (n + k) 8 t)) ∙ sym t)

pub returns-then-n-gt-FEW_ROWS : goal.returns-then-n-gt-FEW_ROWS
returns-then-n-gt-FEW_ROWS c = let a = c.args in sym (lt-leb (a.n + a.count) 8 (omega (arith, c.if-n-gt-FEW_ROWS.true)))

pub returns : goal.returns
returns c = let a = c.args in moved a.n a.count c.if-n-gt-FEW_ROWS.false
