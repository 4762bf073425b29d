-- `uuids::put_fresh` meets its contract.
use mathlib.Core.Path.{◌≡◌, ap, ◌∙◌}
use Prim.Native.Nat.{ℕ, ◌+◌, ◌-◌, ◌*◌}
use native.Mathlib.Omega.{arith}
use lib.ListN.{take, drop, replicate}
use Rattle.uuids.proofs.Names.{fresh_at, fresh_past}
use Rattle.uuids.proofs.put_fresh.Goals as goal

pub returns-then-k-lt-OPERATIONS : goal.returns-then-k-lt-OPERATIONS
returns-then-k-lt-OPERATIONS c =
    let f = c.args.names.now in
    let k = c.args.k in
    let z : 16 * k + 16 - 16 * k ≡ 16 = omega arith in
    c.put_bytes.ensures
    ∙ fresh_at f k _ c.clear.new.b c.if-k-lt-OPERATIONS.true c.requires.names_len (λ i. (c.shared_slice_known-1.given i).fits) (ap (λ n. take n (drop (16 * k) f)) z)
    (c.clear.ensures ∙ ap (λ (n : ℕ). replicate {A = ℕ} n 0) c.requires.out_len)

pub returns-else-k-lt-OPERATIONS : goal.returns-else-k-lt-OPERATIONS
returns-else-k-lt-OPERATIONS c =
    fresh_past c.args.names.now c.args.k c.clear.new.b c.if-k-lt-OPERATIONS.false (c.clear.ensures ∙ ap (λ (n : ℕ). replicate {A = ℕ} n 0) c.requires.out_len)
