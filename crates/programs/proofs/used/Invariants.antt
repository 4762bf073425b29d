-- The loop of `programs::used`: what is left begins as the bytes do, and behind it are zeros.
use Rattle.std.proofs.Common.{◌≡◌, ℕ, ◌≤◌, length, take, get_or}
use Rattle.programs.proofs.used.Given as goal

abbrev pub invariant-loop-rest : goal.invariant-loop-rest
invariant-loop-rest l = (l.rest ≡ take (length l.rest) l.bytes) × (length l.rest ≤ length l.bytes) × ((k : ℕ) → length l.rest ≤ k → get_or l.bytes k 0 ≡ 0)

abbrev pub decreases-loop-rest : goal.decreases-loop-rest
decreases-loop-rest l = length l.rest
