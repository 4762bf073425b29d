-- The loop of `members::choose`.
use Prim.Native.Nat.{◌-◌, ◌≤◌}
use mathlib.Core.Path.{◌≡◌}
use lib.ListN.{drop}
use Rattle.inner.specs.Positions.{tree_at}
use Rattle.members.specs.Fields.{words_from, words_of, choice_from, choice}
use Rattle.members.proofs.choose.Given as goal

abbrev pub invariant-loop-k : goal.invariant-loop-k
invariant-loop-k l =
    (l.k ≤ l.k-end) × (choice (words_of l.words) (tree_at l.text l.at) ≡ choice_from l.k (tree_at l.text l.at) (words_from (l.k-end - l.k) (drop l.a l.words)))

abbrev pub decreases-loop-k : goal.decreases-loop-k
decreases-loop-k l = l.k-end - l.k
