-- The loop of `text::decode`.
use Rattle.std.specs.Prelude.{Option, Some}
use Prim.Native.Nat.{◌-◌, ◌≤◌, ℕ}
use mathlib.Core.Path.{◌≡◌}
use mathlib.Core.List.{List}
use lib.ListN.{length}
use Rattle.model.specs.Scan.{run}
use Rattle.model.specs.Strings.{char_turn}
use Rattle.text.specs.Push.{Pushed}
use Rattle.text.proofs.decode.Given as goal

abbrev pub invariant-loop-k : goal.invariant-loop-k
invariant-loop-k l =
    (l.k ≤ l.k-end) × ((length l.out ≡ length l.initial.out) × ((r : Option ℕ) (o : List ℕ) → Pushed l.out l.x (run (char_turn l.text) (l.k-end - l.k) l.i).tree r o → Pushed l.initial.out (Some 0) (run (char_turn l.text) l.k-end l.at).tree r o))

abbrev pub decreases-loop-k : goal.decreases-loop-k
decreases-loop-k l = l.k-end - l.k
