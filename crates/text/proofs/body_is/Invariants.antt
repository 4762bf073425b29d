-- The loop of `text::body_is`.
use mathlib.Core.Path.{◌≡◌}
use Prim.Native.Nat.{◌-◌, ◌≤◌}
use lib.ListN.{length, drop}
use Rattle.model.specs.Octets.{eq_bytes}
use Rattle.model.specs.Scan.{run}
use Rattle.model.specs.Strings.{char_turn}
use Rattle.text.proofs.body_is.Given as goal

abbrev pub invariant-loop-k : goal.invariant-loop-k
invariant-loop-k l = (l.k ≤ l.k-end) × (l.o ≤ length l.word) × (eq_bytes (run (char_turn l.text) l.k-end l.at).tree l.word ≡ eq_bytes (run (char_turn l.text) (l.k-end - l.k) l.i).tree (drop l.o l.word))

abbrev pub decreases-loop-k : goal.decreases-loop-k
decreases-loop-k l = l.k-end - l.k
