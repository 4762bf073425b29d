-- The loop of `uuids::place_of`.
use mathlib.Core.Path.{◌≡◌}
use Prim.Native.Nat.{◌-◌}
use Rattle.inner.specs.Positions.{tree_at, word_in}
use Rattle.uuids.specs.Named.{place_in, place_from}
use Rattle.uuids.proofs.place_of.Given as goal

abbrev pub invariant-loop-k : goal.invariant-loop-k
invariant-loop-k l = place_in l.text l.names (word_in (tree_at l.text l.at)) ≡ place_from l.text l.names (word_in (tree_at l.text l.at)) (16 - l.k) l.k
