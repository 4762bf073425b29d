-- The loop of `text::body_chars`.
use mathlib.Core.Path.{◌≡◌}
use Prim.Native.Nat.{◌+◌, ◌≤◌}
use lib.ListN.{length}
use Rattle.model.specs.Text.{chars}
use Rattle.text.specs.Steps.{body_from, bytes_of, Going}
use Rattle.text.proofs.body_chars.Given as goal

abbrev pub invariant-loop-x : goal.invariant-loop-x
invariant-loop-x l = (l.n + chars (bytes_of l.text l.x) ≡ chars (body_from l.text l.at)) × (l.n + length (bytes_of l.text l.x) ≤ length l.text) × Going l.text l.x

abbrev pub decreases-loop-x : goal.decreases-loop-x
decreases-loop-x l = length (bytes_of l.text l.x)
