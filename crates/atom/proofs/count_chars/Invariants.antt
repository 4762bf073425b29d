-- The loop of `atom::count_chars`.
use Rattle.std.proofs.Common.{◌≡◌, ◌+◌, ◌≤◌, drop}
use Rattle.model.specs.Text.{chars}
use Rattle.atom.proofs.count_chars.Given as goal

abbrev pub invariant-loop-b : goal.invariant-loop-b
invariant-loop-b l = (l.n ≤ l.b-index) × (chars l.t ≡ l.n + chars (drop l.b-index l.t))
