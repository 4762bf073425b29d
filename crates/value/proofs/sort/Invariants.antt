-- The loop of `value::sort`.
use Rattle.std.proofs.Common.{◌≡◌, take, drop}
use Rattle.model.specs.Catalog.{base_numbered}
use Rattle.model.specs.Value.{sorted}
use Rattle.value.proofs.Fours.{padded}
use Rattle.value.proofs.sort.Given as goal

abbrev pub invariant-loop-i : goal.invariant-loop-i
invariant-loop-i l = l.s ≡ padded (sorted (base_numbered l.kind) (drop l.i (take l.n l.atoms)))
