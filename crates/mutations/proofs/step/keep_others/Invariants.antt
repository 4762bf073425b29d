-- The loop of `mutations::step::keep_others`.
use lib.ListN.{take}
use Rattle.model.specs.Catalog.{base_numbered}
use Rattle.model.specs.Value.{without}
use Rattle.mutations.specs.Steps.{Kept}
use Rattle.mutations.specs.Mutating.{elements_read}
use Rattle.mutations.proofs.step.keep_others.Given as goal

abbrev pub invariant-loop-x : goal.invariant-loop-x
invariant-loop-x l = Kept (without (elements_read l.text l.names (base_numbered l.kind) l.m l.atoms) (take l.x-index l.xs)) l.n l.out
