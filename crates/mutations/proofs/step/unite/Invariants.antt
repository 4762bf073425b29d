-- The loop of `mutations::step::unite`.
use lib.ListN.{take}
use Rattle.model.specs.Catalog.{base_numbered}
use Rattle.mutations.proofs.Uniting.{United}
use Rattle.mutations.proofs.step.unite.Given as goal

abbrev pub invariant-loop-x : goal.invariant-loop-x
invariant-loop-x l = United (base_numbered l.kind) (take l.n l.initial.s) l.more l.x-index l.m l.s
