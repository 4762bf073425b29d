-- The loop of `mutations::step::calculate_each`.
use Rattle.integers.specs.Ints.{int_in}
use Rattle.mutations.proofs.Calculating.{Going}
use Rattle.mutations.proofs.step.calculate_each.Given as goal

abbrev pub invariant-loop-i : goal.invariant-loop-i
invariant-loop-i l = Going l.m (int_in l.b) l.xs l.initial.out l.i l.out
