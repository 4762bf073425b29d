-- The measure of `garbage::collect`: how many rows there are.
use Rattle.garbage.proofs.+collect.Given as goal

abbrev pub decreases-collect : goal.decreases-collect
decreases-collect l = l.n
