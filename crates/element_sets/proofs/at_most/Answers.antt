-- `element_sets::at_most` meets its contract.
use Rattle.element_sets.proofs.Limiting.{at_most_is}
use Rattle.element_sets.proofs.at_most.Goals as goal

pub returns : goal.returns
returns c = rw (c.biased.ensures, c.biased-2.ensures) (at_most_is c.args.x c.args.y c.ranges.x.fits c.ranges.y.fits)
