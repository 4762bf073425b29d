-- `catalog::rules::at_most` meets its contract.
use Rattle.catalog.proofs.Twos.{at_most_is}
use Rattle.catalog.proofs.rules.at_most.Goals as goal

pub returns : goal.returns
returns c =
    rw (c.biased.ensures, c.biased-2.ensures) (at_most_is c.args.x c.args.y c.ranges.x.fits c.ranges.y.fits)
