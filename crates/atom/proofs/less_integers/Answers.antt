-- `atom::less_integers` meets its contract.
use Rattle.std.proofs.Common.{take, arith}
use Rattle.model.specs.Octets.{value}
use Rattle.atom.proofs.Types.{halves_less}
use Rattle.atom.proofs.less_integers.Goals as goal

pub returns : goal.returns
returns c =
    rw (c.biased.ensures, c.biased-2.ensures, c.number.ensures, c.number-2.ensures)
    (halves_less (value (take 8 c.args.a.now)) (value (take 8 c.args.b.now)) (omega (arith, c.number.ensures)) (omega (arith, c.number-2.ensures)))
