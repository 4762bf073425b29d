-- `area::write_number` meets its contract.
use Rattle.area.proofs.Writes.{place_rest}
use Rattle.area.proofs.write_number.Goals as goal

pub returns : goal.returns
returns c = place_rest 4 4 _ _ _ c.put_number.ensures
