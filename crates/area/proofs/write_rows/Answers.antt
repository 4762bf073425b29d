-- `area::write_rows` meets its contract.
use Rattle.model.specs.Limits.{count_offset}
use Rattle.area.proofs.Writes.{place_rest}
use Rattle.area.proofs.write_rows.Goals as goal

pub returns : goal.returns
returns c = place_rest count_offset 20001 _ _ _ c.put_counted.ensures
