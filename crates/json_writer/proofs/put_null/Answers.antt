-- `json_writer::put_null` meets its contract.
use Rattle.json_writer.specs.Texts.{null_text}
use Rattle.json_writer.proofs.put_null.Goals as goal

pub returns : goal.returns
unfolding null_text
returns c = c.put_bytes.ensures
