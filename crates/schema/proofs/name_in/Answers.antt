-- `schema::name_in` meets its contract.
use Rattle.schema.proofs.Members.{no_name, some_name}
use Rattle.schema.proofs.name_in.Goals as goal

pub returns-then-p-eq0 : goal.returns-then-p-eq0
returns-then-p-eq0 c = no_name c.args.text.now c.if-p-eq0.true

pub returns : goal.returns
returns c = some_name c.args.text.now c.if-p-eq0.false c.name_at.ensures
