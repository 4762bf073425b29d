-- `schema::read` meets its contract.
use Rattle.schema.proofs.Tidying.{read_refused, readable, read_tidied}
use Rattle.schema.proofs.read.Goals as goal

pub returns-then-not-read_entries : goal.returns-then-not-read_entries
returns-then-not-read_entries c =
    read_refused _ _ c.read_entries.result c.read_entries.ensures (c.if-not-read_entries.true)

pub tidied-tidied-requires : goal.tidied-tidied-requires
tidied-tidied-requires c =
    readable _ _ c.read_entries.result c.read_entries.ensures (c.if-not-read_entries.false)

pub returns : goal.returns
returns c =
    read_tidied _ _ c.read_entries.result c.read_entries.ensures (c.if-not-read_entries.false) _ c.tidied-tidied.ensures
