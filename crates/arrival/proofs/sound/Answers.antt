-- `arrival::sound` meets its contract.
use mathlib.Core.Path.{sym, ◌∙◌}
use Rattle.model.specs.Catalog.{packed_tables}
use Rattle.record.specs.Reading.{arrival_record}
use Rattle.arrival.proofs.Records.{sound_not, sound_canonical}
use Rattle.arrival.proofs.sound.Goals as goal

pub returns-else-listed : goal.returns-else-listed
returns-else-listed c =
    c.if-listed.false ∙ sym (sound_not (packed_tables c.args.schema.now) (arrival_record c.args.arrival c.args.bytes.now) (sym c.listed.ensures ∙ c.if-listed.false))

pub canonical-requires : goal.canonical-requires
canonical-requires c = record { accepted = c.requires.accepted; long = c.requires.long; bytes_value = sym c.listed.ensures ∙ c.if-listed.true }

pub returns-then-listed : goal.returns-then-listed
returns-then-listed c =
    c.canonical.ensures ∙ sym (sound_canonical (packed_tables c.args.schema.now) (arrival_record c.args.arrival c.args.bytes.now) (sym c.listed.ensures ∙ c.if-listed.true))
