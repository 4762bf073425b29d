-- `schema::read_entries` meets its contract.
use mathlib.Core.Path.{refl, sym, ap, ◌∙◌}
use Rattle.model.specs.Nav.{is_read}
use Rattle.schema.proofs.Reading.{read_long, read_bad, read_well, read_good}
use Rattle.schema.proofs.read_entries.Goals as goal

pub returns-then-text-gt-SCHEMA_TEXT : goal.returns-then-text-gt-SCHEMA_TEXT
returns-then-text-gt-SCHEMA_TEXT c = read_long c.args.text.now c.if-text-gt-SCHEMA_TEXT.true

pub fill-requires : goal.fill-requires
unfolding is_read
fill-requires c =
    let s = c.args.text.now in
    let end = ap is_read (sym c.document-r.ensures.value ∙ c.in-Ok.is) in
    record { says = c.document-r.ensures.says; text_value = read_well s c.if-text-gt-SCHEMA_TEXT.false end; text_len_bound = c.if-text-gt-SCHEMA_TEXT.false; cells_value = refl }

pub returns-in-Ok : goal.returns-in-Ok
unfolding is_read
returns-in-Ok c =
    let s = c.args.text.now in
    let end = ap is_read (sym c.document-r.ensures.value ∙ c.in-Ok.is) in
    read_good s c.if-text-gt-SCHEMA_TEXT.false end c.fill.auto.cells c.fill.ensures

pub returns-in-Err : goal.returns-in-Err
unfolding is_read
returns-in-Err c =
    read_bad c.args.text.now c.if-text-gt-SCHEMA_TEXT.false (ap is_read (sym c.document-r.ensures.value ∙ c.in-Err.is))
