-- `column_types::read_key` meets its contract.
use mathlib.Core.Path.{refl}
use native.Mathlib.Omega.{arith}
use Rattle.members.specs.Fields.{words_from, words_of}
use Rattle.column_types.proofs.Keys.{key_read}
use Rattle.column_types.proofs.read_key.Goals as goal

pub fields_or-f-requires : goal.fields_or-f-requires
unfolding words_of words_from
fields_or-f-requires c = record { says = c.requires.says; at_value = c.requires.at_value; at_nonzero = c.requires.at_nonzero; words_value = refl; words_len_bound = omega arith; nonzero = omega arith }

pub returns : goal.returns
unfolding words_of words_from
returns c =
    rw
    (c.key_fits.ensures, c.how_byte.ensures, c.place_byte.ensures, c.parts_in-k.ensures)
    (key_read c.args.text.now c.args.tables.now _ c.fields_or-f.result c.fields_or-f.ensures c.requires.tables_value c.requires.tables_len_bound)
