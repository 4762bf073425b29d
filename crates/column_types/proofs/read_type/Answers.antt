-- `column_types::read_type` meets its contract.
use mathlib.Core.List.{map}
use Rattle.model.specs.Catalog.{entry_name}
use mathlib.Core.Path.{refl}
use native.Mathlib.Omega.{arith}
use Rattle.members.specs.Fields.{words_from, words_of}
use Rattle.column_types.proofs.Shapes.{type_read}
use Rattle.column_types.proofs.read_type.Goals as goal

pub fields_or-f-requires : goal.fields_or-f-requires
unfolding words_of words_from
fields_or-f-requires c = record { says = c.requires.says; at_value = c.requires.at_value; at_nonzero = c.requires.at_nonzero; words_value = refl; words_len_bound = omega arith; nonzero = omega arith }

pub key_in-key-requires : goal.key_in-key-requires
unfolding words_of words_from
key_in-key-requires c = record { says = c.requires.says; p_value = c.fields_or-f.ensures.well 0 (omega arith); tables_value = c.requires.tables_value; tables_len_bound = c.requires.tables_len_bound }

pub returns : goal.returns
unfolding words_of words_from
returns c =
    rw
    (c.type_fits-fits.ensures, c.size_or.ensures, c.max_in.ensures, c.whole_in-least.ensures, c.whole_in-most.ensures)
    (type_read c.args.text.now (map entry_name c.args.tables.now) _ c.fields_or-f.result c.fields_or-f.ensures c.key_in-key.result c.key_in-key.ensures)
