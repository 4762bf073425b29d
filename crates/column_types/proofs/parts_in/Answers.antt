-- `column_types::parts_in` meets its contract.
use Rattle.members.specs.Fields.{words_from, words_of}
use Rattle.column_types.specs.Types.{parts_in}
use Rattle.column_types.proofs.parts_in.Goals as goal

pub returns : goal.returns
unfolding parts_in words_of words_from
returns c =
    rw (c.bound_in-low.ensures, c.bound_in-high.ensures, c.base_byte-base.ensures, c.table_in.ensures, c.choice_in-word.ensures, c.choice_in.ensures)
