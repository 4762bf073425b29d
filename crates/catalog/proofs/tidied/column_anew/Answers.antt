-- `catalog::tidied::column_anew` meets its contract.
use Rattle.std.proofs.Common.{arith, sym, ◌∙◌}
use Rattle.catalog.proofs.Anew.{column_anew, column_blank, column_none, column_short}
use Rattle.catalog.proofs.tidied.column_anew.Goals as goal
use Rattle.catalog.proofs.tidied.column_anew.Goals.{else-t-tables-via-then-t-tables+else-c-wide, else-t-tables-via-else-t-tables}

pub column_of-requires : goal.column_of-requires
column_of-requires c =
    column_short c.requires.readable c.args.t c.args.c (omega arith) c.requires.t_lt_most_tables.1 (omega arith)

pub returns-then-c-wide : goal.returns-then-c-wide
returns-then-c-wide c =
    c.column_of.ensures ∙ sym (column_anew c.requires.readable c.args.t c.args.c (omega arith) c.requires.t_lt_most_tables.1 (omega arith))

pub returns-else-t-tables : goal.returns-else-t-tables
returns-else-t-tables c =
    let a = c.args in
    let few = c.requires.t_lt_most_tables in
    elim c.else-t-tables.branch [
      | else-t-tables-via-then-t-tables+else-c-wide w ↦ sym (column_blank c.requires.readable a.t a.c (omega arith) few.1 (omega arith))
      | else-t-tables-via-else-t-tables w ↦ sym (column_none c.requires.readable a.t a.c (omega arith) few.0 few.1)
    ]
