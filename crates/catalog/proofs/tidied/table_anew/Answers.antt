-- `catalog::tidied::table_anew` meets its contract.
use Rattle.std.proofs.Common.{arith, sym, ◌∙◌}
use Rattle.catalog.proofs.Anew.{table_anew, table_blank, table_short, table_indexes}
use Rattle.catalog.proofs.tidied.table_anew.Goals as goal

pub table_of-requires : goal.table_of-requires
table_of-requires c = record {
  e_len_bound = table_short c.requires.readable c.args.t (omega arith);
  e_value = table_indexes c.requires.readable c.args.t (omega arith);
}

pub returns-then-t-wide : goal.returns-then-t-wide
returns-then-t-wide c =
    c.table_of.ensures ∙ sym (table_anew c.requires.readable c.args.t (omega arith))

pub returns-else-t-wide : goal.returns-else-t-wide
returns-else-t-wide c =
    sym (table_blank c.requires.readable c.args.t (omega arith) c.requires.t_lt_most_tables)
