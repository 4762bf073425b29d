-- `catalog::tidied_tables::table_entry` meets its contract.
use Rattle.std.proofs.Common.{◌∙◌}
use Rattle.catalog.proofs.Slots.{fit_first, fit_second, tidied}
use Rattle.catalog.proofs.tidied_tables.table_entry.Goals as goal

pub slot-first-requires-clause-at_bound : goal.slot-first-requires-clause-at_bound
slot-first-requires-clause-at_bound c =
    rw c.index_count-k.ensures (fit_first c.args.e.now c.told-e c.requires.e_value)

pub slot-second-requires-clause-at_bound : goal.slot-second-requires-clause-at_bound
slot-second-requires-clause-at_bound c =
    rw c.index_count-k.ensures (fit_second c.args.e.now c.told-e c.requires.e_value)

pub returns : goal.returns
returns c =
    let k = c.index_count-k.ensures in
    c.with_indexes.ensures.1
    ∙ tidied c.args.e.now c.requires.e_bound c.told-e c.requires.e_value _ _ _ _ c.headed.ensures c.indexes_in.ensures (rw k at c.slot-first.ensures) (rw k at c.slot-second.ensures)
