-- `indexes::put` meets its contract.
use Rattle.indexes.proofs.Cells.{first_well, first_short, second_well, second_short, put_none, put_one, put_two}
use Rattle.model.specs.Catalog.{entry_name}
use mathlib.Core.List.{map}
use Rattle.indexes.proofs.put.Goals as goal

pub index-a-requires : goal.index-a-requires
index-a-requires c = record { says = c.requires.says; at_value = first_well c.args.text.now c.args.at c.requires.at_value c.requires.at_value_2 c.first-f.ensures c.in-Some.is; at_value_2 = first_short c.args.text.now c.args.at c.requires.at_value c.requires.at_value_2 c.first-f.ensures c.in-Some.is; columns_len_bound = c.requires.columns_len_bound }

pub index-b-requires : goal.index-b-requires
index-b-requires c = record { says = c.requires.says; at_value = second_well c.args.text.now c.args.at c.requires.at_value c.requires.at_value_2 c.first-f.ensures c.in-Some.is c.next_item-g.ensures c.in-Some-g.is; at_value_2 = second_short c.args.text.now c.args.at c.requires.at_value c.requires.at_value_2 c.first-f.ensures c.in-Some.is c.next_item-g.ensures c.in-Some-g.is; columns_len_bound = c.requires.columns_len_bound }

pub returns-in-Some-g : goal.returns-in-Some-g
returns-in-Some-g c =
    put_two c.args.text.now c.args.at c.requires.at_value c.requires.at_value_2 c.first-f.ensures c.in-Some.is c.next_item-g.ensures c.args.cell.now c.with_indexes.ensures.0 (map entry_name c.args.columns.now) c.index-a.ensures c.in-Some-g.is c.index-b.ensures c.with_indexes.ensures.1

pub returns-in-None-g : goal.returns-in-None-g
returns-in-None-g c =
    put_one c.args.text.now c.args.at c.requires.at_value c.requires.at_value_2 c.first-f.ensures c.in-Some.is c.next_item-g.ensures c.args.cell.now c.with_indexes-in-None-g.ensures.0 (map entry_name c.args.columns.now) c.index-a.ensures c.in-None-g.is c.with_indexes-in-None-g.ensures.1

pub returns-in-None : goal.returns-in-None
returns-in-None c =
    put_none c.args.text.now c.args.at c.requires.at_value c.requires.at_value_2 c.first-f.ensures c.args.cell.now c.with_indexes-in-None.ensures.0 (map entry_name c.args.columns.now) c.in-None.is c.with_indexes-in-None.ensures.1
