-- `tables::read_table` meets its contract.
use mathlib.Core.Path.{◌≡◌, refl, ap, subst, ◌∙◌}
use mathlib.Core.List.{List, map}
use mathlib.Core.Bool.{not}
use Prim.Native.Nat.{ℕ}
use lib.Dec.{eqb}
use lib.ListN.{length, get_or, take}
use lib.Seq.{length-take-le}
use Rattle.model.specs.Members.{members_in}
use Rattle.model.specs.SchemaText.{size_or}
use Rattle.tables.specs.Tables.{rest_allowed, IndexesIn}
use native.Mathlib.Omega.{arith}
use Rattle.model.specs.Catalog.{entry_name}
use Rattle.inner.specs.Positions.{tree_at}
use Rattle.members.specs.Fields.{words_from, words_of}
use Rattle.tables.proofs.Shapes.{table_none, columns_well, columns_named, table_read}
use Rattle.tables.proofs.read_table.Goals as goal

pub fields-f-requires : goal.fields-f-requires
unfolding words_of words_from
fields-f-requires c = record { says = c.requires.says; at_value = c.requires.at_value; words_value = refl; words_len_bound = omega arith }

pub columns_in-n-requires : goal.columns_in-n-requires
unfolding words_of words_from
columns_in-n-requires c =
    record { says = c.requires.says; p_value = c.fields-f.ensures.well 0 (omega arith); tables_value = c.requires.tables_value; tables_len_bound = c.requires.tables_len_bound; most_columns_in_bounds = c.requires.most_columns_in_bounds }

pub returns-then-n-gt-COLUMNS : goal.returns-then-n-gt-COLUMNS
unfolding words_of words_from
returns-then-n-gt-COLUMNS c =
    let s = c.args.text.now in
    table_none s (map entry_name c.args.tables.now) (tree_at s c.args.at) c.fields-f.result c.fields-f.ensures c.columns_in-n.ensures c.if-n-gt-COLUMNS.true _ _

pub indexes_in-b-requires : goal.indexes_in-b-requires
unfolding words_of words_from
indexes_in-b-requires c =
    let s = c.args.text.now in
    let ns = map entry_name c.args.tables.now in
    let j = tree_at s c.args.at in
    let k = c.columns_in-n.auto.cells in
    let l = c.if-n-gt-COLUMNS.false in
    let p = c.requires.most_columns_in_bounds in
    let n : length (take c.columns_in-n.result c.columns_in-n.new.cells) ≡ c.columns_in-n.result = length-take-le c.columns_in-n.result c.columns_in-n.new.cells (omega (arith, k, l, p)) in
    record { says = c.requires.says; p_value = c.fields-f.ensures.well 3 (omega arith); q_value = columns_well s ns j c.fields-f.result c.fields-f.ensures c.columns_in-n.ensures l; q_value_2 = columns_named s ns j c.fields-f.result c.fields-f.ensures c.columns_in-n.ensures l; columns_len_bound = omega (arith, n, l) }

pub returns : goal.returns
unfolding words_of words_from
returns c =
    let s = c.args.text.now in
    let ns = map entry_name c.args.tables.now in
    let j = tree_at s c.args.at in
    let fs = c.fields-f.result in
    let name = c.args.name in
    let n = c.columns_in-n.result in
    let ix = subst (λ (x : List ℕ). IndexesIn s (get_or fs 3 0) (members_in (tree_at s (get_or fs 0 0))) (map entry_name (take n c.columns_in-n.new.cells)) c.indexes_in-b.result x c.indexes_in-b.new.cell) c.put_head.ensures c.indexes_in-b.ensures in
    table_read s ns j fs c.fields-f.ensures c.columns_in-n.ensures c.if-n-gt-COLUMNS.false name c.requires.name_only c.truth_in-root.result (not (eqb (get_or fs 1 0) 0)) c.size_or-most.result c.truth_in-root.ensures refl (c.size_or-most.ensures ∙ ap (size_or 0) c.whole_in-w.ensures) (c.rest_fits-a.ensures ∙ ap (rest_allowed s fs) c.whole_in-w.ensures) ix
