-- `schema::fill` meets its contract.
use mathlib.Core.Path.{◌≡◌, refl, sym, ap, subst, ◌∙◌}
use mathlib.Core.List.{List}
use mathlib.Core.Bool.{false}
use Prim.Native.Nat.{ℕ}
use native.Mathlib.Omega.{arith}
use lib.ListN.{length, get_or}
use Rattle.inner.specs.Positions.{tree_at}
use Rattle.model.specs.Value.{text_of}
use Rattle.model.specs.SchemaText.{is_id}
use Rattle.members.specs.Fields.{words_from, words_of, slot_tree}
use Rattle.tables.specs.Tables.{TablesRead}
use Rattle.schema.specs.Schema.{Filled}
use Rattle.schema.proofs.Members.{fill_rest, fill_many, fill_good}
use Rattle.schema.proofs.fill.Goals as goal

pub fields-f-requires : goal.fields-f-requires
unfolding words_of words_from
fields-f-requires c = record { says = c.requires.says; at_value = c.requires.text_value; words_value = refl; words_len_bound = omega arith }

pub tables_in-n-requires : goal.tables_in-n-requires
unfolding words_of words_from
tables_in-n-requires c = record { says = c.requires.says; p_value = c.fields-f.ensures.well 2 (omega arith); cells_len = ap length c.requires.cells_value }

pub bounds-cells-0 : goal.bounds-cells-0
bounds-cells-0 c =
    let k = c.tables_in-n.auto.cells in
    let z : length c.args.cells.now ≡ 29 = ap length c.requires.cells_value in
    omega (arith, k, z)

pub returns-then-n-le-TABLES : goal.returns-then-n-le-TABLES
unfolding words_of words_from
returns-then-n-le-TABLES c =
    let s = c.args.text.now in
    let blank = c.requires.cells_value in
    let z : length c.args.cells.now ≡ 29 = ap length blank in
    let ei = c.is_id-id.ensures ∙ ap is_id (c.text_of.ensures ∙ ap text_of c.name_in-name.ensures) in
    let mid = c.tables_in-n.new.cells in
    let tr = subst (λ (x : List (List ℕ)). TablesRead (slot_tree s (get_or c.fields-f.result 2 0)) c.tables_in-n.result x mid) blank c.tables_in-n.ensures in
    let size : length mid ≡ 29 = c.tables_in-n.auto.cells ∙ z in
    fill_good s (tree_at s 0) c.fields-f.result c.fields-f.ensures ei (sym c.rest_fits-ok.ensures ∙ c.if-ok.true) tr c.if-n-le-TABLES.true size c.database_entry.ensures.0 c.name_in-name.ensures c.database_entry.ensures.1

pub returns-else-n-le-TABLES : goal.returns-else-n-le-TABLES
unfolding words_of words_from
returns-else-n-le-TABLES c =
    let s = c.args.text.now in
    let ei = c.is_id-id.ensures ∙ ap is_id (c.text_of.ensures ∙ ap text_of c.name_in-name.ensures) in
    let mid = c.tables_in-n.new.cells in
    let tr = subst (λ (x : List (List ℕ)). TablesRead (slot_tree s (get_or c.fields-f.result 2 0)) c.tables_in-n.result x mid) c.requires.cells_value c.tables_in-n.ensures in
    fill_many s (tree_at s 0) c.fields-f.result c.fields-f.ensures ei (sym c.rest_fits-ok.ensures ∙ c.if-ok.true) tr c.if-n-le-TABLES.false

pub returns-else-ok : goal.returns-else-ok
unfolding words_of words_from
returns-else-ok c =
    let s = c.args.text.now in
    let ei = c.is_id-id.ensures ∙ ap is_id (c.text_of.ensures ∙ ap text_of c.name_in-name.ensures) in
    subst (λ (x : List (List ℕ)). Filled (tree_at s 0) false x) (sym c.requires.cells_value) (fill_rest s (tree_at s 0) c.fields-f.result c.fields-f.ensures ei (sym c.rest_fits-ok.ensures ∙ c.if-ok.false))
