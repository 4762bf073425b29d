-- `columns::read_column` meets its contract.
use Prim.Native.Nat.{ℕ, ◌≤◌}
use mathlib.Core.Path.{◌≡◌, refl, sym, ap, subst, ◌∙◌}
use mathlib.Core.Bool.{Bool, true}
use mathlib.Core.List.{List, ◌++◌, map}
use native.Mathlib.Omega.{arith}
use lib.ListN.{length, get_or, drop, replicate}
use Rattle.model.specs.Json.{Json}
use Rattle.inner.specs.Positions.{tree_at}
use Rattle.model.specs.Members.{members_in}
use Rattle.model.specs.Value.{text_of}
use Rattle.model.specs.Catalog.{entry_name}
use Rattle.model.specs.SchemaText.{truth_or}
use Rattle.members.specs.Fields.{words_from, words_of, slot_tree, Slots}
use Rattle.columns.specs.Parts.{member_of}
use Rattle.columns.specs.Columns.{shape_bytes, column_allowed, ColumnRead}
use Rattle.columns.proofs.Cells.{column_words, member_value_lem, member_size, member_short, member_name, column_read}
use Rattle.columns.proofs.read_column.Goals as goal

pub fields-f-requires : goal.fields-f-requires
unfolding words_of words_from
fields-f-requires c =
    let s = c.args.text.now in
    record { says = c.requires.says; at_value = rw c.member_value-v.ensures (member_value_lem s c.args.at c.requires.at_value).1; words_value = refl; words_len_bound = omega arith }

pub type_in-t-requires : goal.type_in-t-requires
unfolding words_of words_from
type_in-t-requires c = record { says = c.requires.says; p_value = c.fields-f.ensures.well 0 (omega arith); tables_value = c.requires.tables_value; tables_len_bound = c.requires.tables_len_bound }

pub returns : goal.returns
unfolding words_of words_from
returns c =
    let s = c.args.text.now in
    let at = c.args.at in
    let f = c.fields-f.result in
    let name = c.name_at-name.result in
    let t = c.type_in-t.result in
    let tables = map entry_name c.args.tables.now in
    let well = c.requires.at_value in
    let rest : List ℕ = drop 47 (replicate 48 0) in
    let k : Slots s column_words (members_in (member_of s at).value) f =
    subst (λ (x : Json). Slots s column_words (members_in x) f) (ap (tree_at s) c.member_value-v.ensures ∙ sym (member_value_lem s at well).0) c.fields-f.ensures in
    let short : get_or name 0 0 ≤ 24 = rw c.name_at-name.ensures (member_short s at well) in
    let r = column_read s tables (member_of s at) f k t c.type_in-t.ensures name rest (ap length c.name_at-name.ensures ∙ member_size s at well) short (λ h. ap text_of c.name_at-name.ensures ∙ member_name s at well h) in
    let q : column_allowed s f t.fits ≡ c.column_fits-fits.result = sym c.column_fits-fits.ensures in
    let m : (name ++ shape_bytes t (truth_or true (slot_tree s (get_or f 2 0)))) ++ rest ≡ c.put_column.new.out =
    sym (c.put_column.ensures ∙ ap (λ (b : Bool). (name ++ shape_bytes t b) ++ rest) c.truth_in-mutable.ensures) in
    subst (ColumnRead tables (member_of s at)) (λ i. record { fits = q i; cell = m i }) r
