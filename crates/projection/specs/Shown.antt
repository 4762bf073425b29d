-- The object of a selected row, by flags for what is shown: 0 for "_uuid", 1 + c for column c. `Rattle.projection.proofs.Rows` says that it is the model's row_text. Assumes nothing: these are definitions.
use Rattle.std.specs.Prelude.{ℕ, zero, suc, ◌+◌, Bool, true, false, not, List, [], ◌∷◌, ◌++◌, get_or}
use Rattle.model.specs.Base.{ascii}
use Rattle.model.specs.Catalog.{base_numbered, base_offset, entry_name, column_place, column_count}
use Rattle.inner.specs.Working.{id_in, value_in}
use Rattle.model.specs.Answers.{quoted, uuid_text, member_text, value_text}
use Rattle.json_writer.specs.Texts.{comma_text, joined}

-- a member's name and the colon
unfoldable pub name_text : List ℕ → List ℕ
name_text name = quoted name ++ (58 ∷ [])

-- a column's member, by its cell of the schema
unfoldable pub column_text : List ℕ → List (List ℕ) → ℕ → List ℕ
column_text cell row c = member_text (entry_name cell) (value_text (base_numbered (get_or cell base_offset 0)) (value_in c row))

unfoldable pub row_id_text : List (List ℕ) → List ℕ
row_id_text row = member_text (ascii "_uuid") (uuid_text (id_in row))

-- a member where it is shown, after a comma if others came before
unfoldable pub shown_text : Bool → Bool → List ℕ → List ℕ
shown_text show first t = elim show [ true ↦ comma_text first ++ t | false ↦ [] ]

-- the members of k columns from c on, whose cells begin at `from`
abbrev pub shown_from : List (List ℕ) → ℕ → List (List ℕ) → List Bool → ℕ → ℕ → List (List ℕ)
shown_from schema from row shown c zero = []
shown_from schema from row shown c (suc k) =
    elim (get_or shown (c + 1) false) [
      | true ↦ column_text (get_or schema (from + c) []) row c ∷ shown_from schema from row shown (suc c) k
      | false ↦ shown_from schema from row shown (suc c) k
    ]

-- the whole object
unfoldable pub row_shown : List (List ℕ) → ℕ → List (List ℕ) → List Bool → List ℕ
row_shown schema t row shown =
    let show = get_or shown 0 false in
    123 ∷ (shown_text show true (row_id_text row) ++ (joined (not show) (shown_from schema (column_place t 0) row shown 0 (column_count schema t)) ++ (125 ∷ [])))
