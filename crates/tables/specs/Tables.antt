-- Tables as cells. Assumes nothing: these are definitions.
use Rattle.std.specs.Prelude.{ℕ, ◌-◌, ◌≤◌, ◌<◌, ◌≡◌, Bool, true, ◌||◌, List, [], ◌∷◌, ◌++◌, map, eqb, leb, length, get_or, take, drop, replicate}
use Rattle.model.specs.Limits.{most_tables, most_columns, most_text_bytes, atom_bytes, entry_bytes}
use Rattle.model.specs.declared.Whole.{Whole}
use Rattle.model.specs.Base.{all, every}
use Rattle.model.specs.Json.{Json, Named, member_at, value_at}
use Rattle.inner.specs.Positions.{tree_at}
use Rattle.model.specs.Nav.{kind_of, is_truth, is_read, items_in}
use Rattle.model.specs.Members.{members_in, counting}
use Rattle.model.specs.Schema.{Table}
use Rattle.model.specs.Catalog.{columns_offset, root_offset, indexes_offset, entry_name, column_from, is_set, max_rows_from, indexes_from, column_count, tables_from}
use Rattle.model.specs.SchemaText.{names, is_id, is_within, index_of, indexes_fit, table_fits, table_of, tables_fit}
use Rattle.names.specs.Names.{name_cell}
use Rattle.members.specs.Fields.{most_words, slot_tree}
use Rattle.columns.specs.Parts.{member_of}
use Rattle.tables.specs.declared.Read.{Read}

-- the tests of a table's members but columns and indexes, by its slots
unfoldable pub rest_allowed : List ℕ → List ℕ → Whole → Bool
rest_allowed s f w =
    every (eqb (get_or f most_words 0) 0 ∷ (eqb (get_or f 1 0) 0 || is_within 1 9223372036854775807 w) ∷ (eqb (get_or f 2 0) 0 || is_truth (kind_of (slot_tree s (get_or f 2 0)))) ∷ [])

-- the indexes in a slot, of a table that has the columns ms, whose names are ns; a cell that had none has them now
pub record IndexesIn (s : List ℕ) (p : ℕ) (ms : List Named) (ns : List (List ℕ)) (r : Bool) (before after : List ℕ) : Type 0 where
  pub fits : r ≡ (eqb p 0 || indexes_fit ms (slot_tree s p))
  pub front : take indexes_offset after ≡ take indexes_offset before
  pub holds : r ≡ true → get_or before indexes_offset 0 ≡ 0 → indexes_from after ≡ map (index_of ns) (items_in (slot_tree s p))

-- a cell with a name and no indexes
pub record NameOnly (cell : List ℕ) : Type 0 where
  pub size : length cell ≡ entry_bytes
  pub short : get_or cell 0 0 ≤ most_text_bytes
  pub none : get_or cell indexes_offset 0 ≡ 0

-- the table of a cell and the cells of its columns
unfoldable pub table_with : List ℕ → List (List ℕ) → Table
table_with cell columns =
    record {
      name = entry_name cell;
      columns = map column_from (take (get_or cell columns_offset 0) columns);
      root = is_set cell root_offset;
      max_rows = max_rows_from cell;
      indexes = indexes_from cell;
    }

-- what was read of the table j, which has the name w: its cell, and its columns at the front of some cells
pub record TableRead (tables : List (List ℕ)) (w : List ℕ) (j : Json) (r : Read) (before after : List (List ℕ)) : Type 0 where
  pub fits : r.fits ≡ table_fits tables j
  pub table : r.fits ≡ true → table_with r.cell after ≡ table_of tables (record { name = w; value = j })
  pub few : r.fits ≡ true → get_or r.cell columns_offset 0 ≤ most_columns
  pub rest : drop most_columns after ≡ drop most_columns before

-- the cell of the name that stands at a place
unfoldable pub head_at : List ℕ → ℕ → List ℕ
head_at s p = name_cell (tree_at s p) ++ replicate (entry_bytes - atom_bytes) 0

-- cells with the names of the members at the first places, which are ids; the members are read well
pub record Heads (s places : List ℕ) (heads : List (List ℕ)) : Type 0 where
  pub few : length heads ≤ most_tables
  pub fit : length heads ≤ length places
  pub only : (i : ℕ) → i < length heads → NameOnly (get_or heads i [])
  pub named : map entry_name heads ≡ map (λ (p : ℕ). (member_of s p).name) (take (length heads) places)
  pub ids : all is_id (map entry_name heads) ≡ true
  pub well : (i : ℕ) → i < length heads → is_read (member_at (value_at 12 s) s (get_or places i 0)).read ≡ true

-- no table has too many columns
unfoldable pub FewColumns : List (List ℕ) → Type 0
FewColumns cells = (t : ℕ) → t < most_tables → column_count cells t ≤ most_columns

-- whether the member at a place is a table that fits, and the table, where the tables have these names
abbrev pub place_fits : List ℕ → List (List ℕ) → ℕ → Bool
place_fits s tables p = table_fits tables (member_of s p).value

abbrev pub place_table : List ℕ → List (List ℕ) → ℕ → Table
place_table s tables p = table_of tables (member_of s p)

-- what was read of the tables at the first places, into a schema's cells
pub record EachRead (s places : List ℕ) (heads : List (List ℕ)) (r : Bool) (before after : List (List ℕ)) : Type 0 where
  pub fits : r ≡ all (place_fits s (map entry_name heads)) (take (length heads) places)
  pub tables : r ≡ true → tables_from after 0 (length heads) ≡ map (place_table s (map entry_name heads)) (take (length heads) places)
  pub first : get_or after 0 [] ≡ get_or before 0 []
  pub columns : FewColumns before → FewColumns after

-- what was read of the tables j: r of them, above the most where they do not fit
pub record TablesRead (j : Json) (r : ℕ) (before after : List (List ℕ)) : Type 0 where
  pub fits : leb r most_tables ≡ tables_fit j
  pub tables : leb r most_tables ≡ true → tables_from after 0 r ≡ map (table_of (names (counting (members_in j)))) (counting (members_in j))
  pub first : get_or after 0 [] ≡ get_or before 0 []
  pub columns : FewColumns before → FewColumns after
