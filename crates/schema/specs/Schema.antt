-- A schema's text as the entries of a catalog. Assumes nothing: these are definitions.
use Rattle.std.specs.Prelude.{ℕ, ◌≤◌, ◌<◌, ◌≡◌, Bool, true, false, ◌||◌, List, [], ◌∷◌, eqb, length, get_or, replicate, Some, None}
use Rattle.model.specs.Base.{every, is_some}
use Rattle.model.specs.Json.{Json}
use Rattle.model.specs.Catalog.{table_count, column_count, database_from, blank_entry}
use Rattle.model.specs.Limits.{most_tables, most_columns, entry_count}
use Rattle.model.specs.SchemaText.{is_string, is_string_of, is_version, schema_fits, database_of, read_schema}
use Rattle.catalog.specs.Accepted.{Accepted}
use Rattle.members.specs.Fields.{slot_tree}
use Rattle.tables.specs.Tables.{FewColumns}

-- the tests of a schema's members but tables, by its slots; id says whether its name is one
unfoldable pub rest_allowed : List ℕ → List ℕ → Bool → Bool
rest_allowed s f id =
    every
    (eqb (get_or f 9 0) 0
    ∷ id
    ∷ is_string_of is_version (slot_tree s (get_or f 1 0))
    ∷ (eqb (get_or f 3 0) 0 || is_string (slot_tree s (get_or f 3 0)))
    ∷ [])

-- what was read of the schema j
pub record Filled (j : Json) (r : Bool) (entries : List (List ℕ)) : Type 0 where
  pub fits : r ≡ schema_fits j
  pub database : r ≡ true → database_from entries ≡ database_of j
  pub tables : table_count entries ≤ most_tables
  pub columns : FewColumns entries

-- what was read of a schema's text: whether it is accepted, and its entries, which have room for what they say even where it is not, and are else free there
pub record EntriesRead (s : List ℕ) (r : Bool) (entries : List (List ℕ)) : Type 0 where
  pub accepted : r ≡ is_some (read_schema s)
  pub database : r ≡ true → read_schema s ≡ Some (database_from entries)
  pub size : length entries ≡ entry_count
  pub tables : table_count entries ≤ most_tables
  pub columns : (t : ℕ) → t < most_tables → column_count entries t ≤ most_columns

-- and its catalog, all 0 where it is not
pub record SchemaRead (s : List ℕ) (r : Bool) (catalog : List (List ℕ)) : Type 0 where
  pub refused : r ≡ false → read_schema s ≡ None
  pub blank : r ≡ false → catalog ≡ replicate entry_count blank_entry
  pub database : r ≡ true → read_schema s ≡ Some (database_from catalog)
  pub accepted : r ≡ true → Accepted catalog
