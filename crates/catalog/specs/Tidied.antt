-- Entries written anew from what they say, so that no unused byte is left. Assumes nothing: these are definitions.
use Rattle.std.specs.Prelude.{ℕ, ◌+◌, ◌-◌, ◌*◌, ◌≤◌, ◌<◌, ◌≡◌, true, List, ◌∷◌, ◌++◌, map, length, get_or, replicate}
use Rattle.model.specs.Octets.{big}
use Rattle.model.specs.Limits.{most_tables, most_columns, most_indexes, most_index_columns, entry_count}
use Rattle.model.specs.Base.{is_some, flat}
use Rattle.model.specs.Sane.{sane}
use Rattle.model.specs.Catalog.{columns_offset, root_offset, tables_offset, column_count, database_from, entry_name, is_set, indexes_from, max_rows_from, name_bytes, bit, index_bytes, number_or0}

-- the database's
unfoldable pub database_tidied : List ℕ → List ℕ
database_tidied e = name_bytes (entry_name e) ++ get_or e tables_offset 0 ∷ replicate 22 0

-- a table's
unfoldable pub table_tidied : List ℕ → List ℕ
table_tidied e =
    name_bytes (entry_name e)
    ++ (get_or e columns_offset 0 ∷ bit (is_set e root_offset) ∷ bit (is_some (max_rows_from e)) ∷ big 8 (number_or0 (max_rows_from e))
    ++ (length (indexes_from e) ∷ (flat (map index_bytes (indexes_from e)) ++ replicate ((1 + most_index_columns) * (most_indexes - length (indexes_from e))) 0) ++ replicate 3 0))

-- entries as a schema's text was read into them: they say a database that keeps the rules, and have room for what they say
pub record Readable (cells : List (List ℕ)) : Type 0 where
  pub size : length cells ≡ entry_count
  pub sane : sane (database_from cells) ≡ true
  pub wide : (t : ℕ) → t < most_tables → column_count cells t ≤ most_columns
