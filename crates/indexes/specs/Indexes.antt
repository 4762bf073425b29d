-- Indexes as written, few and of short names, and as bytes. Assumes nothing: these are definitions.
use Rattle.std.specs.Prelude.{ℕ, ◌+◌, ◌≤◌, ◌≡◌, Bool, ◌&&◌, List, leb, length, get_or, take, drop}
use Rattle.model.specs.Base.{all}
use Rattle.model.specs.Limits.{most_text_bytes, most_indexes, most_index_columns}
use Rattle.model.specs.Json.{Json, Named}
use Rattle.model.specs.Nav.{items_in}
use Rattle.model.specs.Catalog.{indexes_offset, second_index_offset, indexes_from}
use Rattle.model.specs.SchemaText.{is_string_of, index_fits}

-- at most two items that are indexes
unfoldable pub few_fit : List Named → Json → Bool
few_fit columns j = leb (length (items_in j)) most_indexes && all (index_fits columns) (items_in j)

-- a name that a cell holds; an index of at most three of them; at most two such indexes
unfoldable pub is_short : Json → Bool
is_short j = is_string_of (λ (t : List ℕ). leb (length t) most_text_bytes) j

unfoldable pub short_index : Json → Bool
short_index j = leb (length (items_in j)) most_index_columns && all is_short (items_in j)

unfoldable pub short_indexes : Json → Bool
short_indexes j = leb (length (items_in j)) most_indexes && all short_index (items_in j)

-- an index in bytes: how many columns, and their numbers
pub record Index (bytes columns : List ℕ) : Type 0 where
  pub size : length bytes ≡ 1 + most_index_columns
  pub few : get_or bytes 0 0 ≤ most_index_columns
  pub holds : take (get_or bytes 0 0) (drop 1 bytes) ≡ columns

-- where the indexes of a table's cell end
abbrev pub indexes_end : ℕ
indexes_end = second_index_offset + 1 + most_index_columns

-- a table's cell with its indexes, the other bytes as they were
pub record Stored (before after : List ℕ) (indexes : List (List ℕ)) : Type 0 where
  pub front : take indexes_offset after ≡ take indexes_offset before
  pub back : drop indexes_end after ≡ drop indexes_end before
  pub holds : indexes_from after ≡ indexes
