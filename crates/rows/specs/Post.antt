-- What the functions of this crate leave: parts of their promises by name. Assumes nothing: these are definitions.
use Rattle.std.specs.Prelude.{◌≡◌, true, false, List, [], ℕ, ◌+◌, ◌-◌, ◌*◌, ◌^◌, ◌≤◌, ◌<◌, eqb, length, get_or, take, Option, Some, None}
use Rattle.model.specs.Limits.{atom_bytes, most_columns, id_offset, id_bytes, counts_offset}
use Rattle.model.specs.Octets.{part}
use Rattle.model.specs.Schema.{Schema, columns_of}
use Rattle.model.specs.Value.{Value}
use Rattle.model.specs.Rows.{key_of, add, remove, set_column}
use Rattle.model.specs.Areas.{row_from}
use Rattle.inner.specs.Working.{working, table_in, key_in, with_value, TidyRow, Tidy, Ordered, place, removed}

-- half of an id's bytes; a key by its table and both halves of its id
abbrev pub word_bytes : ℕ
word_bytes = 8

unfoldable pub key_of_halves : ℕ → ℕ → ℕ → ℕ
key_of_halves t high low = key_of t (high * 256 ^ word_bytes + low)

-- a key is above those of all rows before a place, and below those of all rows from another on
pub record Narrowed (n k : ℕ) (cells : List (List (List ℕ))) (from to : ℕ) : Type 0 where
  pub within : (from ≤ to) × (to ≤ n)
  pub above : (i : ℕ) → i < from → key_in (get_or cells i []) < k
  pub below : (i : ℕ) → to ≤ i → i < n → k < key_in (get_or cells i [])

-- which of four rows from i on has a key: those before it have not; 4 where none has
pub record OfFour (k : ℕ) (cells : List (List (List ℕ))) (i r : ℕ) : Type 0 where
  pub most : r ≤ 4
  pub others : (j : ℕ) → j < r → eqb k (key_in (get_or cells (i + j) [])) ≡ false
  pub here : r < 4 → eqb k (key_in (get_or cells (i + r) [])) ≡ true

-- a key looked for among the rows from one place up to another
abbrev pub Sought : ℕ → List (List (List ℕ)) → ℕ → ℕ → Option ℕ → Type 0
Sought k cells from to (Some i) = (i < to) × (eqb k (key_in (get_or cells i [])) ≡ true)
Sought k cells from to None = (i : ℕ) → from ≤ i → i < to → eqb k (key_in (get_or cells i [])) ≡ false

-- a row's table and id, and its id alone, in the first of its cells
pub record KeyBytes (b : List ℕ) (cells : List (List ℕ)) : Type 0 where
  pub head : length (get_or cells 0 []) ≡ atom_bytes
  pub bytes : b ≡ take counts_offset (get_or cells 0 [])
  pub size : length b ≡ counts_offset

pub record IdBytes (b : List ℕ) (cells : List (List ℕ)) : Type 0 where
  pub bytes : b ≡ part id_offset id_bytes (get_or cells 0 [])
  pub size : length b ≡ id_bytes

-- a row added in its place among the first n
pub record Added (n : ℕ) (row : List (List ℕ)) (entry exit : List (List (List ℕ))) : Type 0 where
  pub rows : (s : Schema) → working s (n + 1) exit ≡ add (row_from s row) (working s n entry)
  pub tidy : (s : Schema) → Tidy s (take n entry) → TidyRow s row → Tidy s (take (n + 1) exit)

-- the row at i taken out of the first n: the one under a key, where i is its place
pub record Removed (n i : ℕ) (entry exit : List (List (List ℕ))) : Type 0 where
  pub rows : (s : Schema) → working s (n - 1) exit ≡ removed i (working s n entry)
  pub key : (s : Schema) (k : ℕ) → place k (working s n entry) ≡ Some i → working s (n - 1) exit ≡ remove k (working s n entry)
  pub tidy : (s : Schema) → Tidy s (take n entry) → Tidy s (take (n - 1) exit)
  pub ordered : Ordered n entry → Ordered (n - 1) exit

-- column c of a row set
pub record ColumnSet (c : ℕ) (v : Value) (entry exit : List (List ℕ)) : Type 0 where
  pub cells : exit ≡ with_value c v entry
  pub row : (s : Schema) → row_from s exit ≡ set_column c v (row_from s entry)
  pub tidy : (s : Schema) → c < length (columns_of s (table_in entry)) → length (columns_of s (table_in entry)) ≤ most_columns → TidyRow s entry → TidyRow s exit
