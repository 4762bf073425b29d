-- The rules of document 01 on schemas, of the database that a text is read as: all but those on what a database does not keep (the text's form and length, version, cksum, ephemeral). What is accepted keeps them (`read_sane`), and an area in good order holds such a database. Assumes nothing: these are definitions.
use Rattle.std.specs.Prelude.{ℕ, Bool, true, not, ◌&&◌, ◌||◌, List, [], ◌∷◌, map, ltb, leb, ℤ, length, Option, Some, None}
use Rattle.std.specs.Int.Signed.{le_z}
use Rattle.model.specs.Base.{all, every, distinct}
use Rattle.model.specs.Limits.{most_tables, most_columns, most_elements, most_indexes, most_index_columns}
use Rattle.model.specs.Schema.{Base, boolean, uuid, Refers, plain, strong, weak, Column, Table, Database}
use Rattle.model.specs.SchemaText.{is_id, same_base, least, greatest}

-- "a refTable the schema .. doesn't list": a reference goes to one of n tables
abbrev pub refers_below : ℕ → Refers → Bool
refers_below n plain = true
refers_below n (strong t) = ltb t n
refers_below n (weak t) = ltb t n

-- only a uuid refers
abbrev pub refers_as : Base → Refers → Bool
refers_as b plain = true
refers_as b (strong t) = same_base b uuid
refers_as b (weak t) = same_base b uuid

-- an integer of 64 bits; and the limits of a type that has none are the least and the greatest
abbrev pub is_narrow : ℤ → Bool
is_narrow z = le_z least z && le_z z greatest

abbrev pub is_free : Base → Bool
is_free b = same_base b boolean || same_base b uuid

abbrev pub limits_as : Base → ℤ → ℤ → Bool
limits_as b low high = not (is_free b) || (le_z low least && le_z greatest high)

-- of a column in a schema of n tables: an id, "min (0 or 1), max (1 to 4 .., not below min)", and no "lower limit above its upper one"
abbrev pub column_sane : ℕ → Column → List Bool
column_sane n c =
    is_id c.name
    ∷ leb c.min 1
    ∷ leb 1 c.max
    ∷ leb c.max most_elements
    ∷ leb c.min c.max
    ∷ le_z c.low c.high
    ∷ refers_below n c.refers
    ∷ refers_as c.base c.refers
    ∷ is_narrow c.low
    ∷ is_narrow c.high
    ∷ limits_as c.base c.low c.high
    ∷ []

unfoldable pub sane_column : ℕ → Column → Bool
sane_column n c = every (column_sane n c)

-- an index of a table of n columns
abbrev pub index_sane : ℕ → List ℕ → List Bool
index_sane n l = leb 1 (length l) ∷ leb (length l) most_index_columns ∷ all (λ (k : ℕ). ltb k n) l ∷ []

unfoldable pub sane_index : ℕ → List ℕ → Bool
sane_index n l = every (index_sane n l)

-- "maxRows (1 or more)", and an integer
abbrev pub max_rows_sane : Option ℕ → Bool
max_rows_sane None = true
max_rows_sane (Some k) = leb 1 k && leb k 9223372036854775807

-- a table of a schema of n tables
abbrev pub table_sane : ℕ → Table → List Bool
table_sane n t =
    is_id t.name
    ∷ leb (length t.columns) most_columns
    ∷ all (sane_column n) t.columns
    ∷ leb (length t.indexes) most_indexes
    ∷ all (sane_index (length t.columns)) t.indexes
    ∷ distinct (map (λ (c : Column). c.name) t.columns)
    ∷ max_rows_sane t.max_rows
    ∷ []

unfoldable pub sane_table : ℕ → Table → Bool
sane_table n t = every (table_sane n t)

abbrev pub database_sane : Database → List Bool
database_sane d =
    is_id d.name ∷ leb (length d.tables) most_tables ∷ all (sane_table (length d.tables)) d.tables ∷ distinct (map (λ (t : Table). t.name) d.tables) ∷ []

unfoldable pub sane : Database → Bool
sane d = every (database_sane d)
