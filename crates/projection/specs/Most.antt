-- How many bytes each text of a selected row has at most. Assumes nothing: these are definitions.
use Rattle.std.specs.Prelude.{ℕ, ◌+◌, ◌*◌, ◌-◌}
use Rattle.model.specs.Limits.{most_columns, entry_bytes}
use Rattle.json_writer.specs.Most.{escaped_most, id_most, value_most}

-- a name in quotes and the colon
abbrev pub name_most : ℕ
name_most = escaped_most * (entry_bytes - 1) + 3

-- a column's name and value, and a comma before them
abbrev pub column_most : ℕ
column_most = name_most + value_most

abbrev pub shown_most : ℕ
shown_most = 1 + column_most

-- "_uuid": and the id
abbrev pub row_id_most : ℕ
row_id_most = 8 + id_most

-- all columns, and the object of a row
abbrev pub columns_most : ℕ
columns_most = most_columns * shown_most

abbrev pub row_most : ℕ
row_most = 2 + row_id_most + columns_most
