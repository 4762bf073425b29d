-- How many bytes each text of an answer has at most. Assumes nothing: these are definitions.
use Rattle.std.specs.Prelude.{ℕ, ◌+◌, ◌*◌}
use Rattle.model.specs.Limits.{most_elements, most_text_bytes, id_bytes}

-- a number of 64 bits in decimal, and with its sign
abbrev pub decimal_most : ℕ
decimal_most = 20

abbrev pub integer_most : ℕ
integer_most = 1 + decimal_most

-- a byte of a string, "\\u001f"
abbrev pub escaped_most : ℕ
escaped_most = 6

-- an id's digits and dashes, and an id, ["uuid",".."]
abbrev pub digits_most : ℕ
digits_most = 3 * id_bytes

abbrev pub id_most : ℕ
id_most = 11 + digits_most

-- an atom: the longest is a string in quotes
abbrev pub text_most : ℕ
text_most = escaped_most * most_text_bytes + 2

-- atoms with commas, and a value, ["set",[..]]
abbrev pub atoms_most : ℕ
atoms_most = most_elements * (1 + text_most)

abbrev pub value_most : ℕ
value_most = 12 + atoms_most

-- the results of operations: null, {"count":..}, {"uuid":..}, {"error":".."}
abbrev pub null_most : ℕ
null_most = 4

abbrev pub count_most : ℕ
count_most = 10 + decimal_most

abbrev pub insert_most : ℕ
insert_most = 9 + id_most

abbrev pub words_most : ℕ
words_most = 31

abbrev pub error_most : ℕ
error_most = 12 + words_most
