-- The text of answers: "Answers have no spaces." Assumes nothing: these are definitions.
use Rattle.std.specs.Prelude.{ℕ, zero, suc, ◌+◌, ◌/◌, ◌%◌, true, false, List, [], ◌∷◌, ◌++◌, map, eqb, ltb, ℤ, pos, negsuc, get_or}
use Rattle.model.specs.Octets.{big}
use Rattle.model.specs.Base.{flat, ascii}
use Rattle.model.specs.Schema.{Base, integer, boolean, text, uuid}
use Rattle.model.specs.Value.{Value, elements, int_of, text_of, uuid_of}
use Rattle.model.specs.Faults.{words}
use Rattle.model.specs.declared.Fault.{Fault}

-- a number in decimal digits, of which it has at most so many, before what follows
abbrev pub digits_before : ℕ → ℕ → List ℕ → List ℕ
digits_before zero n rest = rest
digits_before (suc k) n rest = elim (ltb n 10) [ true ↦ (48 + n) ∷ rest | false ↦ digits_before k (n / 10) ((48 + n % 10) ∷ rest) ]

abbrev pub decimal : ℕ → List ℕ
decimal n = digits_before 20 n []

abbrev pub integer_text : ℤ → List ℕ
integer_text (pos n) = decimal n
integer_text (negsuc n) = 45 ∷ decimal (suc n)

-- "Only the quote, the backslash and bytes below 0x20 (as \u00xx, lower case) are escaped"
abbrev pub hex_digit : ℕ → ℕ
hex_digit d = elim (ltb d 10) [ true ↦ 48 + d | false ↦ 87 + d ]

abbrev pub escaped : ℕ → List ℕ
escaped b =
    elim (eqb b 34) [
      | true ↦ 92 ∷ 34 ∷ []
      | false ↦ elim (eqb b 92) [
        | true ↦ 92 ∷ 92 ∷ []
        | false ↦ elim (ltb b 32) [ true ↦ 92 ∷ 117 ∷ 48 ∷ 48 ∷ hex_digit (b / 16) ∷ hex_digit (b % 16) ∷ [] | false ↦ b ∷ [] ]
      ]
    ]

abbrev pub quoted : List ℕ → List ℕ
quoted t = 34 ∷ flat (map escaped t) ++ 34 ∷ []

-- "Uuids are lower case": 8, 4, 4, 4 and 12 digits
abbrev pub hex_pair : ℕ → List ℕ
hex_pair b = hex_digit (b / 16) ∷ hex_digit (b % 16) ∷ []

abbrev pub dash_before : ℕ → List ℕ
dash_before k = elim (eqb k 4) [ true ↦ 45 ∷ [] | false ↦ elim (eqb k 6) [ true ↦ 45 ∷ [] | false ↦ elim (eqb k 8) [ true ↦ 45 ∷ [] | false ↦ elim (eqb k 10) [ true ↦ 45 ∷ [] | false ↦ [] ] ] ] ]

abbrev pub uuid_digits : ℕ → List ℕ → List ℕ
uuid_digits k [] = []
uuid_digits k (b ∷ bs) = dash_before k ++ (hex_pair b ++ uuid_digits (suc k) bs)

abbrev pub uuid_text : ℕ → List ℕ
uuid_text i = ascii "[\"uuid\",\"" ++ (uuid_digits 0 (big 16 i) ++ ascii "\"]")

-- texts with a comma between two
abbrev pub commas : List (List ℕ) → List ℕ
commas [] = []
commas (t ∷ []) = t
commas (t ∷ u ∷ l) = t ++ (44 ∷ commas (u ∷ l))

abbrev pub bracketed : List (List ℕ) → List ℕ
bracketed l = 91 ∷ commas l ++ 93 ∷ []

abbrev pub braced : List (List ℕ) → List ℕ
braced l = 123 ∷ commas l ++ 125 ∷ []

-- an atom and a value: "one element is written bare .., others as ["set",[..]]"
abbrev pub bool_text : ℕ → List ℕ
bool_text b = elim (eqb b 0) [ true ↦ ascii "false" | false ↦ ascii "true" ]

abbrev pub atom_text : Base → List ℕ → List ℕ
atom_text integer a = integer_text (int_of a)
atom_text boolean a = bool_text (get_or a 0 0)
atom_text text a = quoted (text_of a)
atom_text uuid a = uuid_text (uuid_of a)

abbrev pub elements_text : List (List ℕ) → List ℕ
elements_text [] = ascii "[\"set\",[]]"
elements_text (t ∷ []) = t
elements_text (t ∷ u ∷ l) = ascii "[\"set\"," ++ (bracketed (t ∷ u ∷ l) ++ 93 ∷ [])

abbrev pub value_text : Base → Value → List ℕ
value_text k v = elements_text (map (atom_text k) (elements v))

abbrev pub member_text : List ℕ → List ℕ → List ℕ
member_text name t = quoted name ++ (58 ∷ t)

-- the results of operations
abbrev pub count_text : ℕ → List ℕ
count_text k = braced (member_text (ascii "count") (decimal k) ∷ [])

abbrev pub insert_text : ℕ → List ℕ
insert_text i = braced (member_text (ascii "uuid") (uuid_text i) ∷ [])

abbrev pub rows_text : List (List ℕ) → List ℕ
rows_text l = braced (member_text (ascii "rows") (bracketed l) ∷ [])

abbrev pub error_text : Fault → List ℕ
error_text f = braced (member_text (ascii "error") (quoted (words f)) ∷ [])
