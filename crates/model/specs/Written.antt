-- Values as written in a request: elements, atoms by type, and what is judged of them as they stand. Assumes nothing: these are definitions.
use Rattle.std.specs.Prelude.{ℕ, suc, ◌+◌, ◌*◌, Bool, true, false, not, ◌&&◌, ◌||◌, List, [], ◌∷◌, eqb, ltb, leb, length, get_or, if◌then◌else◌, Option, Some, None}
use Rattle.model.specs.Base.{any, distinct, ascii}
use Rattle.model.specs.Limits.{most_elements, most_text_bytes}
use Rattle.model.specs.Strings.{hex_of}
use Rattle.model.specs.Json.{Json, null, bool, num, str, arr, obj, Named}
use Rattle.model.specs.Nav.{list_of}
use Rattle.model.specs.Members.{named_of, has_member, member_value}
use Rattle.model.specs.Text.{is_word}
use Rattle.model.specs.Whole.{whole_of, is_whole, whole_int}
use Rattle.model.specs.Schema.{Base, integer, boolean, text, uuid, Column, scalar}
use Rattle.model.specs.Value.{int_atom, bool_atom, text_atom, uuid_atom, all_in_limits, count_in_limits}
use Rattle.model.specs.Faults.{check, Judged}
use Rattle.model.specs.declared.Fault.{Fault}
use Rattle.model.specs.declared.Fault.TheVariants.{Fine, Syntax, Resources, Constraint}
use Rattle.model.specs.declared.Function.{Function}
use Rattle.model.specs.declared.Function.TheVariants.{Less, AtMost, Equal, Unequal, AtLeast, Greater, Includes, Excludes}

-- ── what kind of value a tree is ──
abbrev pub string_in : Json → Option (List ℕ)
string_in null = None
string_in (bool b) = None
string_in (num t) = None
string_in (str t) = Some t
string_in (arr xs) = None
string_in (obj ms) = None

abbrev pub array_in : Json → Option (List Json)
array_in null = None
array_in (bool b) = None
array_in (num t) = None
array_in (str t) = None
array_in (arr xs) = Some (list_of xs)
array_in (obj ms) = None

abbrev pub object_in : Json → Option (List Named)
object_in null = None
object_in (bool b) = None
object_in (num t) = None
object_in (str t) = None
object_in (arr xs) = None
object_in (obj ms) = Some (named_of ms)

-- the member of a name, the last one where it is given twice
abbrev pub member_named : List ℕ → List Named → Option Json
member_named w ms = elim (has_member w ms) [ true ↦ Some (member_value w ms) | false ↦ None ]

-- ── elements: "one element is written bare (read either way, scalars too), others as ["set",[..]]" ──
abbrev pub elements_of : Json → List Json → List Json
elements_of j [] = j ∷ []
elements_of j (a ∷ []) = j ∷ []
elements_of j (a ∷ b ∷ []) = elim (is_word (ascii "set") a) [ true ↦ elim (array_in b) [ None ↦ j ∷ [] | Some l ↦ l ] | false ↦ j ∷ [] ]
elements_of j (a ∷ b ∷ c ∷ l) = j ∷ []

abbrev pub elements_in : Json → List Json
elements_in j = elim (array_in j) [ None ↦ j ∷ [] | Some l ↦ elements_of j l ]

-- ── uuids: "36 characters of RFC 4122 form, either case" ──
abbrev pub is_dash : ℕ → Bool
is_dash at = eqb at 8 || eqb at 13 || eqb at 18 || eqb at 23

abbrev pub uuid_from : ℕ → ℕ → List ℕ → Option ℕ
uuid_from at acc [] = elim (eqb at 36) [ true ↦ Some acc | false ↦ None ]
uuid_from at acc (b ∷ bs) =
    elim (is_dash at) [
      | true ↦ elim (eqb b 45) [ true ↦ uuid_from (suc at) acc bs | false ↦ None ]
      | false ↦ elim (ltb (hex_of b) 16) [ true ↦ uuid_from (suc at) (acc * 16 + hex_of b) bs | false ↦ None ]
    ]

-- what a uuid-name stands for in this request: the fresh id of an insert
abbrev pub Names : Type 0
Names = List ℕ → Option ℕ

-- ["uuid", ..] or ["named-uuid", ..]
abbrev pub uuid_by : Names → Json → Option (List ℕ) → Option ℕ
uuid_by names a None = None
uuid_by names a (Some t) =
    elim (is_word (ascii "uuid") a) [ true ↦ uuid_from 0 0 t | false ↦ elim (is_word (ascii "named-uuid") a) [ true ↦ names t | false ↦ None ] ]

abbrev pub uuid_items : Names → List Json → Option ℕ
uuid_items names [] = None
uuid_items names (a ∷ []) = None
uuid_items names (a ∷ b ∷ []) = uuid_by names a (string_in b)
uuid_items names (a ∷ b ∷ c ∷ l) = None

abbrev pub uuid_in : Names → Json → Option ℕ
uuid_in names j = elim (array_in j) [ None ↦ None | Some l ↦ uuid_items names l ]

-- ── the atom that an element stands for, of a base type; none where it is mistyped ("a value of the wrong kind or shape", reading 23) ──
abbrev pub bool_in : Json → Option Bool
bool_in null = None
bool_in (bool b) = Some b
bool_in (num t) = None
bool_in (str t) = None
bool_in (arr xs) = None
bool_in (obj ms) = None

abbrev pub atom_in : Names → Base → Json → Option (List ℕ)
atom_in names integer j = elim (is_whole (whole_of j)) [ true ↦ Some (int_atom (whole_int (whole_of j))) | false ↦ None ]
atom_in names boolean j = elim (bool_in j) [ None ↦ None | Some b ↦ Some (bool_atom b) ]
atom_in names text j = elim (string_in j) [ None ↦ None | Some t ↦ Some (text_atom t) ]
atom_in names uuid j = elim (uuid_in names j) [ None ↦ None | Some i ↦ Some (uuid_atom i) ]

-- the atoms of all elements, in the text's order
abbrev pub atoms_in : Names → Base → List Json → Option (List (List ℕ))
atoms_in names k [] = Some []
atoms_in names k (j ∷ js) = elim (atom_in names k j) [ None ↦ None | Some a ↦ elim (atoms_in names k js) [ None ↦ None | Some l ↦ Some (a ∷ l) ] ]

-- ── what is judged of a value as written, each rule by the atoms ──
-- "a string or set above our limits"
abbrev pub long_atom : Base → List ℕ → Bool
long_atom integer a = false
long_atom boolean a = false
long_atom text a = ltb most_text_bytes (get_or a 0 0)
long_atom uuid a = false

abbrev pub fitting : Column → List (List ℕ) → Bool
fitting c l = leb (length l) most_elements && not (any (long_atom c.base) l)

-- a value in a row: "range, length, count, equal elements in any set given"
abbrev pub row_fault : Column → List (List ℕ) → Fault
row_fault c l =
    check (fitting c l) Resources
    (check (distinct l && all_in_limits c l && count_in_limits c (length l)) Constraint Fine)

-- "a mutation's insert may have fewer than the minimum, its delete any count"; "range and length limits bind .. a mutation's insert and its delete" (reading 30)
abbrev pub insert_fault : Column → List (List ℕ) → Fault
insert_fault c l =
    check (fitting c l) Resources
    (check (distinct l && all_in_limits c l && leb (length l) c.max) Constraint Fine)

abbrev pub delete_fault : Column → List (List ℕ) → Fault
delete_fault c l = check (distinct l && all_in_limits c l) Constraint Fine

-- "an arithmetic operand that is not exactly one element" (reading 26)
abbrev pub operand_fault : List (List ℕ) → Fault
operand_fault l = check (eqb (length l) 1) Constraint Fine

-- "For sets, includes and excludes may have fewer than the minimum, excludes more than the maximum"; "Scalar conditions take exactly one element" (reading 27)
abbrev pub set_count : Column → Function → ℕ → Bool
set_count c Less n = true
set_count c AtMost n = true
set_count c Equal n = count_in_limits c n
set_count c Unequal n = count_in_limits c n
set_count c AtLeast n = true
set_count c Greater n = true
set_count c Includes n = leb n c.max
set_count c Excludes n = true

abbrev pub test_fault : Column → Function → List (List ℕ) → Fault
test_fault c f l = check (distinct l && (if scalar c then eqb (length l) 1 else set_count c f (length l))) Constraint Fine

-- a value as written and judged: its atoms in the text's order
abbrev pub written : Names → Base → (List (List ℕ) → Fault) → Json → Judged (List (List ℕ))
written names k judge j = elim (atoms_in names k (elements_in j)) [ None ↦ record { fault = Syntax; got = [] } | Some l ↦ record { fault = judge l; got = l } ]
