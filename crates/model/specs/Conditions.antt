-- Conditions: [column, function, value] (RFC 7047, 5.1), and the rows that meet them. Assumes nothing: these are definitions.
use Rattle.std.specs.Prelude.{ℕ, Bool, true, false, not, ◌&&◌, ◌||◌, List, [], ◌∷◌, eqb, ℤ, pos, get_or, if◌then◌else◌, Option, Some, None}
use Rattle.std.specs.Int.Signed.{lt_z, le_z}
use Rattle.model.specs.Octets.{eq_bytes}
use Rattle.model.specs.Base.{any, all, member, eq_lists, ascii, nth}
use Rattle.model.specs.Json.{Json}
use Rattle.model.specs.Schema.{Base, integer, boolean, text, uuid, plain, Column, scalar, column_named}
use Rattle.model.specs.Value.{Value, elements, blank, int_of, uuid_atom, sorted, value_of}
use Rattle.model.specs.Rows.{Row, column_value}
use Rattle.model.specs.Faults.{Judged, earlier}
use Rattle.model.specs.Written.{Names, string_in, array_in, test_fault, written}
use Rattle.model.specs.declared.Fault.TheVariants.{Fine, Syntax}
use Rattle.model.specs.declared.Function.{Function}
use Rattle.model.specs.declared.Function.TheVariants.{Less, AtMost, Equal, Unequal, AtLeast, Greater, Includes, Excludes}

-- an array of a name, a word and a value, as conditions and mutations are
pub record Triple : Type 0 where
  pub name : List ℕ
  pub word : List ℕ
  pub value : Json

abbrev pub triple_of : Option (List ℕ) → Option (List ℕ) → Json → Option Triple
triple_of None w v = None
triple_of (Some n) None v = None
triple_of (Some n) (Some w) v = Some (record { name = n; word = w; value = v })

abbrev pub triple_items : List Json → Option Triple
triple_items [] = None
triple_items (a ∷ []) = None
triple_items (a ∷ b ∷ []) = None
triple_items (a ∷ b ∷ c ∷ []) = triple_of (string_in a) (string_in b) c
triple_items (a ∷ b ∷ c ∷ d ∷ l) = None

abbrev pub triple_in : Json → Option Triple
triple_in j = elim (array_in j) [ None ↦ None | Some l ↦ triple_items l ]

-- a column and its place in the table; "_uuid" is a uuid scalar that has none (reading 21)
pub record Subject : Type 0 where
  pub place : Option ℕ
  pub column : Column

abbrev pub id_column : Column
id_column =
    record {
      name = ascii "_uuid";
      base = uuid;
      refers = plain;
      min = 1;
      max = 1;
      low = pos 0;
      high = pos 0;
      mutable = false;
    }

abbrev pub place_subject : List Column → Option ℕ → Option Subject
place_subject cs None = None
place_subject cs (Some k) = elim (nth cs k) [ None ↦ None | Some c ↦ Some (record { place = Some k; column = c }) ]

abbrev pub subject_named : List Column → List ℕ → Option Subject
subject_named cs w = elim (eq_bytes w (ascii "_uuid")) [ true ↦ Some (record { place = None; column = id_column }) | false ↦ place_subject cs (column_named cs w) ]

abbrev pub subject_value : Option ℕ → Row → Value
subject_value None r = value_of (uuid_atom r.id ∷ [])
subject_value (Some k) r = column_value r k

-- the function of a word
abbrev pub function_named : List ℕ → Option Function
function_named w =
    if eq_bytes w (ascii "<") then Some Less
    else if eq_bytes w (ascii "<=") then Some AtMost
    else if eq_bytes w (ascii "==") then Some Equal
    else if eq_bytes w (ascii "!=") then Some Unequal
    else if eq_bytes w (ascii ">=") then Some AtLeast
    else if eq_bytes w (ascii ">") then Some Greater
    else if eq_bytes w (ascii "includes") then Some Includes
    else if eq_bytes w (ascii "excludes") then Some Excludes
    else None

-- "integers take all eight functions; other scalars and sets ==, !=, includes, excludes"
abbrev pub is_integer_base : Base → Bool
is_integer_base integer = true
is_integer_base boolean = false
is_integer_base text = false
is_integer_base uuid = false

abbrev pub orders : Function → Bool
orders Less = true
orders AtMost = true
orders Equal = false
orders Unequal = false
orders AtLeast = true
orders Greater = true
orders Includes = false
orders Excludes = false

abbrev pub allowed : Column → Function → Bool
allowed c f = not (orders f) || (is_integer_base c.base && scalar c)

-- a condition as read
pub record Test : Type 0 where
  pub place : Option ℕ
  pub base : Base
  pub function : Function
  pub atoms : List (List ℕ)

abbrev pub no_test : Judged Test
no_test = record { fault = Syntax; got = record { place = None; base = uuid; function = Equal; atoms = [] } }

abbrev pub test_by : Names → Json → Subject → Function → Judged Test
test_by names j s f =
    let w = written names s.column.base (test_fault s.column f) j in
    if allowed s.column f then record { fault = w.fault; got = record { place = s.place; base = s.column.base; function = f; atoms = w.got } }
    else no_test

abbrev pub test_of : Names → Json → Option Subject → Option Function → Judged Test
test_of names j None f = no_test
test_of names j (Some s) None = no_test
test_of names j (Some s) (Some f) = test_by names j s f

abbrev pub read_test : Names → List Column → Json → Judged Test
read_test names cs j = elim (triple_in j) [ None ↦ no_test | Some t ↦ test_of names t.value (subject_named cs t.name) (function_named t.word) ]

abbrev pub read_tests : Names → List Column → List Json → Judged (List Test)
read_tests names cs [] = record { fault = Fine; got = [] }
read_tests names cs (j ∷ js) =
    let t = read_test names cs j in
    let ts = read_tests names cs js in
    record { fault = earlier t.fault ts.fault; got = t.got ∷ ts.got }

-- ── what a condition says of a value: of the elements xs that the column has and those that were written ──
abbrev pub first_int : List (List ℕ) → ℤ
first_int l = int_of (get_or l 0 blank)

abbrev pub compare : Function → Base → List (List ℕ) → List (List ℕ) → Bool
compare Less k xs l = lt_z (first_int xs) (first_int l)
compare AtMost k xs l = le_z (first_int xs) (first_int l)
compare Equal k xs l = eq_lists xs (sorted k l)
compare Unequal k xs l = not (eq_lists xs (sorted k l))
compare AtLeast k xs l = le_z (first_int l) (first_int xs)
compare Greater k xs l = lt_z (first_int l) (first_int xs)
compare Includes k xs l = all (λ (a : List ℕ). member a xs) l
compare Excludes k xs l = not (any (λ (a : List ℕ). member a xs) l)

abbrev pub holds : Row → Test → Bool
holds r t = compare t.function t.base (elements (subject_value t.place r)) t.atoms

-- a row of the table that meets all conditions
abbrev pub matches : ℕ → List Test → Row → Bool
matches t ts r = eqb t r.table && all (holds r) ts
