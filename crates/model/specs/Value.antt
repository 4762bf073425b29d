-- Values: atoms, their order, the canonical form, and what meets a type. Assumes nothing: these are definitions.
use Rattle.std.specs.Prelude.{ℕ, suc, ◌-◌, Bool, true, false, not, ◌&&◌, List, [], ◌∷◌, ◌++◌, eqb, ltb, leb, ℤ, pos, negsuc, length, get_or, take, drop, replicate, if◌then◌else◌, Some, None}
use Rattle.std.specs.Int.Signed.{lt_z, le_z}
use Rattle.model.specs.Octets.{big, value, twos, lt_bytes}
use Rattle.model.specs.Base.{eq_lists, all, keep, member, every}
use Rattle.model.specs.Limits.{most_elements, most_text_bytes, atom_bytes}
use Rattle.model.specs.Strings.{Range, in_range, forms, rest_of}
use Rattle.model.specs.Text.{chars}
use Rattle.model.specs.Schema.{Base, integer, boolean, text, uuid, Column, scalar}

-- a column's value: how many elements, and four atoms of 25 bytes
pub record Value : Type 0 where
  pub count : ℕ
  pub atoms : List (List ℕ)

abbrev pub same_value : Value → Value → Bool
same_value v w = eqb v.count w.count && eq_lists v.atoms w.atoms

abbrev pub elements : Value → List (List ℕ)
elements v = take v.count v.atoms

-- ── atoms: "8 (two's complement), 1 or 16 bytes, or a length byte and the string, then zeros" ──
abbrev pub zeros : List ℕ → Bool
zeros a = all (λ (b : ℕ). eqb b 0) a

abbrev pub pad : List ℕ → List ℕ
pad a = a ++ replicate (atom_bytes - length a) 0

-- the atom that is not in use
abbrev pub blank : List ℕ
blank = replicate atom_bytes 0

-- the whole number that 64 bits of two's complement are
abbrev pub from_twos : ℕ → ℤ
from_twos x = if ltb x 9223372036854775808 then pos x else negsuc (18446744073709551615 - x)

abbrev pub int_of : List ℕ → ℤ
int_of a = from_twos (value (take 8 a))

abbrev pub int_atom : ℤ → List ℕ
int_atom z = pad (big 8 (twos 64 z))

abbrev pub bool_atom : Bool → List ℕ
bool_atom b = pad ((if b then 1 else 0) ∷ [])

abbrev pub uuid_of : List ℕ → ℕ
uuid_of a = value (take 16 a)

abbrev pub uuid_atom : ℕ → List ℕ
uuid_atom i = pad (big 16 i)

abbrev pub text_of : List ℕ → List ℕ
text_of a = take (get_or a 0 0) (drop 1 a)

-- of a string above 24 bytes this is longer than an atom, so that it is equal to none ("match nothing", reading 28)
abbrev pub text_atom : List ℕ → List ℕ
text_atom t = pad (length t ∷ t)

-- ── text ──
-- UTF-8 without 00 (RFC 3629 §4, and document 01, "strings UTF-8 without 00"): bytes in the ranges that are due, and then characters
abbrev pub utf8_from : List Range → List ℕ → Bool
utf8_from [] [] = true
utf8_from (x ∷ xs) [] = false
utf8_from [] (b ∷ bs) = elim (eqb b 0) [ true ↦ false | false ↦ elim (rest_of b forms) [ None ↦ false | Some xs ↦ utf8_from xs bs ] ]
utf8_from (x ∷ xs) (b ∷ bs) = in_range x b && utf8_from xs bs

unfoldable pub is_utf8 : List ℕ → Bool
is_utf8 t = utf8_from [] t

-- ── order: "numbers, false before true, ids and texts by bytes, a prefix first" ──
abbrev pub less_atom : Base → List ℕ → List ℕ → Bool
less_atom integer a b = lt_z (int_of a) (int_of b)
less_atom boolean a b = lt_bytes a b
less_atom text a b = lt_bytes (text_of a) (text_of b)
less_atom uuid a b = lt_bytes a b

abbrev pub ascending : Base → List (List ℕ) → Bool
ascending k [] = true
ascending k (a ∷ l) = all (λ (b : List ℕ). less_atom k a b) l && ascending k l

abbrev pub placed : Base → List ℕ → List (List ℕ) → List (List ℕ)
placed k a [] = a ∷ []
placed k a (b ∷ l) = if less_atom k a b then a ∷ b ∷ l else b ∷ placed k a l

abbrev pub sorted : Base → List (List ℕ) → List (List ℕ)
sorted k [] = []
sorted k (a ∷ l) = placed k a (sorted k l)

-- ── canonical: "sorted, distinct, at most 4, exactly 1 for a scalar, booleans 0 or 1, strings UTF-8 without 00, unused bytes zero" ──
abbrev pub well_atom : Base → List ℕ → Bool
well_atom integer a = zeros (drop 8 a)
well_atom boolean a = ltb (get_or a 0 0) 2 && zeros (drop 1 a)
well_atom text a = leb (get_or a 0 0) most_text_bytes && is_utf8 (text_of a) && zeros (drop (suc (get_or a 0 0)) a)
well_atom uuid a = zeros (drop 16 a)

-- four atoms of 25 bytes
abbrev pub byte_atom : List ℕ → Bool
byte_atom a = eqb (length a) atom_bytes && all (λ (b : ℕ). ltb b 256) a

abbrev pub shaped : Value → Bool
shaped v = eqb (length v.atoms) most_elements && all byte_atom v.atoms

abbrev pub canonical_tests : Column → Value → List Bool
canonical_tests c v =
    shaped v
    ∷ leb v.count most_elements
    ∷ (if scalar c then eqb v.count 1 else true)
    ∷ all (well_atom c.base) (elements v)
    ∷ ascending c.base (elements v)
    ∷ all zeros (drop v.count v.atoms)
    ∷ []

abbrev pub canonical_for : Column → Value → Bool
canonical_for c v = every (canonical_tests c v)

-- ── what meets a type: range, length in characters, count ──
abbrev pub in_limits : Column → ℤ → Bool
in_limits c z = le_z c.low z && le_z z c.high

abbrev pub atom_in_limits : Column → Base → List ℕ → Bool
atom_in_limits c integer a = in_limits c (int_of a)
atom_in_limits c boolean a = true
atom_in_limits c text a = in_limits c (pos (chars (text_of a)))
atom_in_limits c uuid a = true

abbrev pub all_in_limits : Column → List (List ℕ) → Bool
all_in_limits c l = all (atom_in_limits c c.base) l

abbrev pub count_in_limits : Column → ℕ → Bool
count_in_limits c n = leb c.min n && leb n c.max

-- "every value is canonical and meets its type"
abbrev pub meets : Column → Value → Bool
meets c v = canonical_for c v && count_in_limits c v.count && all_in_limits c (elements v)

-- ── values made ──
abbrev pub value_of : List (List ℕ) → Value
value_of l = record { count = length l; atoms = l ++ replicate (most_elements - length l) blank }

-- "empty set where min is 0; else 0, false, "" or the zero uuid", all of whose atoms are zeros
abbrev pub initial : Column → Value
initial c = value_of (if eqb c.min 0 then [] else blank ∷ [])

-- sets of atoms: with some more, without some
abbrev pub union : Base → List (List ℕ) → List (List ℕ) → List (List ℕ)
union k s [] = s
union k s (a ∷ l) = union k (if member a s then s else placed k a s) l

abbrev pub without : List (List ℕ) → List (List ℕ) → List (List ℕ)
without l s = keep (λ (a : List ℕ). not (member a l)) s
