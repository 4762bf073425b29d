-- What a key and a type that were read say. Assumes nothing: these are definitions.
use Rattle.std.specs.Prelude.{ℕ, ◌≡◌, Bool, true, false, not, ◌&&◌, ◌||◌, List, [], ◌∷◌, eqb, ltb, leb, get_or, Option, Some, None}
use Rattle.std.specs.Int.Signed.{le_z}
use Rattle.model.specs.declared.Whole.{Whole}
use Rattle.model.specs.declared.Whole.TheVariants.{Plus, Minus}
use Rattle.model.specs.Base.{ascii, every}
use Rattle.model.specs.Limits.{most_elements}
use Rattle.model.specs.Json.{Json}
use Rattle.model.specs.Members.{member_value}
use Rattle.model.specs.Whole.{whole_of, whole_int}
use Rattle.model.specs.Value.{text_of}
use Rattle.model.specs.Catalog.{base_numbered}
use Rattle.model.specs.Catalog.{refers_from}
use Rattle.model.specs.SchemaText.{is_integer, is_within, size_or, key_members, key_base, key_fits, refers_of, low_of, high_of, type_members, type_fits, min_of, max_of}
use Rattle.members.specs.Fields.{most_words, choice, slot_tree}
use Rattle.names.specs.Names.{name_cell}
use Rattle.catalog.specs.Entries.{is_found, entry_named}
use Rattle.column_types.specs.declared.Key.{Key}
use Rattle.column_types.specs.declared.Parts.{Parts}
use Rattle.column_types.specs.declared.Shape.{Shape}

-- the limit in a slot, d where there is none
unfoldable pub limit_in : List ℕ → ℕ → Whole → Whole
limit_in s p d = elim (eqb p 0) [ true ↦ d | false ↦ whole_of (slot_tree s p) ]

-- the limit of a base: the slot p is an integer's, q a string's length's
unfoldable pub bound_in : List ℕ → ℕ → ℕ → ℕ → Whole → Whole
bound_in s base p q d = elim (eqb base 0) [ true ↦ limit_in s p d | false ↦ elim (eqb base 2) [ true ↦ limit_in s q d | false ↦ d ] ]

-- the table that a slot names
unfoldable pub table_in : List ℕ → List (List ℕ) → ℕ → Option ℕ
table_in s tables p = elim (eqb p 0) [ true ↦ None | false ↦ entry_named tables (text_of (name_cell (slot_tree s p))) ]

-- a place as a byte, 0 where there is none
unfoldable pub place_byte : Option ℕ → ℕ
place_byte (Some k) = elim (ltb k 256) [ true ↦ k | false ↦ 0 ]
place_byte None = 0

-- a base by the number of its word, 3 for any that is left
unfoldable pub base_byte : ℕ → ℕ
base_byte k = elim (eqb k 0) [ true ↦ 0 | false ↦ elim (eqb k 1) [ true ↦ 1 | false ↦ elim (eqb k 2) [ true ↦ 2 | false ↦ 3 ] ] ]

-- how a key refers: not, weakly or strongly
unfoldable pub how_byte : ℕ → ℕ → ℕ
how_byte p kind = elim (eqb p 0) [ true ↦ 0 | false ↦ elim (eqb kind 1) [ true ↦ 2 | false ↦ 1 ] ]

-- what a key says by its slots: the words of its type and its refType by their numbers, its base and limits, and its table
abbrev pub base_words : List (List ℕ)
base_words = ascii "integer" ∷ ascii "boolean" ∷ ascii "string" ∷ ascii "uuid" ∷ []

abbrev pub ref_words : List (List ℕ)
ref_words = ascii "strong" ∷ ascii "weak" ∷ []

unfoldable pub parts_in : List ℕ → List (List ℕ) → List ℕ → Parts
parts_in s tables f =
    let n = choice base_words (slot_tree s (get_or f 0 0)) in
    record {
      word = n;
      base = base_byte n;
      low = bound_in s (base_byte n) (get_or f 1 0) (get_or f 3 0) (Minus 9223372036854775808);
      high = bound_in s (base_byte n) (get_or f 2 0) (get_or f 4 0) (Plus 9223372036854775807);
      table = table_in s tables (get_or f 5 0);
      kind = choice ref_words (slot_tree s (get_or f 6 0));
    }

-- the tests of a key by its slots
abbrev pub limit_allowed : List ℕ → ℕ → Bool → Bool
limit_allowed s p right = eqb p 0 || (right && is_integer (slot_tree s p))

unfoldable pub key_allowed : List ℕ → List ℕ → Parts → Bool
key_allowed s f k =
    every
    (eqb (get_or f most_words 0) 0
    ∷ ltb k.word 4
    ∷ limit_allowed s (get_or f 1 0) (eqb k.base 0)
    ∷ limit_allowed s (get_or f 2 0) (eqb k.base 0)
    ∷ limit_allowed s (get_or f 3 0) (eqb k.base 2)
    ∷ limit_allowed s (get_or f 4 0) (eqb k.base 2)
    ∷ le_z (whole_int k.low) (whole_int k.high)
    ∷ (eqb (get_or f 5 0) 0 || (eqb k.base 3 && is_found k.table))
    ∷ (eqb (get_or f 6 0) 0 || ltb k.kind 2)
    ∷ (not (eqb (get_or f 5 0) 0) || eqb (get_or f 6 0) 0)
    ∷ [])

-- what was read of the key k, where the schema's tables have these names
pub record KeyRead (tables : List (List ℕ)) (k : Json) (r : Key) : Type 0 where
  pub fits : r.fits ≡ key_fits tables k
  pub base : base_numbered r.base ≡ key_base (key_members k)
  pub refers : r.fits ≡ true → refers_from r.how r.target ≡ refers_of tables (key_members k)
  pub low : whole_int r.low ≡ low_of (key_base (key_members k)) (key_members k)
  pub high : whole_int r.high ≡ high_of (key_base (key_members k)) (key_members k)

-- the same of the key in a slot
pub record KeyIn (s : List ℕ) (tables : List (List ℕ)) (p : ℕ) (r : Key) : Type 0 where
  pub none : eqb p 0 ≡ true → r.fits ≡ false
  pub some : eqb p 0 ≡ false → KeyRead tables (slot_tree s p) r

-- the most elements, by the slot of max and its integer: 1 where it is not said, as many as a set may have where it is no integer
unfoldable pub max_in : ℕ → Whole → ℕ
max_in p w = elim (eqb p 0) [ true ↦ 1 | false ↦ size_or most_elements w ]

-- the tests of a type by its slots
unfoldable pub type_allowed : List ℕ → List ℕ → Bool → Whole → Whole → Bool
type_allowed s f key least most =
    every
    (eqb (get_or f most_words 0) 0
    ∷ key
    ∷ (eqb (get_or f 1 0) 0 || is_within 0 1 least)
    ∷ (eqb (get_or f 2 0) 0 || (is_within 1 most_elements most || eqb (choice (ascii "unlimited" ∷ []) (slot_tree s (get_or f 2 0))) 0))
    ∷ leb (size_or 1 least) (max_in (get_or f 2 0) most)
    ∷ [])

-- and of the type t
pub record TypeRead (tables : List (List ℕ)) (t : Json) (r : Shape) : Type 0 where
  pub fits : r.fits ≡ type_fits tables t
  pub key : r.fits ≡ true → KeyRead tables (member_value (ascii "key") (type_members t)) r.key
  pub min : r.min ≡ min_of (type_members t)
  pub max : r.max ≡ max_of (type_members t)
