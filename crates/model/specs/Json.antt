-- JSON values by RFC 4627, as trees. Assumes nothing: these are definitions.
use Rattle.std.specs.Prelude.{Ok, Err}
use Rattle.model.specs.declared.ReadError.TheVariants.{Stop, Deep}
use Rattle.std.specs.declared.ops.ControlFlow.TheVariants.{Continue, Break}
use Rattle.model.specs.Scan.{Read, Next}
use Rattle.std.specs.Prelude.{ℕ, zero, suc, ◌+◌, List, [], ◌∷◌, Bool, true, false, length, eqb}
use Rattle.model.specs.declared.Open.{Open}
use Rattle.model.specs.declared.Open.TheVariants.{Array, Object, Scalar}
use Rattle.model.specs.Scan.{byte, Parsed, and_then, Turn, run, spaces_at, within_at, word_at, between, end_or}
use Rattle.model.specs.Strings.{string_at}
use Rattle.model.specs.Numbers.{number_at}

-- a JSON value, an array's items, and an object's members in the text's order
mutual
  pub data Json : Type 0 where
    null : Json
    bool : Bool → Json
    num : List ℕ → Json
    str : List ℕ → Json
    arr : Items → Json
    obj : Members → Json

  pub data Items : Type 0 where
    none : Items
    item : Json → Items → Items

  pub data Members : Type 0 where
    empty : Members
    member : List ℕ → Json → Members → Members

unfoldable pub items : List Json → Items
items [] = none
items (x ∷ xs) = item x (items xs)

-- a name and its value
pub record Named : Type 0 where
  pub name : List ℕ
  pub value : Json

unfoldable pub members : List Named → Members
members [] = empty
members (x ∷ xs) = member x.name x.value (members xs)

abbrev pub no_value : Read → Parsed Json
no_value r = record { read = r; tree = null }

-- a value that opens no level, by its first byte b. A number's tree is its text
unfoldable pub scalar_by : List ℕ → ℕ → ℕ → Parsed Json
scalar_by s at b =
    elim (eqb b 34) [
      | true ↦ (let q = string_at s at in record { read = q.read; tree = str q.tree })
      | false ↦
          elim (eqb b 110) [
            | true ↦ record { read = word_at s (110 ∷ 117 ∷ 108 ∷ 108 ∷ []) (Ok at); tree = null }
            | false ↦
                elim (eqb b 116) [
                  | true ↦ record { read = word_at s (116 ∷ 114 ∷ 117 ∷ 101 ∷ []) (Ok at); tree = bool true }
                  | false ↦
                      elim (eqb b 102) [
                        | true ↦ record { read = word_at s (102 ∷ 97 ∷ 108 ∷ 115 ∷ 101 ∷ []) (Ok at); tree = bool false }
                        | false ↦
                            (let r = number_at s at in record { read = r; tree = num (between s at (end_or at r)) })
                      ]
                ]
          ]
    ]

-- an object's name and its colon
unfoldable pub key_at : List ℕ → ℕ → Parsed (List ℕ)
key_at s at =
    let q = string_at s (spaces_at s at) in
    and_then [] (λ e. record { read = within_at s 58 58 (Ok (spaces_at s e)); tree = q.tree }) q.read

-- a comma and one more item, or the byte `close` and the end
unfoldable pub comma_or : List ℕ → ℕ → ℕ → Next
comma_or s close i = elim (eqb (byte s i) 44) [ true ↦ Continue (i + 1) | false ↦ Break (within_at s close close (Ok i)) ]

-- what follows an item that was read
unfoldable pub after_item : List ℕ → ℕ → Read → Next
after_item s close (Ok e) = comma_or s close (spaces_at s e)
after_item s close (Err e) = Break (Err e)

-- items from `at` on, up to the byte that closes them; p reads an item. A text of n bytes has no more than n
abbrev pub item_turn : {A : Type 0} → (ℕ → Parsed A) → List ℕ → ℕ → ℕ → Turn A
item_turn p s close at = let q = p at in record { next = after_item s close q.read; adds = q.tree ∷ [] }

abbrev pub items_of : {A : Type 0} → (ℕ → Parsed A) → List ℕ → ℕ → ℕ → ℕ → Parsed (List A)
items_of p s close = run (item_turn p s close)

-- none, or some items
unfoldable pub list_at : {A : Type 0} → (ℕ → Parsed A) → List ℕ → ℕ → ℕ → Parsed (List A)
list_at p s close at = elim (eqb (byte s at) close) [ true ↦ record { read = Ok (at + 1); tree = [] } | false ↦ items_of p s close (length s) at ]

-- the rest of an array, after its bracket; p reads a value
abbrev pub array_at : (ℕ → Parsed Json) → List ℕ → ℕ → Parsed Json
array_at p s at = let q = list_at p s 93 (spaces_at s at) in record { read = q.read; tree = arr (items q.tree) }

-- a member of an object
unfoldable pub member_at : (ℕ → Parsed Json) → List ℕ → ℕ → Parsed Named
member_at p s at =
    let k = key_at s at in
    and_then (record { name = []; value = null }) (λ e. let q = p e in record { read = q.read; tree = record { name = k.tree; value = q.tree } }) k.read

-- the rest of an object, after its brace
abbrev pub object_at : (ℕ → Parsed Json) → List ℕ → ℕ → Parsed Json
object_at p s at = let q = list_at (member_at p s) s 125 (spaces_at s at) in record { read = q.read; tree = obj (members q.tree) }

unfoldable pub opens : ℕ → Open
opens b = elim (eqb b 91) [ true ↦ Array | false ↦ elim (eqb b 123) [ true ↦ Object | false ↦ Scalar ] ]

-- a value by its first byte, where `array` and `object` read those that open a level
unfoldable pub dispatch : List ℕ → (ℕ → Parsed Json) → (ℕ → Parsed Json) → ℕ → Parsed Json
dispatch s array object at = elim (opens (byte s at)) [ Array ↦ array at | Object ↦ object at | Scalar ↦ scalar_by s at (byte s at) ]

-- a value after white space, in which so many more levels of arrays and objects may be opened
unfoldable pub value_at : ℕ → List ℕ → ℕ → Parsed Json
value_at zero s at = dispatch s (λ i. no_value (Err (Deep i))) (λ i. no_value (Err (Deep i))) (spaces_at s at)
value_at (suc l) s at = dispatch s (λ i. array_at (value_at l s) s (i + 1)) (λ i. object_at (value_at l s) s (i + 1)) (spaces_at s at)

-- that nothing follows but white space up to j
unfoldable pub end_at : List ℕ → ℕ → Read
end_at s j = elim (eqb j (length s)) [ true ↦ Ok j | false ↦ Err (Stop j) ]

-- a whole text: a value of at most 12 levels, and white space
unfoldable pub text_at : List ℕ → Parsed Json
text_at s = let q = value_at 12 s 0 in and_then null (λ e. record { read = end_at s (spaces_at s e); tree = q.tree }) q.read
