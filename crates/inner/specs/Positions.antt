-- Values, items, members and strings of a well-formed text, by the positions they begin at, as the code goes through it. No statement needs these: inner promises do. Assumes nothing: these are definitions.
use Rattle.std.specs.Prelude.{Ok, Err}
use Rattle.std.specs.declared.ops.ControlFlow.TheVariants.{Continue, Break}
use Rattle.model.specs.Scan.{Read, Next}
use Rattle.std.specs.Prelude.{ℕ, zero, suc, ◌+◌, ◌-◌, ◌≡◌, ◌⊎◌, List, [], Bool, true, false, length, get_or, eqb, Option, Some, None}
use Rattle.model.specs.declared.Kind.{Kind}
use Rattle.model.specs.declared.Kind.TheVariants.{Null, Truth, Number, Text, Array, Object}
use Rattle.model.specs.Scan.{byte, Parsed, run, spaces_at, end_or}
use Rattle.model.specs.Strings.{char_by}
use Rattle.model.specs.Json.{Json, null, bool, num, str, arr, obj, Named, after_item, item_turn, member_at, value_at}
use Rattle.model.specs.Nav.{is_read, kind_of, is_kind, is_text}

-- whether a value can be read at a position, and its tree
unfoldable pub well_at : List ℕ → ℕ → Bool
well_at s at = is_read (value_at 12 s at).read

unfoldable pub tree_at : List ℕ → ℕ → Json
tree_at s at = (value_at 12 s at).tree

-- what a table of ends says is true: the value that begins at p ends at entry p, unless that is 0
unfoldable pub Says : List ℕ → List ℕ → Type 0
Says s ends = (p : ℕ) → (get_or ends p 0 ≡ 0) ⊎ ((value_at 12 s p).read ≡ Ok (get_or ends p 0))

unfoldable pub found_of : Next → Option ℕ
found_of (Continue e) = Some e
found_of (Break r) = None

-- the first item from j on, where `close` may stand instead
unfoldable pub first_from : List ℕ → ℕ → ℕ → Option ℕ
first_from s close j = elim (eqb (byte s j) close) [ true ↦ None | false ↦ Some j ]

-- the first item of the value at a position, where it opens with `opener`
unfoldable pub first_of : List ℕ → ℕ → ℕ → ℕ → Option ℕ
first_of s opener close at =
    let i = spaces_at s at in
    elim (eqb (byte s i) opener) [ true ↦ first_from s close (spaces_at s (i + 1)) | false ↦ None ]

-- the item after the one at a position; p reads an item
abbrev pub next_of : {A : Type 0} → (ℕ → Parsed A) → List ℕ → ℕ → ℕ → Option ℕ
next_of p s close at = found_of (after_item s close (p at).read)

unfoldable pub next_item : List ℕ → ℕ → Option ℕ
next_item s = next_of (value_at 12 s) s 93

unfoldable pub next_member : List ℕ → ℕ → Option ℕ
next_member s = next_of (member_at (value_at 12 s) s) s 125

-- the items, or members, from a place on, and whether all that follows is well; f reads one
abbrev pub rest_of : {A : Type 0} → (ℕ → Parsed A) → List ℕ → ℕ → Option ℕ → List A
rest_of p s close (Some i) = (run (item_turn p s close) (suc (length s)) i).tree
rest_of p s close None = []

abbrev pub fine_of : {A : Type 0} → (ℕ → Parsed A) → List ℕ → ℕ → Option ℕ → Bool
fine_of p s close (Some i) = is_read (run (item_turn p s close) (suc (length s)) i).read
fine_of p s close None = true

unfoldable pub items_from : List ℕ → Option ℕ → List Json
items_from s = rest_of (value_at 12 s) s 93

unfoldable pub items_fine : List ℕ → Option ℕ → Bool
items_fine s = fine_of (value_at 12 s) s 93

unfoldable pub members_from : List ℕ → Option ℕ → List Named
members_from s = rest_of (member_at (value_at 12 s) s) s 125

unfoldable pub members_fine : List ℕ → Option ℕ → Bool
members_fine s = fine_of (member_at (value_at 12 s) s) s 125

-- how many positions are left
unfoldable pub left : List ℕ → Option ℕ → ℕ
left s (Some i) = suc (length s - i)
left s None = 0

-- and by its first byte
unfoldable pub kind_by : ℕ → Kind
kind_by b =
    elim (eqb b 91) [
      | true ↦ Array
      | false ↦ elim (eqb b 123) [
        | true ↦ Object
        | false ↦ elim (eqb b 34) [
          | true ↦ Text
          | false ↦
              elim (eqb b 110) [
                | true ↦ Null
                | false ↦ elim (eqb b 116) [ true ↦ Truth | false ↦ elim (eqb b 102) [ true ↦ Truth | false ↦ Number ] ]
              ]
        ]
      ]
    ]

unfoldable pub past_at : List ℕ → ℕ → ℕ
past_at s at = end_or at (value_at 12 s at).read

abbrev pub is_number : Kind → Bool
is_number k = is_kind k Number

-- whether a value is true
unfoldable pub is_true : Json → Bool
is_true null = false
is_true (bool b) = b
is_true (num t) = false
is_true (str t) = false
is_true (arr xs) = false
is_true (obj ms) = false

-- what a place stands for: whether there is one, and the tree there
unfoldable pub Means : List ℕ → Option ℕ → Bool → Json → Type 0
Means s (Some p) b j = (b ≡ true) × (j ≡ tree_at s p) × (well_at s p ≡ true)
Means s None b j = b ≡ false

-- the bytes of a string, none where a value is none
unfoldable pub word_in : Json → List ℕ
word_in null = []
word_in (bool b) = []
word_in (num t) = []
word_in (str t) = t
word_in (arr xs) = []
word_in (obj ms) = []

-- where a string's last quote stands, if reading ended with it at a position
unfoldable pub quote_end : ℕ → Read → Option ℕ
quote_end at (Ok e) = Some at
quote_end at (Err e) = None

-- where the quote stands that ends the characters from `at` on, if none of them is an escape; at most n are passed
unfoldable pub quote_from : List ℕ → ℕ → ℕ → Option ℕ
quote_from s zero at = None
quote_from s (suc n) at =
    elim (eqb (byte s at) 92) [
      | true ↦ None
      | false ↦ elim (char_by s at (byte s at)) [ Continue e ↦ quote_from s n e | Break r ↦ quote_end at r ]
    ]

unfoldable pub is_nothing : Option ℕ → Bool
is_nothing (Some p) = false
is_nothing None = true

-- whether the value at a position is a string with escapes: "a string without escapes is handed back as a part of the request; one with escapes as a part of the scratch area"
unfoldable pub escaped : List ℕ → ℕ → Bool
escaped s at = elim (is_text (kind_of (tree_at s at))) [ true ↦ is_nothing (quote_from s (length s) (spaces_at s at + 1)) | false ↦ false ]
