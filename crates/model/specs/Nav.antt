-- What kind of value a tree is, and its items and text. Assumes nothing: these are definitions.
use Rattle.std.specs.Prelude.{Ok, Err}
use Rattle.model.specs.Scan.{Read}
use Rattle.std.specs.Prelude.{ℕ, List, [], ◌∷◌, Bool, true, false, eqb}
use Rattle.model.specs.Json.{Json, null, bool, num, str, arr, obj, Items, none, item}
use Rattle.model.specs.declared.Kind.{Kind}
use Rattle.model.specs.declared.Kind.TheVariants.{Null, Truth, Number, Text, Array, Object}

-- whether reading went to an end
unfoldable pub is_read : Read → Bool
is_read (Ok e) = true
is_read (Err e) = false

-- what kind of value a tree is
unfoldable pub kind_of : Json → Kind
kind_of null = Null
kind_of (bool b) = Truth
kind_of (num t) = Number
kind_of (str t) = Text
kind_of (arr xs) = Array
kind_of (obj ms) = Object

-- the items of a tree, none where it is no array
unfoldable pub list_of : Items → List Json
list_of none = []
list_of (item x xs) = x ∷ list_of xs

unfoldable pub items_in : Json → List Json
items_in null = []
items_in (bool b) = []
items_in (num t) = []
items_in (str t) = []
items_in (arr xs) = list_of xs
items_in (obj ms) = []

-- the bytes of a string, none where it is none; the text of a number
unfoldable pub text_in : Json → List ℕ
text_in null = []
text_in (bool b) = []
text_in (num t) = t
text_in (str t) = t
text_in (arr xs) = []
text_in (obj ms) = []

-- the kinds by number, and whether two are the same
abbrev pub kind_number : Kind → ℕ
kind_number Null = 0
kind_number Truth = 1
kind_number Number = 2
kind_number Text = 3
kind_number Array = 4
kind_number Object = 5

abbrev pub is_kind : Kind → Kind → Bool
is_kind k j = eqb (kind_number k) (kind_number j)

abbrev pub is_text : Kind → Bool
is_text k = is_kind k Text

abbrev pub is_array : Kind → Bool
is_array k = is_kind k Array

abbrev pub is_object : Kind → Bool
is_object k = is_kind k Object

abbrev pub is_truth : Kind → Bool
is_truth k = is_kind k Truth
