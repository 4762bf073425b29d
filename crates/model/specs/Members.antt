-- Members of an object by name. Assumes nothing: these are definitions.
use Rattle.std.specs.Prelude.{ℕ, List, [], ◌∷◌, Bool, true, false}
use Rattle.model.specs.Octets.{eq_bytes}
use Rattle.model.specs.Json.{Json, null, bool, num, str, arr, obj, Members, empty, member, Named}

-- the members in the text's order, as a list
unfoldable pub named_of : Members → List Named
named_of empty = []
named_of (member n j ms) = record { name = n; value = j } ∷ named_of ms

-- the members of a tree, none where it is no object
unfoldable pub members_in : Json → List Named
members_in null = []
members_in (bool b) = []
members_in (num t) = []
members_in (str t) = []
members_in (arr xs) = []
members_in (obj ms) = named_of ms

-- whether there is a member of that name
unfoldable pub has_member : List ℕ → List Named → Bool
has_member w [] = false
has_member w (m ∷ ms) = elim (eq_bytes m.name w) [ true ↦ true | false ↦ has_member w ms ]

-- a member's value where it has that name, and d where not
unfoldable pub named_or : List ℕ → Json → Named → Json
named_or w d m = elim (eq_bytes m.name w) [ true ↦ m.value | false ↦ d ]

-- "of a name given twice in one object the last counts": the last value of that name, and d where there is none
unfoldable pub value_or : List ℕ → Json → List Named → Json
value_or w d [] = d
value_or w d (m ∷ ms) = value_or w (named_or w d m) ms

unfoldable pub member_value : List ℕ → List Named → Json
member_value w ms = value_or w null ms

-- the members that count: "a repeated name at its last place"
unfoldable pub counting : List Named → List Named
counting [] = []
counting (m ∷ ms) = elim (has_member m.name ms) [ true ↦ counting ms | false ↦ m ∷ counting ms ]
