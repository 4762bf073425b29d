-- Integers as written: "an optional minus and digits, no leading zero, from -2^63 to 2^63-1, -0 being 0; any other number is well formed but never an integer".
-- A leading zero is ruled out by the grammar of numbers. Assumes nothing: these are definitions.
use Rattle.std.specs.Prelude.{ℕ, ◌+◌, ◌-◌, ◌*◌, List, [], ◌∷◌, Bool, true, false, eqb, ltb, ℤ, pos, neg_ℤ, Option, Some, None}
use Rattle.model.specs.Scan.{is_digit}
use Rattle.model.specs.Json.{Json, null, bool, num, str, arr, obj}
use Rattle.model.specs.declared.Whole.{Whole}
use Rattle.model.specs.declared.Whole.TheVariants.{Plus, Minus, Other}

-- what digits stand for after others that stand for acc, at most 2 ^ 63
unfoldable pub sized : ℕ → List ℕ → Option ℕ
sized acc [] = elim (ltb 9223372036854775808 acc) [ true ↦ None | false ↦ Some acc ]
sized acc (b ∷ bs) = elim (is_digit b) [ true ↦ sized (acc * 10 + (b - 48)) bs | false ↦ None ]

unfoldable pub plus_of : Option ℕ → Whole
plus_of (Some m) = elim (ltb m 9223372036854775808) [ true ↦ Plus m | false ↦ Other ]
plus_of None = Other

unfoldable pub minus_of : Option ℕ → Whole
minus_of (Some m) = elim (eqb m 0) [ true ↦ Plus 0 | false ↦ Minus m ]
minus_of None = Other

-- the integer that a number's text stands for
unfoldable pub whole_text : List ℕ → Whole
whole_text [] = Other
whole_text (b ∷ bs) = elim (eqb b 45) [ true ↦ minus_of (sized 0 bs) | false ↦ plus_of (sized 0 (b ∷ bs)) ]

-- the integer that a value is
unfoldable pub whole_of : Json → Whole
whole_of null = Other
whole_of (bool b) = Other
whole_of (num t) = whole_text t
whole_of (str t) = Other
whole_of (arr xs) = Other
whole_of (obj ms) = Other

unfoldable pub is_whole : Whole → Bool
is_whole (Plus m) = true
is_whole (Minus m) = true
is_whole Other = false

-- its number
unfoldable pub whole_int : Whole → ℤ
whole_int (Plus m) = pos m
whole_int (Minus m) = neg_ℤ (pos m)
whole_int Other = pos 0
