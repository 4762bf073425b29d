-- Strings as values of a text. Assumes nothing: these are definitions.
use Rattle.std.specs.Prelude.{ℕ, ◌+◌, List, [], ◌∷◌, Bool, true, false, ltb}
use Rattle.model.specs.Octets.{eq_bytes}
use Rattle.model.specs.Json.{Json, null, bool, num, str, arr, obj}

-- whether a value is that string
unfoldable pub is_word : List ℕ → Json → Bool
is_word w null = false
is_word w (bool b) = false
is_word w (num t) = false
is_word w (str t) = eq_bytes t w
is_word w (arr xs) = false
is_word w (obj ms) = false

-- whether a byte begins a character of UTF-8: all but the continuation bytes 80 to BF do
unfoldable pub begins : ℕ → Bool
begins b = elim (ltb b 128) [ true ↦ true | false ↦ elim (ltb b 192) [ true ↦ false | false ↦ true ] ]

-- the length of a string in characters, which minLength and maxLength count: "in characters, not bytes"
unfoldable pub chars : List ℕ → ℕ
chars [] = 0
chars (b ∷ bs) = elim (begins b) [ true ↦ 1 + chars bs | false ↦ chars bs ]
