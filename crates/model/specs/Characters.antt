-- What RFC 3629 and RFC 4627 say of a character's bytes, as statements of the definitions that read texts. Assumes nothing: these are definitions.
use Rattle.std.specs.Prelude.{Ok}
use Rattle.std.specs.declared.ops.ControlFlow.TheVariants.{Continue}
use Rattle.std.specs.Prelude.{ℕ, ◌+◌, ◌*◌, ◌≤◌, ◌<◌, ◌≡◌, Bool, true, false, not, ◌&&◌, List, [], ◌∷◌, ◌++◌, ◌↔◌, eqb, length}
use Rattle.model.specs.Base.{all}
use Rattle.model.specs.Scan.{byte, between}
use Rattle.model.specs.Strings.{is_second_half, is_character, utf8, hex_of, unit_at, second_at, is_unescaped, char_by, char_bytes}
use Rattle.model.specs.Text.{chars}
use Rattle.model.specs.Value.{is_utf8}

-- the bytes of characters, one after another
abbrev pub encoded : List ℕ → List ℕ
encoded [] = []
encoded (c ∷ cs) = utf8 c ++ encoded cs

-- a character other than U+0000
abbrev pub is_textual : ℕ → Bool
is_textual c = is_character c && not (eqb c 0)

-- RFC 4627 §2.5: a character that is no escape is read from `at` to e exactly when the bytes between are those of an unescaped character
abbrev pub CharacterBytes : Type 0
CharacterBytes =
    (s : List ℕ) (at e : ℕ)
    → ((char_by s at (byte s at) ≡ Continue e) × (byte s at ≡ 92 → ⊥)) ↔ ((c : ℕ) × (is_unescaped c ≡ true) × (e ≤ length s) × (between s at e ≡ utf8 c))

-- and every character of a string, an escape too, stands for the bytes of one character
abbrev pub CharacterMeant : Type 0
CharacterMeant =
    (s : List ℕ) (at e : ℕ) → char_by s at (byte s at) ≡ Continue e → (c : ℕ) × (is_textual c ≡ true) × (char_bytes s at e (byte s at) ≡ utf8 c)

-- four hexadecimal digits, and their number
abbrev pub Digits : List ℕ → ℕ → Type 0
Digits s at = (hex_of (byte s at) < 16) × (hex_of (byte s (at + 1)) < 16) × (hex_of (byte s (at + 2)) < 16) × (hex_of (byte s (at + 3)) < 16)

abbrev pub digits_number : List ℕ → ℕ → ℕ
digits_number s at = 4096 * hex_of (byte s at) + 256 * hex_of (byte s (at + 1)) + 16 * hex_of (byte s (at + 2)) + hex_of (byte s (at + 3))

-- RFC 4627 §2.5, "4HEXDIG": they are read exactly where four digits stand whose number is neither 0 nor a second half
abbrev pub UnitDigits : Type 0
UnitDigits =
    (s : List ℕ) (at e v : ℕ)
    → (unit_at s at ≡ record { read = Ok e; tree = v }) ↔ (Digits s at × (e ≡ at + 4) × (v ≡ digits_number s at) × (0 < v) × (is_second_half v ≡ false))

-- and those of a second half exactly where theirs is one
abbrev pub SecondDigits : Type 0
SecondDigits =
    (s : List ℕ) (at e w : ℕ)
    → (second_at s at ≡ record { read = Ok e; tree = w }) ↔ (Digits s at × (e ≡ at + 4) × (w ≡ digits_number s at) × (is_second_half w ≡ true))

-- RFC 3629: a text is UTF-8 without 00 exactly when it is the bytes of characters other than U+0000
abbrev pub Utf8Bytes : Type 0
Utf8Bytes = (t : List ℕ) → (is_utf8 t ≡ true) ↔ ((cs : List ℕ) × (all is_textual cs ≡ true) × (t ≡ encoded cs))

-- whose number is the length in characters
abbrev pub Utf8Length : Type 0
Utf8Length = (cs : List ℕ) → all is_textual cs ≡ true → chars (encoded cs) ≡ length cs
