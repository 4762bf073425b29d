-- Strings by RFC 4627 §2.5 in UTF-8 (RFC 3629), \u0000 and lone surrogates refused. Assumes nothing: these are definitions.
use Rattle.std.specs.Prelude.{Ok, Err}
use Rattle.model.specs.declared.ReadError.TheVariants.{Stop, Deep}
use Rattle.std.specs.declared.ops.ControlFlow.TheVariants.{Continue, Break}
use Rattle.model.specs.Scan.{Read, Next}
use Rattle.std.specs.Prelude.{ℕ, ◌+◌, ◌-◌, ◌*◌, ◌/◌, ◌%◌, List, [], ◌∷◌, Bool, true, false, not, ◌&&◌, length, eqb, leb, ltb, Option, Some, None}
use Rattle.model.specs.Scan.{byte, Parsed, and_then, Turn, run, within_at, between}

-- ── characters (RFC 3629 §3) ──
-- a range of numbers, from the low to the high
pub record Range : Type 0 where
  pub low : ℕ
  pub high : ℕ

infixl 20 ◌to◌
abbrev pub ◌to◌ : ℕ → ℕ → Range
l to h = record { low = l; high = h }

unfoldable pub in_range : Range → ℕ → Bool
in_range r n = leb r.low n && leb n r.high

-- the halves of surrogate pairs, which are no characters: the first half is D800 to DBFF, the second DC00 to DFFF
abbrev pub is_first_half : ℕ → Bool
is_first_half v = in_range (55296 to 56319) v

abbrev pub is_second_half : ℕ → Bool
is_second_half v = in_range (56320 to 57343) v

-- a character's number: U+0000 to U+10FFFF, and no half
unfoldable pub is_character : ℕ → Bool
is_character c = leb c 1114111 && not (is_first_half c) && not (is_second_half c)

-- a character's bytes: the table of RFC 3629 §3, each x of which is a bit of its number
--   0xxxxxxx · 110xxxxx 10xxxxxx · 1110xxxx 10xxxxxx 10xxxxxx · 11110xxx 10xxxxxx 10xxxxxx 10xxxxxx
unfoldable pub utf8 : ℕ → List ℕ
utf8 c =
    elim (ltb c 128) [
      | true ↦ c ∷ []
      | false ↦ elim (ltb c 2048) [
        | true ↦ (192 + c / 64) ∷ (128 + c % 64) ∷ []
        | false ↦
            elim (ltb c 65536) [
              | true ↦ (224 + c / 4096) ∷ (128 + c / 64 % 64) ∷ (128 + c % 64) ∷ []
              | false ↦ (240 + c / 262144) ∷ (128 + c / 4096 % 64) ∷ (128 + c / 64 % 64) ∷ (128 + c % 64) ∷ []
            ]
      ]
    ]

-- the forms of a character's bytes: the grammar of RFC 3629 §4, in its order: UTF8-1, UTF8-2, four of UTF8-3, three of UTF8-4; UTF8-tail is 80 to BF
abbrev pub tail : Range
tail = 128 to 191

abbrev pub forms : List (List Range)
forms =
    ((0 to 127) ∷ [])
    ∷ ((194 to 223) ∷ tail ∷ [])
    ∷ ((224 to 224) ∷ (160 to 191) ∷ tail ∷ [])
    ∷ ((225 to 236) ∷ tail ∷ tail ∷ [])
    ∷ ((237 to 237) ∷ (128 to 159) ∷ tail ∷ [])
    ∷ ((238 to 239) ∷ tail ∷ tail ∷ [])
    ∷ ((240 to 240) ∷ (144 to 191) ∷ tail ∷ tail ∷ [])
    ∷ ((241 to 243) ∷ tail ∷ tail ∷ tail ∷ [])
    ∷ ((244 to 244) ∷ (128 to 143) ∷ tail ∷ tail ∷ [])
    ∷ []

-- what a form asks for after the first byte b: no two forms share a first byte
unfoldable pub rest_of : ℕ → List (List Range) → Option (List Range)
rest_of b [] = None
rest_of b ([] ∷ fs) = rest_of b fs
rest_of b ((x ∷ xs) ∷ fs) = elim (in_range x b) [ true ↦ Some xs | false ↦ rest_of b fs ]

-- bytes in those ranges, one after another, after what was read before them
unfoldable pub ranges_at : List ℕ → List Range → Read → Read
ranges_at s [] r = r
ranges_at s (x ∷ xs) r = ranges_at s xs (within_at s x.low x.high r)

-- the rest of a character whose first byte stands at `at`
unfoldable pub form_at : List ℕ → ℕ → Option (List Range) → Read
form_at s at None = Err (Stop at)
form_at s at (Some xs) = ranges_at s xs (Ok (at + 1))

-- a character as it stands, whose first byte is b
abbrev pub plain_by : List ℕ → ℕ → ℕ → Read
plain_by s at b = form_at s at (rest_of b forms)

-- ── escapes (RFC 4627 §2.5) ──
-- reading stops at the first byte that no text can have there
-- the byte that a short escape stands for, 0 where it is none
unfoldable pub short_of : ℕ → ℕ
short_of c =
    elim (eqb c 34) [
      | true ↦ 34
      | false ↦ elim (eqb c 92) [
        | true ↦ 92
        | false ↦ elim (eqb c 47) [
          | true ↦ 47
          | false ↦
              elim (eqb c 98) [
                | true ↦ 8
                | false ↦ elim (eqb c 102) [
                  | true ↦ 12
                  | false ↦ elim (eqb c 110) [
                    | true ↦ 10
                    | false ↦
                        elim (eqb c 114) [ true ↦ 13 | false ↦ elim (eqb c 116) [ true ↦ 9 | false ↦ 0 ] ]
                  ]
                ]
              ]
        ]
      ]
    ]

-- the value of a hexadecimal digit, 16 where it is none
unfoldable pub hex_of : ℕ → ℕ
hex_of b =
    elim (ltb b 48) [
      | true ↦ 16
      | false ↦ elim (leb b 57) [
        | true ↦ b - 48
        | false ↦
            elim (ltb b 65) [
              | true ↦ 16
              | false ↦ elim (leb b 70) [
                | true ↦ b - 55
                | false ↦
                    elim (ltb b 97) [ true ↦ 16 | false ↦ elim (leb b 102) [ true ↦ b - 87 | false ↦ 16 ] ]
              ]
            ]
      ]
    ]

-- no number: the byte that stopped reading
abbrev pub stopped_at : ℕ → Parsed ℕ
stopped_at e = record { read = Err (Stop e); tree = 0 }

-- one digit d more, read at e: the number so far times 16, and the digit
unfoldable pub digit_by : ℕ → ℕ → ℕ → Parsed ℕ
digit_by e v d = elim (eqb d 16) [ true ↦ stopped_at e | false ↦ record { read = Ok (e + 1); tree = v * 16 + d } ]

unfoldable pub digit_from : List ℕ → ℕ → Read → Parsed ℕ
digit_from s v (Ok e) = digit_by e v (hex_of (byte s e))
digit_from s v (Err (Stop e)) = stopped_at e
digit_from s v (Err (Deep e)) = stopped_at e

unfoldable pub digit_at : List ℕ → Parsed ℕ → Parsed ℕ
digit_at s p = digit_from s p.tree p.read

-- the last digit is the byte that stops reading, where the number so far fails a test
unfoldable pub tested_from : (ℕ → Bool) → ℕ → Read → Parsed ℕ
tested_from f v (Ok e) = elim (f v) [ true ↦ record { read = Ok e; tree = v } | false ↦ stopped_at (e - 1) ]
tested_from f v (Err (Stop e)) = stopped_at e
tested_from f v (Err (Deep e)) = stopped_at e

unfoldable pub tested : (ℕ → Bool) → Parsed ℕ → Parsed ℕ
tested f p = tested_from f p.tree p.read

abbrev pub no_digits : ℕ → Parsed ℕ
no_digits at = record { read = Ok at; tree = 0 }

-- the first two digits of a second half are DC to DF
abbrev pub begins_second : ℕ → Bool
begins_second v = in_range (220 to 223) v

-- "4HEXDIG", the number ((a * 16 + b) * 16 + c) * 16 + d: not a second half, and not 0000
abbrev pub unit_at : List ℕ → ℕ → Parsed ℕ
unit_at s at =
    tested (λ (v : ℕ). not (eqb v 0)) (digit_at s (digit_at s (tested (λ (v : ℕ). not (begins_second v)) (digit_at s (digit_at s (no_digits at))))))

-- the digits of a second half: D, then C to F, then two more
abbrev pub second_at : List ℕ → ℕ → Parsed ℕ
second_at s at =
    digit_at s (digit_at s (tested begins_second (digit_at s (tested (λ (v : ℕ). eqb v 13) (digit_at s (no_digits at))))))

unfoldable pub second_from : List ℕ → Read → Parsed ℕ
second_from s (Ok e) = second_at s e
second_from s (Err (Stop e)) = stopped_at e
second_from s (Err (Deep e)) = stopped_at e

-- the character that two halves stand for
abbrev pub pair_of : ℕ → ℕ → ℕ
pair_of v w = 65536 + (v - 55296) * 1024 + (w - 56320)

unfoldable pub paired : ℕ → Parsed ℕ → Parsed ℕ
paired v p = record { read = p.read; tree = pair_of v p.tree }

-- a first half is followed by a backslash, u and a second half
unfoldable pub escaped_from : List ℕ → Parsed ℕ → Parsed ℕ
escaped_from s p =
    elim (is_first_half p.tree) [ true ↦ paired p.tree (second_from s (within_at s 117 117 (within_at s 92 92 p.read))) | false ↦ p ]

-- the character that a \u escape stands for, whose digits begin at `at`
abbrev pub escaped_at : List ℕ → ℕ → Parsed ℕ
escaped_at s at = escaped_from s (unit_at s at)

unfoldable pub going : Read → Next
going (Ok e) = Continue e
going (Err e) = Break (Err e)

-- the byte after a backslash
unfoldable pub escape_by : List ℕ → ℕ → ℕ → Next
escape_by s at c =
    elim (eqb (short_of c) 0) [
      | true ↦ elim (eqb c 117) [ true ↦ going (escaped_at s (at + 1)).read | false ↦ Break (Err (Stop at)) ]
      | false ↦ Continue (at + 1)
    ]

-- ── strings (RFC 4627 §2.5) ──
-- what stands for itself: "%x20-21 / %x23-5B / %x5D-10FFFF"
unfoldable pub is_unescaped : ℕ → Bool
is_unescaped c = leb 32 c && not (eqb c 34) && not (eqb c 92) && is_character c

-- a character of a string, or the quote that ends it, by its first byte b
unfoldable pub char_by : List ℕ → ℕ → ℕ → Next
char_by s at b =
    elim (eqb b 34) [
      | true ↦ Break (Ok (at + 1))
      | false ↦ elim (eqb b 92) [
        | true ↦ escape_by s (at + 1) (byte s (at + 1))
        | false ↦ elim (ltb b 32) [ true ↦ Break (Err (Stop at)) | false ↦ going (plain_by s at b) ]
      ]
    ]

-- the bytes that a character stands for, which begins with the byte b at `at` and ends at e
unfoldable pub char_bytes : List ℕ → ℕ → ℕ → ℕ → List ℕ
char_bytes s at e b =
    elim (eqb b 92) [
      | true ↦ elim (eqb (byte s (at + 1)) 117) [ true ↦ utf8 (escaped_at s (at + 2)).tree | false ↦ short_of (byte s (at + 1)) ∷ [] ]
      | false ↦ between s at e
    ]

unfoldable pub char_adds : List ℕ → ℕ → Next → List ℕ
char_adds s at (Continue e) = char_bytes s at e (byte s at)
char_adds s at (Break r) = []

abbrev pub char_turn : List ℕ → ℕ → Turn ℕ
char_turn s at = record { next = char_by s at (byte s at); adds = char_adds s at (char_by s at (byte s at)) }

-- the characters of a string up to its quote. A text of n bytes has no more than n
abbrev pub body_at : List ℕ → ℕ → Parsed (List ℕ)
body_at s at = run (char_turn s) (length s) at

-- a string with its quotes
unfoldable pub string_at : List ℕ → ℕ → Parsed (List ℕ)
string_at s at = and_then [] (body_at s) (within_at s 34 34 (Ok at))
