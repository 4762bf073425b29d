-- How the code reads the digits of a \u escape and a character of several bytes: a digit at a time into 16 bits, and by the lead byte. Assumes nothing: these are definitions.
use Rattle.std.specs.Prelude.{Result}
use Rattle.std.specs.Prelude.{Ok, Err}
use Rattle.model.specs.declared.ReadError.TheVariants.{Stop, Deep}
use Rattle.std.specs.declared.ops.ControlFlow.TheVariants.{Continue, Break}
use Rattle.model.specs.Scan.{Read, Next}
use Rattle.std.specs.Prelude.{ℕ, ◌+◌, ◌-◌, ◌*◌, ◌%◌, List, true, false, eqb, ltb}
use Rattle.model.specs.Scan.{byte, within_at}
use Rattle.model.specs.Strings.{hex_of}
use Rattle.scan.specs.declared.Half.{Half}
use Rattle.scan.specs.declared.Half.TheVariants.{Whole, High, Refused}
use Rattle.leaf.specs.Bytes.{second_low, second_high}

-- hexadecimal digits read so far: the next position and their number; or the position of a byte that is none
abbrev pub Hex : Type 0
Hex = Result (ℕ × ℕ) ℕ

-- one digit d more, read at e
unfoldable pub hex_add : ℕ → ℕ → ℕ → Hex
hex_add e v d = elim (eqb d 16) [ true ↦ Err e | false ↦ Ok ((e + 1), (v % 4096 * 16 + d)) ]

unfoldable pub hex_step : List ℕ → Hex → Hex
hex_step s (Ok (e, v)) = hex_add e v (hex_of (byte s e))
hex_step s (Err e) = Err e

-- digits whose number so far lies outside low to high, or within it; else the last digit is bad
unfoldable pub outside : ℕ → ℕ → Hex → Hex
outside low high (Ok (e, v)) =
    elim (ltb v low) [ true ↦ Ok (e, v) | false ↦ elim (ltb high v) [ true ↦ Ok (e, v) | false ↦ Err (e - 1) ] ]
outside low high (Err e) = Err e

unfoldable pub inside : ℕ → ℕ → Hex → Hex
inside low high (Ok (e, v)) =
    elim (ltb v low) [ true ↦ Err (e - 1) | false ↦ elim (ltb high v) [ true ↦ Err (e - 1) | false ↦ Ok (e, v) ] ]
inside low high (Err e) = Err e

-- four hexadecimal digits: not 0000, and not a second half of a surrogate pair, which begins with DC to DF
abbrev pub hex_at : List ℕ → ℕ → Hex
hex_at s at = outside 0 0 (hex_step s (hex_step s (outside 220 223 (hex_step s (hex_step s (Ok (at, 0)))))))

-- the four digits of a second half
abbrev pub low_hex_at : List ℕ → ℕ → Hex
low_hex_at s at = hex_step s (hex_step s (inside 220 223 (hex_step s (inside 13 13 (hex_step s (Ok (at, 0)))))))

-- a 16-bit unit: a character, the first half of a surrogate pair, or 0 or a second half, which are refused at their digits
unfoldable pub half_of : ℕ → Half
half_of v =
    elim (eqb v 0) [
      | true ↦ Refused
      | false ↦ elim (ltb v 55296) [
        | true ↦ Whole
        | false ↦
            elim (ltb v 56320) [ true ↦ High | false ↦ elim (ltb v 57344) [ true ↦ Refused | false ↦ Whole ] ]
      ]
    ]

-- the second half of a pair: backslash, u and four digits
unfoldable pub low_from : List ℕ → Read → Hex
low_from s (Ok e) = low_hex_at s e
low_from s (Err (Stop e)) = Err e
low_from s (Err (Deep e)) = Err e

abbrev pub low_at : List ℕ → ℕ → Hex
low_at s at = low_from s (within_at s 117 117 (within_at s 92 92 (Ok at)))

unfoldable pub pair_by : Hex → Next
pair_by (Ok (e, w)) = Continue e
pair_by (Err e) = Break (Err (Stop e))

unfoldable pub unit_by : List ℕ → Hex → Next
unit_by s (Ok (e, v)) = elim (half_of v) [ Whole ↦ Continue e | High ↦ pair_by (low_at s e) | Refused ↦ Break (Err (Stop e)) ]
unit_by s (Err e) = Break (Err (Stop e))

-- a character of two to four bytes, whose lead byte b stands at `at`
unfoldable pub wide_by : List ℕ → ℕ → ℕ → Read
wide_by s at b =
    elim (ltb b 194) [
      | true ↦ Err (Stop at)
      | false ↦ elim (ltb 244 b) [
        | true ↦ Err (Stop at)
        | false ↦
            elim (ltb b 224) [
              | true ↦ within_at s (second_low b) (second_high b) (Ok (at + 1))
              | false ↦
                  elim (ltb b 240) [
                    | true ↦ within_at s 128 191 (within_at s (second_low b) (second_high b) (Ok (at + 1)))
                    | false ↦ within_at s 128 191 (within_at s 128 191 (within_at s (second_low b) (second_high b) (Ok (at + 1))))
                  ]
            ]
      ]
    ]
