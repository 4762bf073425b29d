-- Halves of two's complement, and the bounds of a byte of UTF-8 by the one before it. Assumes nothing: these are definitions.
use Rattle.std.specs.Prelude.{ℕ, ◌+◌, ◌-◌, true, false, eqb, ltb}

-- the two halves of 64 bits of two's complement, the upper of which is negative, in the order of the integers
unfoldable pub halves : ℕ → ℕ
halves x = elim (ltb x 9223372036854775808) [ true ↦ x + 9223372036854775808 | false ↦ x - 9223372036854775808 ]

-- the bounds of the byte after a lead byte (RFC 3629 §4)
unfoldable pub second_low : ℕ → ℕ
second_low b = elim (eqb b 224) [ true ↦ 160 | false ↦ elim (eqb b 240) [ true ↦ 144 | false ↦ 128 ] ]

unfoldable pub second_high : ℕ → ℕ
second_high b = elim (eqb b 237) [ true ↦ 159 | false ↦ elim (eqb b 244) [ true ↦ 143 | false ↦ 191 ] ]
