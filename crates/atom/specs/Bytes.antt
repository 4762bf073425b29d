-- What the code asks of one number or one byte: of 64 bits in the order of integers, of a byte of UTF-8. Assumes nothing: these are definitions.
use Rattle.std.specs.Prelude.{ℕ, zero, suc, ◌-◌, ◌<◌, ◌≡◌, Bool, true, false, not, ◌&&◌, List, [], ◌∷◌, eqb, ltb, leb, length}
use Rattle.model.specs.Limits.{atom_bytes}
use Rattle.model.specs.Base.{all}
use Rattle.model.specs.Strings.{Range, ◌to◌}
use Rattle.model.specs.Text.{begins}
use Rattle.leaf.specs.Bytes.{second_low, second_high}

-- the ranges of the bytes that are due, the next of them from low to high
abbrev pub due_ranges : ℕ → ℕ → ℕ → List Range
due_ranges zero low high = []
due_ranges (suc k) low high = (low to high) ∷ due_ranges k 128 191

-- how many more bytes the character has that begins with b; 4 where none does
unfoldable pub more_after : ℕ → ℕ
more_after b =
    elim (eqb b 0) [
      | true ↦ 4
      | false ↦ elim (ltb b 128) [
        | true ↦ 0
        | false ↦ elim (ltb b 194) [
          | true ↦ 4
          | false ↦
              elim (ltb b 224) [ true ↦ 1 | false ↦ elim (ltb b 240) [ true ↦ 2 | false ↦ elim (ltb b 245) [ true ↦ 3 | false ↦ 4 ] ] ]
        ]
      ]
    ]

-- a byte b where `due` more bytes of a character are due, the next of them from low to high: whether it fits, and what is due after it
unfoldable pub fits_at : ℕ → ℕ → ℕ → ℕ → Bool
fits_at due low high b = elim (eqb due 0) [ true ↦ not (eqb (more_after b) 4) | false ↦ leb low b && leb b high ]

unfoldable pub due_after : ℕ → ℕ → ℕ
due_after due b = elim (eqb due 0) [ true ↦ more_after b | false ↦ due - 1 ]

unfoldable pub low_after : ℕ → ℕ → ℕ
low_after due b = elim (eqb due 0) [ true ↦ second_low b | false ↦ 128 ]

unfoldable pub high_after : ℕ → ℕ → ℕ
high_after due b = elim (eqb due 0) [ true ↦ second_high b | false ↦ 191 ]

-- 1 where a byte begins a character
unfoldable pub ones : ℕ → ℕ
ones b = elim (begins b) [ true ↦ 1 | false ↦ 0 ]

-- what an atom's type says of it, where its bytes from `at` on are looked at
pub record Typed (at : ℕ) (a : List ℕ) : Type 0 where
  pub size : length a ≡ atom_bytes
  pub bytes : at < atom_bytes → all (λ b. ltb b 256) a ≡ true
