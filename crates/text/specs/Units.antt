-- How the code takes a \u escape apart whose digits were read. Assumes nothing: these are definitions.
use Rattle.std.specs.Prelude.{Ok, Err}
use Rattle.scan.specs.Units.{Hex}
use Rattle.std.specs.Prelude.{ℕ, List, true, false}
use Rattle.model.specs.Strings.{is_first_half, utf8, pair_of}
use Rattle.scan.specs.Units.{low_at}

abbrev pub unit_or : Hex → ℕ
unit_or (Ok (e, v)) = v
unit_or (Err e) = 0

abbrev pub unit_end : Hex → ℕ
unit_end (Ok (e, v)) = e
unit_end (Err e) = e

-- the character that the unit v stands for, with the half w after it where it is a first half
unfoldable pub character_of : ℕ → ℕ → ℕ
character_of v w = elim (is_first_half v) [ true ↦ pair_of v w | false ↦ v ]

-- what a \u escape stands for, whose digits h were read
abbrev pub escape_bytes : List ℕ → Hex → List ℕ
escape_bytes s h = utf8 (character_of (unit_or h) (unit_or (low_at s (unit_end h))))
