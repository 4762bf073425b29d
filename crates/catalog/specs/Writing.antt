-- The entries of a catalog as they are written. Assumes nothing: these are definitions.
use Rattle.std.specs.Prelude.{ℕ, ◌+◌, Bool, List, [], ◌∷◌, ◌++◌}
use Rattle.model.specs.declared.Whole.{Whole}
use Rattle.model.specs.Octets.{big, twos}
use Rattle.model.specs.Whole.{whole_int}
use Rattle.model.specs.Catalog.{high_offset, bit}
use Rattle.catalog.specs.declared.Shape.{Shape}

-- where a column's entry ends
abbrev pub column_end : ℕ
column_end = high_offset + 8

-- two limits in two's complement
unfoldable pub limit_bytes : Whole → Whole → List ℕ
limit_bytes low high = big 8 (twos 64 (whole_int low)) ++ big 8 (twos 64 (whole_int high))

-- what follows the name in a column's entry: base, how it refers, target, min, max, mutable, low and high
abbrev pub column_bytes : Shape → List ℕ
column_bytes s = (s.base ∷ s.how ∷ s.target ∷ s.min ∷ s.max ∷ s.mutable ∷ []) ++ limit_bytes s.low s.high

-- what stands between a table's name and its indexes: how many columns, whether it is root, whether it has maxRows, and that
unfoldable pub head_bytes : ℕ → Bool → Bool → ℕ → List ℕ
head_bytes n root limited most = (n ∷ bit root ∷ bit limited ∷ []) ++ big 8 most
