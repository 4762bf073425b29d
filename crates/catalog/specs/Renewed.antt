-- What follows the name in a column's entry written anew. Assumes nothing: these are definitions.
use Rattle.std.specs.Prelude.{ℕ, List, [], ◌∷◌, ◌++◌, get_or}
use Rattle.model.specs.Octets.{big, value, twos, part}
use Rattle.model.specs.Value.{from_twos}
use Rattle.model.specs.SchemaText.{base_number}
use Rattle.model.specs.Catalog.{base_offset, refers_offset, target_offset, min_offset, max_offset, mutable_offset, low_offset, high_offset, base_numbered, refers_from, how_refers, target, is_set, bit}

-- base, how it refers, target, min, max and mutable
unfoldable pub known_bytes : List ℕ → List ℕ
known_bytes e =
    base_number (base_numbered (get_or e base_offset 0))
    ∷ how_refers (refers_from (get_or e refers_offset 0) 0)
    ∷ target (refers_from (get_or e refers_offset 0) (get_or e target_offset 0))
    ∷ get_or e min_offset 0
    ∷ get_or e max_offset 0
    ∷ bit (is_set e mutable_offset)
    ∷ []

-- 64 bits of two's complement, through the integer
abbrev pub twos_bytes : ℕ → List ℕ
twos_bytes x = big 8 (twos 64 (from_twos x))

-- and low and high
unfoldable pub rest_bytes : List ℕ → List ℕ
rest_bytes e = (known_bytes e ++ twos_bytes (value (part low_offset 8 e))) ++ twos_bytes (value (part high_offset 8 e))
