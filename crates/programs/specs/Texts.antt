-- Texts in bytes, each after its length in two bytes. Assumes nothing: these are definitions.
use Rattle.std.specs.Prelude.{◌≡◌, ℕ, ◌+◌, ◌<◌, ◌≤◌, List, length, take, drop}
use Rattle.std.specs.Int.{from_be_bytes, w16}

-- the length that stands at the start
abbrev pub length_at : List ℕ → ℕ
length_at bytes = from_be_bytes w16 (take 2 bytes)

-- the first text, and what is left behind it
abbrev pub LeadsTo : List ℕ → List ℕ → List ℕ → Type 0
LeadsTo bytes text left =
    (text ≡ take (length_at bytes) (drop 2 bytes)) × (left ≡ drop (length_at bytes) (drop 2 bytes)) × (2 + length text + length left ≡ length bytes)

-- there is no whole text at the start
abbrev pub IsCut : List ℕ → Type 0
IsCut bytes = 2 ≤ length bytes → length bytes < 2 + length_at bytes
