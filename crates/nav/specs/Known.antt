-- What follows a value, and what the table of ends tells of a member. Assumes nothing: these are definitions.
use Rattle.std.specs.Prelude.{Ok}
use Rattle.std.specs.Prelude.{ℕ, ◌+◌, ◌≡◌, ◌⊎◌, true, false, List, eqb, Option, Some, None}
use Rattle.model.specs.Scan.{byte, spaces_at}
use Rattle.model.specs.Json.{key_at}

-- the place after the comma that follows what ends at e
unfoldable pub next_after : List ℕ → ℕ → Option ℕ
next_after s e = elim (eqb (byte s (spaces_at s e)) 44) [ true ↦ Some (spaces_at s e + 1) | false ↦ None ]

-- 0, or where the value of the member at a place begins
abbrev pub KeyKnown : List ℕ → ℕ → ℕ → Type 0
KeyKnown s at v = (v ≡ 0) ⊎ ((key_at s at).read ≡ Ok v)
