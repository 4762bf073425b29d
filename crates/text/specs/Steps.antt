-- A string gone through byte by byte, an escape as the bytes that it stands for. Assumes nothing: these are definitions.
use Rattle.std.specs.Prelude.{ℕ, suc, ◌+◌, ◌-◌, ◌≤◌, ◌≡◌, List, [], ◌∷◌, true, false, ltb, length, get_or, drop, Option, Some, None}
use Rattle.model.specs.Scan.{byte, spaces_at, run}
use Rattle.model.specs.Strings.{char_by, char_adds, char_turn}
use Rattle.model.specs.Nav.{kind_of, is_text}
use Rattle.inner.specs.Positions.{tree_at}

-- where the characters of the string at a position begin, if there is one: past its first quote
unfoldable pub body_place : List ℕ → ℕ → Option ℕ
body_place s at = elim (is_text (kind_of (tree_at s at))) [ true ↦ Some (spaces_at s at + 1) | false ↦ None ]

-- the bytes of a string from the character at `at` on
unfoldable pub body_from : List ℕ → ℕ → List ℕ
body_from s at = (run (char_turn s) (suc (length s)) at).tree

-- an offset is inside of the character at `at`, or 0
unfoldable pub Inside : List ℕ → ℕ → ℕ → Type 0
Inside s at off = off ≤ length (char_adds s at (char_by s at (byte s at))) - 1

-- byte `off` of those of a character from `at` to e, and where the next byte is
unfoldable pub picked : List ℕ → ℕ → ℕ → ℕ → Option (ℕ × ℕ × ℕ)
picked bs at e off = elim (ltb (off + 1) (length bs)) [ true ↦ Some ((get_or bs off 0), at, (off + 1)) | false ↦ Some ((get_or bs off 0), e, 0) ]

-- a byte and those after it
unfoldable pub bytes_of : List ℕ → Option (ℕ × ℕ × ℕ) → List ℕ
bytes_of s (Some (b, at, off)) = b ∷ drop off (body_from s at)
bytes_of s None = []

-- the next byte is inside of a character
unfoldable pub Going : List ℕ → Option (ℕ × ℕ × ℕ) → Type 0
Going s (Some (b, at, off)) = Inside s at off
Going s None = Unit

-- the first of some bytes of a string, if there is one
pub record Steps (s bs : List ℕ) (r : Option (ℕ × ℕ × ℕ)) : Type 0 where
  pub bytes : bytes_of s r ≡ bs
  pub going : Going s r
