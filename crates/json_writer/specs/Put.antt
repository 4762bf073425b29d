-- Text written as it is produced: as far as the buffer goes, and counted on (document 01, the answer buffer and refusal 7). Assumes nothing: these are definitions.
use Rattle.std.specs.Prelude.{◌≡◌, List, ℕ, ◌+◌, ◌≤◌, length}
use Rattle.std.proofs.lemmas.List.Edits.{sets}

-- a buffer after bytes were stored one by one from a position on; a store past its end changes nothing
unfoldable pub put_at : List ℕ → ℕ → List ℕ → List ℕ
put_at out at bytes = sets out at bytes

-- what a writer does where `at` bytes of text came before: the text's bytes are in the buffer and counted, and there are at most so many of them
pub record Put (most : ℕ) (before : List ℕ) (at : ℕ) (text : List ℕ) (r : ℕ) (after : List ℕ) : Type 0 where
  pub count : r ≡ at + length text
  pub out : after ≡ put_at before at text
  pub short : r ≤ at + most
