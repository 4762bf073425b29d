-- What the writers leave in a buffer (document 01, "one byte of kind, then a body whose length the kind fixes"). Assumes nothing: these are definitions.
use Rattle.std.specs.Prelude.{ℕ, ◌≡◌, List, ◌∷◌, ◌++◌, length, drop}
use Rattle.model.specs.Limits.{id_bytes, number_bytes}
use Rattle.model.specs.Octets.{big}
use Rattle.model.specs.Records.{Record, encode}

-- kind, "run 4, number 4"
unfoldable pub start_bytes : ℕ → ℕ → ℕ → List ℕ
start_bytes kind run number = kind ∷ big number_bytes run ++ big number_bytes number

-- "the same", "table 1, id 16"
unfoldable pub head_bytes : ℕ → ℕ → ℕ → ℕ → ℕ → List ℕ
head_bytes kind run number table id = start_bytes kind run number ++ table ∷ big id_bytes id

-- the record's bytes from the front, and what stood behind them as it was
pub record Wrote (r : Record) (len : ℕ) (before after : List ℕ) : Type 0 where
  pub size : length (encode r) ≡ len
  pub bytes : after ≡ encode r ++ drop len before
