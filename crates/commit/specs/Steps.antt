-- What a commit says of the working rows in cells, and what it leaves of them. Assumes nothing: these are definitions.
use Rattle.std.specs.Prelude.{ℕ, ◌≤◌, ◌≡◌, true, false, List, take}
use Rattle.model.specs.Schema.{Schema}
use Rattle.model.specs.Commit.{all_found, commit}
use Rattle.inner.specs.Working.{working, Tidy, Ordered}
use Rattle.commit.specs.declared.Settled.{Settled}

-- "what happens at the commit": the fault of the four steps over the first n rows; the rows are as they were where a strong reference is missing, and else those after the steps, within limits or not
pub record Committed (s : Schema) (n : ℕ) (entry exit : List (List (List ℕ))) (r : Settled) : Type 0 where
  pub fault : r.fault ≡ (commit s (working s n entry)).fault
  pub stays : all_found s (working s n entry) ≡ false → (exit ≡ entry) × (r.count ≡ n)
  pub rows : all_found s (working s n entry) ≡ true → working s r.count exit ≡ (commit s (working s n entry)).got
  pub few : r.count ≤ n
  pub tidy : Tidy s (take n entry) → Tidy s (take r.count exit)
  pub ordered : Ordered r.count exit
