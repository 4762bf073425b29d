-- Demand 3 on states, on the way to the one on areas (specs/Demands.antt). Assumes nothing: these are definitions.
use mathlib.Core.Path.{◌≡◌}
use mathlib.Core.Logic.{◌⊎◌}
use mathlib.Core.Bool.{Bool, true, ◌&&◌}
use mathlib.Core.List.{List, [], ◌∷◌, Memᴰ}
use Prim.Native.Nat.{ℕ, zero, suc, ◌≤◌, ◌<◌}
use lib.Dec.{eqb}
use lib.ListN.{length, get_or, take}
use Rattle.std.specs.Prelude.{if◌then◌else◌}
use Rattle.model.specs.Schema.{Schema}
use Rattle.model.specs.Rows.{Row}
use Rattle.model.specs.Records.{Change, end, acts, is_end, numbered, encode, decode}
use Rattle.model.proofs.Order.{Good}
use Rattle.model.specs.Mirror.{Mirror, fresh, level, step, highest, something, number_carried}
use Rattle.model.specs.Refusals.{is_refusal}
use Rattle.model.specs.declared.Status.TheVariants.{Applied}
use Rattle.model.proofs.StateHistory.{empty, Call, transact, ask_mark, finally, changes, written}

-- a list of arrivals, each finding the mirror as the last one left it
abbrev pub through : Schema → ℕ → Mirror → List (List ℕ) → Mirror
through s run m [] = m
through s run m (x ∷ xs) = through s run (step s run m x).next xs

abbrev pub heard_of : Schema → ℕ → Mirror → List (List ℕ) → List ℕ
heard_of s run m [] = []
heard_of s run m (x ∷ xs) =
    if is_refusal (step s run m x).status then heard_of s run (step s run m x).next xs
    else number_carried (decode x) ∷ heard_of s run (step s run m x).next xs

-- each transact keeps what holds of a store's rows
abbrev pub Keeps : Schema → List Call → Type 0
Keeps s [] = Unit
Keeps s (transact f ∷ cs) = ((rows : List Row) → Good s rows → Good s (f rows)) × Keeps s cs
Keeps s (ask_mark ∷ cs) = Keeps s cs

-- arrivals: what was sent, in any order, any lost, any repeated, with whatever else the mirror refuses
abbrev pub Arrive : Schema → ℕ → List (List ℕ) → Mirror → List (List ℕ) → Type 0
Arrive s run sent m [] = Unit
Arrive s run sent m (x ∷ xs) = (Memᴰ x sent ⊎ (is_refusal (step s run m x).status ≡ true)) × Arrive s run sent (step s run m x).next xs

-- n is 0, or "Number n ends a commit where record n is its end"
abbrev pub ends_at : List Change → ℕ → Bool
ends_at es zero = true
ends_at es (suc k) = is_end (get_or es k end)

-- "Record k is the history's record numbered k": of a mirror m that heard the numbers `heard`, at any time of a history's calls
module _ (s : Schema) (run : ℕ) (calls : List Call) where
  pub record Follows (m : Mirror) (heard : List ℕ) : Type 0 where
    pub within : m.n ≤ length (changes s run empty calls)
    -- its rows are what records 1 to n make of none
    pub rows : m.rows ≡ acts s (take m.n (changes s run empty calls)) []
    -- record n+1 moves n by one
    pub moves : (x : List ℕ) → m.n < length (changes s run empty calls) → x ≡ encode (numbered run (suc m.n) (get_or (changes s run empty calls) m.n end))
        → ((step s run m x).status ≡ Applied) × ((step s run m x).next.n ≡ suc m.n)
    -- "the mirror refuses none of them"
    pub refuses_none : (x : List ℕ) → Memᴰ x (written s run empty calls) → is_refusal (step s run m x).status ≡ Bool.false
    -- what it has heard, and whether n is 0 or ends a commit
    pub top : m.top ≡ highest heard
    pub loud : m.heard ≡ something heard
    pub whole : m.whole ≡ ends_at (changes s run empty calls) m.n
    -- level exactly when something was heard, n is the highest heard, and n is 0 or ends a commit
    pub levels : level m ≡ (something heard && eqb m.n (highest heard) && ends_at (changes s run empty calls) m.n)
    -- level: its rows are the store's after each call that left the store at number n, and there is such a call (or none was made)
    pub store : level m ≡ true → (j : ℕ) → (finally s run empty (take j calls)).last ≡ m.n → m.rows ≡ (finally s run empty (take j calls)).rows
    pub commit : level m ≡ true → (j : ℕ) × (j ≤ length calls) × ((finally s run empty (take j calls)).last ≡ m.n)

  -- after each arrival of any list of them
  abbrev pub Demand3 : Type 0
  Demand3 = (xs : List (List ℕ)) → Arrive s run (written s run empty calls) fresh xs
      → (i : ℕ) → Follows (through s run fresh (take i xs)) (heard_of s run fresh (take i xs))
