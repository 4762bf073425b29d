-- Collection by counts: each row's strong references are counted once, and a row that goes takes its own off the counts. Assumes nothing: these are definitions.
use Rattle.std.specs.Prelude.{ℕ, ◌+◌, ◌-◌, ◌≤◌, ◌<◌, ◌≡◌, Bool, true, false, not, ◌&&◌, List, [], ◌∷◌, eqb, length, get_or, set, take, Option, Some, None}
use Rattle.model.specs.Base.{count}
use Rattle.model.specs.Schema.{Schema, is_root}
use Rattle.model.specs.Rows.{Row, key}
use Rattle.model.specs.Commit.{strong_of}
use Rattle.inner.specs.Working.{working, table_in, key_in}

-- ── what is counted ──
-- how many strong references a row has to the row under a key, if it is a different one; and how many rows together have
unfoldable pub from : Schema → ℕ → Row → ℕ
from s k q = elim (eqb (key q) k) [ true ↦ 0 | false ↦ count (eqb k) (strong_of s q) ]

abbrev pub refs : Schema → ℕ → List Row → ℕ
refs s k [] = 0
refs s k (q ∷ rows) = from s k q + refs s k rows

-- what is left, by the marks: 0 is gone
abbrev pub left : {A : Type 0} → List A → List ℕ → List A
left [] ms = []
left (r ∷ rows) [] = []
left (r ∷ rows) (m ∷ ms) = elim (eqb m 0) [ true ↦ left rows ms | false ↦ r ∷ left rows ms ]

abbrev pub nobody : Row
nobody = record { table = 0; id = 0; columns = [] }

-- the row at a place may go: it is there, its count is 0, and its table is not root
abbrev pub free : Schema → List Row → List ℕ → List ℕ → ℕ → Bool
free s rows ms cs i = not (eqb (get_or ms i 0) 0) && (eqb (get_or cs i 0) 0 && not (is_root s (get_or rows i nobody).table))

-- the counts without the references of row x
abbrev pub Lowered : Schema → List Row → Row → List ℕ → List ℕ → Type 0
Lowered s rows x cs next = (i : ℕ) → i < length rows → get_or next i 0 ≡ get_or cs i 0 - from s (key (get_or rows i nobody)) x

-- rows that may go do, in whatever order, until none may
pub data Tallies (s : Schema) (rows : List Row) : List ℕ → List ℕ → List ℕ → Type 0 where
  all_held : {ms cs : List ℕ} → ((i : ℕ) → i < length rows → free s rows ms cs i ≡ false) → Tallies s rows ms cs ms
  goes : {ms cs next end : List ℕ} (i : ℕ) → i < length rows → free s rows ms cs i ≡ true → Lowered s rows (get_or rows i nobody) cs next
      → Tallies s rows (set ms i 0) next end → Tallies s rows ms cs end

-- ── what the parts promise ──
-- a count, more or less
unfoldable pub shifted : Bool → ℕ → ℕ → ℕ
shifted true c w = c + w
shifted false c w = c - w

-- how many of the keys that the row at place `own` refers to are that of the row at place k, if it is a different one
unfoldable pub held : ℕ → ℕ → ℕ → List ℕ → ℕ
held own k key keys = elim (eqb own k) [ true ↦ 0 | false ↦ count (eqb key) keys ]

abbrev pub most_count : ℕ
most_count = 65535

-- the counts can take these references
pub record Room (up : Bool) (n : ℕ) (cells : List (List (List ℕ))) (own : ℕ) (keys : List ℕ) (counts : List ℕ) : Type 0 where
  pub room : (k : ℕ) → k < n → up ≡ true → get_or counts k 0 + held own k (key_in (get_or cells k [])) keys ≤ most_count

-- the counts with these references, or without them
pub record Counted (up : Bool) (n : ℕ) (cells : List (List (List ℕ))) (own : ℕ) (keys : List ℕ) (entry exit : List ℕ) : Type 0 where
  pub counts : (k : ℕ) → k < n → get_or exit k 0 ≡ shifted up (get_or entry k 0) (held own k (key_in (get_or cells k [])) keys)

-- each row's count is that of the references to it from different rows
pub record Tallied (s : Schema) (n : ℕ) (cells : List (List (List ℕ))) (exit : List ℕ) : Type 0 where
  pub counts : (k : ℕ) → k < n → get_or exit k 0 ≡ refs s (key_in (get_or cells k [])) (working s n cells)

-- a row may go: it is there, its count is 0, and its table is not root
unfoldable pub may_go : Schema → List (List ℕ) → ℕ → ℕ → Bool
may_go s row m c = not (eqb m 0) && (eqb c 0 && not (is_root s (table_in row)))

unfoldable pub NextAt : Schema → ℕ → List (List (List ℕ)) → List ℕ → List ℕ → Option ℕ → Type 0
NextAt s n cells ms cs (Some i) = (i < n) × (may_go s (get_or cells i []) (get_or ms i 0) (get_or cs i 0) ≡ true)
NextAt s n cells ms cs None = (i : ℕ) → i < n → may_go s (get_or cells i []) (get_or ms i 0) (get_or cs i 0) ≡ false

-- rows went by their marks until none may go
unfoldable pub Swept : Schema → ℕ → List (List (List ℕ)) → List ℕ → List ℕ → List ℕ → Type 0
Swept s n cells ms cs end = Tallies s (working s n cells) ms cs end

-- some rows went by their marks: what is swept from there is swept from the start
unfoldable pub PartlySwept : Schema → ℕ → List (List (List ℕ)) → List ℕ → List ℕ → List ℕ → List ℕ → Type 0
PartlySwept s n cells ms cs later lower = (end : List ℕ) → Swept s n cells later lower end → Swept s n cells ms cs end

-- row j at place m, if it is marked
unfoldable pub Put : ℕ → ℕ → ℕ → ℕ → List (List (List ℕ)) → List (List (List ℕ)) → Type 0
Put m j mark r entry exit = elim (eqb mark 0) [ true ↦ (r ≡ m) × (exit ≡ entry) | false ↦ (r ≡ m + 1) × (exit ≡ set entry m (get_or entry j [])) ]

-- the marked rows, in front
pub record Compacted (n r : ℕ) (ms : List ℕ) (entry exit : List (List (List ℕ))) : Type 0 where
  pub few : r ≤ n
  pub there : n ≤ length exit
  pub rows : take r exit ≡ left (take n entry) ms
