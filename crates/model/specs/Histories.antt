-- Histories of calls on a store's area, and of arrivals at a mirror's: from bytes to bytes (document 01, demand 3). Assumes nothing: these are definitions.
use Rattle.std.specs.Prelude.{ℕ, zero, suc, ◌≡◌, ◌⊎◌, Bool, true, false, ◌&&◌, eqb, ltb, get_or, Option, Some, None}
use mathlib.Core.List.{List, [], ◌∷◌, ◌++◌, map, Memᴰ}
use Rattle.model.specs.Base.{all}
use Rattle.model.specs.Schema.{Schema}
use Rattle.model.specs.Rows.{Row}
use Rattle.model.specs.Refusals.{is_refusal}
use Rattle.model.specs.Records.{Change, end, acts, Record, numbered, mark, decode, pieces, end_kind}
use Rattle.model.specs.Mirror.{number_carried}
use Rattle.model.specs.Calls.{store_transact, store_mark, mirror_hear}

-- a call on a store: a transact with any bytes and buffers, or the asking for a mark
pub data StoreCall : Type 0 where
  transact : (request fresh records answer : List ℕ) → StoreCall
  ask_mark : (out : List ℕ) → StoreCall

-- a byte is a number below 256
abbrev pub are_bytes : List ℕ → Bool
are_bytes b = all (λ (x : ℕ). ltb x 256) b

abbrev pub of_bytes : StoreCall → Bool
of_bytes (transact q f r t) = are_bytes q && are_bytes f && are_bytes r && are_bytes t
of_bytes (ask_mark o) = are_bytes o

-- the area that it leaves
abbrev pub area_after : List ℕ → StoreCall → List ℕ
area_after a (transact q f r t) = (store_transact a q f r t).area
area_after a (ask_mark o) = a

abbrev pub area_after_all : List ℕ → List StoreCall → List ℕ
area_after_all a [] = a
area_after_all a (c ∷ cs) = area_after_all (area_after a c) cs

-- the records that it writes, and all that it gives to be sent, marks too
abbrev pub records_in : List ℕ → StoreCall → List (List ℕ)
records_in a (transact q f r t) = pieces (store_transact a q f r t).records
records_in a (ask_mark o) = []

abbrev pub sent_in : List ℕ → StoreCall → List (List ℕ)
sent_in a (transact q f r t) = records_in a (transact q f r t)
sent_in a (ask_mark o) = pieces (store_mark a o).mark

-- of a whole history, each call on the area that the one before left
abbrev pub records_of : List ℕ → List StoreCall → List (List ℕ)
records_of a [] = []
records_of a (c ∷ cs) = records_in a c ++ records_of (area_after a c) cs

abbrev pub sent_of : List ℕ → List StoreCall → List (List ℕ)
sent_of a [] = []
sent_of a (c ∷ cs) = sent_in a c ++ sent_of (area_after a c) cs

-- what a record says; "Number n ends a commit where record n is its end"
abbrev pub change_of : Option Record → Change
change_of None = end
change_of (Some (numbered u k e)) = e
change_of (Some (mark u k)) = end

abbrev pub change_in : List ℕ → Change
change_in x = change_of (decode x)

-- "its rows are what records 1 to n make"
abbrev pub made : Schema → List (List ℕ) → List Row
made s rs = acts s (map change_in rs) []

abbrev pub ends_commit : List (List ℕ) → ℕ → Bool
ends_commit rs zero = true
ends_commit rs (suc k) = eqb (get_or (get_or rs k []) 0 0) end_kind

-- ── arrivals at a mirror's area ──
abbrev pub heard_all : List ℕ → List (List ℕ) → List ℕ
heard_all m [] = m
heard_all m (x ∷ xs) = heard_all (mirror_hear m x).area xs

-- "any order, lost, repeated, with whatever else the mirror refuses"
abbrev pub Arrivals : List (List ℕ) → List ℕ → List (List ℕ) → Type 0
Arrivals sent m [] = Unit
Arrivals sent m (x ∷ xs) = (Memᴰ x sent ⊎ (is_refusal (mirror_hear m x).status ≡ true)) × Arrivals sent (mirror_hear m x).area xs

-- "What a mirror doesn't refuse it has heard": the numbers carried by those
abbrev pub heard_numbers : List ℕ → List (List ℕ) → List ℕ
heard_numbers m [] = []
heard_numbers m (x ∷ xs) =
    let rest = heard_numbers (mirror_hear m x).area xs in
    elim (is_refusal (mirror_hear m x).status) [ true ↦ rest | false ↦ number_carried (decode x) ∷ rest ]
