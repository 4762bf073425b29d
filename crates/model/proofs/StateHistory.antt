-- A store's history on states, on the way to the one on areas: a list of calls, each handed what the one before left, and what they write (document 01, demand 3). Assumes nothing: these are definitions.
use Prim.Native.Nat.{ℕ, ◌+◌}
use mathlib.Core.Bool.{Bool}
use mathlib.Core.List.{List, [], ◌∷◌, ◌++◌, map}
use lib.Dec.{leb}
use lib.ListN.{length}
use Rattle.model.specs.Limits.{last_number}
use Rattle.std.specs.Prelude.{if◌then◌else◌}
use Rattle.model.specs.Schema.{Schema}
use Rattle.model.specs.Rows.{Row}
use Rattle.model.specs.Records.{Change, diff, Record, mark, number_from, encode}

-- a store's rows, and the last number given out
pub record State : Type 0 where
  pub rows : List Row
  pub last : ℕ

-- "The store's rows begin as none"
abbrev pub empty : State
empty = record { rows = []; last = 0 }

-- a call: a transact, by what it would make of the rows (those it finds, where it is refused or fails), or the asking for a mark
pub data Call : Type 0 where
  transact : (List Row → List Row) → Call
  ask_mark : Call

module _ (s : Schema) (run : ℕ) where
  -- refusal 10, "the commit's records would pass the last record number": the opposite
  abbrev pub room : State → (List Row → List Row) → Bool
  room st f = leb (st.last + length (diff s st.rows (f st.rows))) last_number

  abbrev pub changes_of : State → Call → List Change
  changes_of st (transact f) = if room st f then diff s st.rows (f st.rows) else []
  changes_of st ask_mark = []

  -- "a transact that commits makes them what the rules above say, no other call changes them"
  abbrev pub rows_after : State → Call → List Row
  rows_after st (transact f) = if room st f then f st.rows else st.rows
  rows_after st ask_mark = st.rows

  abbrev pub state_after : State → Call → State
  state_after st c = record { rows = rows_after st c; last = st.last + length (changes_of st c) }

  -- "A mark has no number of its own and is asked for between calls"
  abbrev pub records_of : State → Call → List Record
  records_of st (transact f) = number_from run st.last (changes_of st (transact f))
  records_of st ask_mark = mark run st.last ∷ []

  -- over the whole history
  abbrev pub finally : State → List Call → State
  finally st [] = st
  finally st (c ∷ cs) = finally (state_after st c) cs

  abbrev pub changes : State → List Call → List Change
  changes st [] = []
  changes st (c ∷ cs) = changes_of st c ++ changes (state_after st c) cs

  abbrev pub records : State → List Call → List Record
  records st [] = []
  records st (c ∷ cs) = records_of st c ++ records (state_after st c) cs

  abbrev pub written : State → List Call → List (List ℕ)
  written st cs = map encode (records st cs)
