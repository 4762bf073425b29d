-- What the exported functions return and leave: numbers for a status, and the answers to questions as bytes (the C header says the same). Assumes nothing: these are definitions.
use Rattle.std.specs.Prelude.{ℕ, true, false, List, [], ◌∷◌, ◌++◌, eqb, length}
use Rattle.model.specs.declared.Status.{Status}
use Rattle.model.specs.declared.Status.TheVariants.{WrongLength}
use Rattle.model.specs.Octets.{big}
use Rattle.model.specs.Refusals.{number_of}
use Rattle.model.specs.Catalog.{bit}
use Rattle.model.specs.FirstRefusal.{given, ask_conditions}
use Rattle.model.specs.Calls.{zeroed, mirror_progress, mirror_has_row}

-- a question's status as a number, and its output
pub record Output : Type 0 where
  pub status : ℕ
  pub out : List ℕ

-- "An output of the wrong length gets 2" (reading 48), and at a refusal it is all zero; one of n bytes is filled with what was asked for
unfoldable pub output_in : ℕ → List ℕ → Status → List ℕ → Output
output_in n out a bytes =
    elim (eqb (length out) n) [
      | true ↦ record { status = number_of a; out = bytes }
      | false ↦ record { status = number_of WrongLength; out = zeroed out }
    ]

-- n in four bytes, and level; a refused question has n 0 and is not level
unfoldable pub progress_bytes : List ℕ → List ℕ → Output
progress_bytes area out = let p = mirror_progress area in output_in 5 out p.status (big 4 p.n ++ bit p.level ∷ [])

-- 1 where the row is there
unfoldable pub presence_bytes : List ℕ → ℕ → List ℕ → List ℕ → Output
presence_bytes area t id out = let p = mirror_has_row area t id in output_in 1 out p.status (bit p.there ∷ [])

-- the number that a question with an output of n bytes gets: the first of its refusals that applies
unfoldable pub asked_number : ℕ → List ℕ → List ℕ → ℕ
asked_number n area out = given (ask_conditions (eqb (length out) n) area) 0
