-- The numbers of a mirror's answers, from the equations of its calls. Assumes nothing.
use mathlib.Core.Path.{◌≡◌, sym, ap, ◌∙◌}
use mathlib.Core.List.{List}
use Prim.Native.Nat.{ℕ}
use Rattle.model.specs.Refusals.{number_of}
use Rattle.model.specs.Calls.{Started, mirror_start, Arrived, mirror_hear, Progress, mirror_progress, Presence, mirror_has_row, Contents, mirror_column}
use Rattle.model.specs.FirstRefusal.{mirror_start_number, hear_number, ask_number, column_number}
use Rattle.model.proofs.Demand1.{mirror_start_first, hear_first}
use Rattle.model.proofs.Accepting.{progress_first, has_row_first, column_first}

pub start_numbered : (area schema : List ℕ) (run : ℕ) {x : Started} → mirror_start area schema run ≡ x → (number_of x.status ≡ mirror_start_number area schema) × (mirror_start area schema run ≡ x)
start_numbered area schema run e = (ap (λ (s : Started). number_of s.status) (sym e) ∙ mirror_start_first area schema run, e)

pub hear_numbered : (area bytes : List ℕ) {x : Arrived} → mirror_hear area bytes ≡ x → (number_of x.status ≡ hear_number area bytes) × (mirror_hear area bytes ≡ x)
hear_numbered area bytes e = (ap (λ (s : Arrived). number_of s.status) (sym e) ∙ hear_first area bytes, e)

pub progress_numbered : (area : List ℕ) {x : Progress} → mirror_progress area ≡ x → (number_of x.status ≡ ask_number area) × (mirror_progress area ≡ x)
progress_numbered area e = (ap (λ (s : Progress). number_of s.status) (sym e) ∙ progress_first area, e)

pub row_numbered : (area : List ℕ) (t : ℕ) (id : List ℕ) {x : Presence} → mirror_has_row area t id ≡ x → (number_of x.status ≡ ask_number area) × (mirror_has_row area t id ≡ x)
row_numbered area t id e = (ap (λ (s : Presence). number_of s.status) (sym e) ∙ has_row_first area t id, e)

pub column_numbered : (area : List ℕ) (t : ℕ) (id : List ℕ) (c : ℕ) (out : List ℕ) {x : Contents} → mirror_column area t id c out ≡ x → (number_of x.status ≡ column_number area out) × (mirror_column area t id c out ≡ x)
column_numbered area t id c out e = (ap (λ (s : Contents). number_of s.status) (sym e) ∙ column_first area t id c out, e)
