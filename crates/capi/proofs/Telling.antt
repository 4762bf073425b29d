-- What the exported questions return and leave, by what the mirror's calls promise. Assumes nothing.
use mathlib.Core.Path.{◌≡◌, refl, sym, ◌∙◌, ap}
use mathlib.Core.Bool.{not}
use mathlib.Core.List.{List, [], ◌∷◌, ◌++◌}
use Prim.Native.Nat.{ℕ, min}
use native.Mathlib.Omega.{arith}
use borrow.Author.Tests.{eq-eqb, ne_eqb}
use lib.Dec.{eqb}
use lib.ListN.{length, drop, set}
use Rattle.model.specs.Octets.{big}
use Rattle.model.specs.Refusals.{number_of}
use Rattle.model.specs.Base.{is_some}
use Rattle.model.specs.Areas.{mirror_of}
use Rattle.model.specs.Limits.{mirror_bytes}
use Rattle.model.specs.Catalog.{bit}
use Rattle.model.specs.Calls.{zeroed, Progress, mirror_progress, Presence, mirror_has_row}
use Rattle.model.specs.declared.Status.{Status}
use Rattle.model.specs.FirstRefusal.{ask_number}
use Rattle.model.proofs.Tests.{split}
use Rattle.model.proofs.Accepting.{progress_first, has_row_first, short_first}
use Rattle.capi.specs.Exports.{Output, output_in, progress_bytes, presence_bytes, asked_number}
use Rattle.capi.proofs.Beyond.{row_small}

output_other : (n : ℕ) (out z : List ℕ) (a : Status) (bytes : List ℕ) → (length out ≡ n → ⊥) → z ≡ zeroed out → output_in n out a bytes ≡ record { status = 2; out = z }
unfolding output_in
output_other n out z a bytes h e = rw (ne_eqb (length out) n h, output_in) (ap (λ (l : List ℕ). record { status = 2; out = l }) (sym e))

output_is : (n : ℕ) (out z : List ℕ) (a : Status) (bytes : List ℕ) (r : ℕ) → length out ≡ n → r ≡ number_of a → z ≡ bytes → output_in n out a bytes ≡ record { status = r; out = z }
unfolding output_in
output_is n out z a bytes r h e f = rw (eq-eqb (length out) n h, output_in) (λ j. record { status = sym e j; out = sym f j })

-- the number is the first of the refusals that apply
output_number : (n : ℕ) (area out : List ℕ) (a : Status) (bytes : List ℕ) → number_of a ≡ ask_number area → (output_in n out a bytes).status ≡ asked_number n area out
unfolding output_in asked_number ask_number
output_number n area out a bytes h = split (eqb (length out) n) (λ e. rw (output_in, e) h) (λ e. rw (output_in, e) (sym (short_first (eqb (length area) mirror_bytes) (not (is_some (mirror_of area))))))

pub progress_numbered : (area out : List ℕ) {x : Output} → progress_bytes area out ≡ x → (x.status ≡ asked_number 5 area out) × (progress_bytes area out ≡ x)
unfolding progress_bytes
progress_numbered area out e = (ap (λ (t : Output). t.status) (sym e) ∙ output_number 5 area out (mirror_progress area).status _ (progress_first area), e)

pub presence_numbered : (area : List ℕ) (t : ℕ) (id out : List ℕ) {x : Output} → presence_bytes area t id out ≡ x → (x.status ≡ asked_number 1 area out) × (presence_bytes area t id out ≡ x)
unfolding presence_bytes
presence_numbered area t id out e = (ap (λ (y : Output). y.status) (sym e) ∙ output_number 1 area out (mirror_has_row area t id).status _ (has_row_first area t id), e)

-- the last of five bytes, and the one of one
pub last_byte : (out : List ℕ) (x : ℕ) → length out ≡ 5 → drop 4 (set out 4 x) ≡ x ∷ []
last_byte [] x h = absurd (omega arith)
last_byte (a ∷ []) x h = absurd (omega arith)
last_byte (a ∷ b ∷ []) x h = absurd (omega arith)
last_byte (a ∷ b ∷ c ∷ []) x h = absurd (omega arith)
last_byte (a ∷ b ∷ c ∷ d ∷ []) x h = absurd (omega arith)
last_byte (a ∷ b ∷ c ∷ d ∷ e ∷ []) x h = refl
last_byte (a ∷ b ∷ c ∷ d ∷ e ∷ f ∷ l) x h = absurd (omega arith)

pub only_byte : (out : List ℕ) (x : ℕ) → length out ≡ 1 → set out 0 x ≡ x ∷ []
only_byte [] x h = absurd (omega arith)
only_byte (a ∷ []) x h = refl
only_byte (a ∷ b ∷ l) x h = absurd (omega arith)

module _ (area out z : List ℕ) where
  pub progress_other : (length out ≡ 5 → ⊥) → z ≡ zeroed out → progress_bytes area out ≡ record { status = 2; out = z }
  unfolding progress_bytes
  progress_other h e = output_other 5 out z (mirror_progress area).status (big 4 (mirror_progress area).n ++ bit (mirror_progress area).level ∷ []) h e

  pub progress_output : (p : Progress) (r : ℕ) → mirror_progress area ≡ p → length out ≡ 5 → r ≡ number_of p.status → z ≡ big 4 p.n ++ bit p.level ∷ [] → progress_bytes area out ≡ record { status = r; out = z }
  unfolding progress_bytes
  progress_output p r h l e f =
      ap (λ (q : Progress). output_in 5 out q.status (big 4 q.n ++ bit q.level ∷ [])) h ∙ output_is 5 out z p.status (big 4 p.n ++ bit p.level ∷ []) r l e f

  module _ (t : ℕ) (id : List ℕ) where
    pub presence_other : (length out ≡ 1 → ⊥) → z ≡ zeroed out → presence_bytes area t id out ≡ record { status = 2; out = z }
    unfolding presence_bytes
    presence_other h e = output_other 1 out z (mirror_has_row area t id).status (bit (mirror_has_row area t id).there ∷ []) h e

    -- by a table that is 255 where it is above
    pub presence_output : (u : ℕ) (p : Presence) (r : ℕ) → u ≡ min t 255 → mirror_has_row area u id ≡ p → length out ≡ 1 → r ≡ number_of p.status → z ≡ bit p.there ∷ [] → presence_bytes area t id out ≡ record { status = r; out = z }
    unfolding presence_bytes
    presence_output u p r s h l e f =
        let q : mirror_has_row area t id ≡ p = row_small area t id ∙ ap (λ (x : ℕ). mirror_has_row area x id) (sym s) ∙ h in
        ap (λ (x : Presence). output_in 1 out x.status (bit x.there ∷ [])) q ∙ output_is 1 out z p.status (bit p.there ∷ []) r l e f
