-- What a `let Read::End(e) = r else { .. }` leaves in its `else`. Assumes nothing.
use Rattle.std.specs.Prelude.{Ok, Err}
use Rattle.model.specs.declared.ReadError.TheVariants.{Stop, Deep}
use Rattle.model.specs.Scan.{Read}
use mathlib.Core.Path.{◌≡◌, refl}
use Prim.Native.Nat.{ℕ}
use Rattle.model.specs.Scan.{Parsed, and_then, then_read}

-- what holds of a `Stop` and of a `Deep` holds of what is no `End`
pub no_end : (P : Read → Type 0) → ((e : ℕ) → P (Err (Stop e))) → ((e : ℕ) → P (Err (Deep e))) → (r : Read) →
    ((x : ℕ) → r ≡ Ok x → ⊥) → P r
no_end P f g (Ok e) h = absurd (h e refl)
no_end P f g (Err (Stop e)) h = f e
no_end P f g (Err (Deep e)) h = g e

pub then_not : {A : Type 0} (d : A) (f : ℕ → Parsed A) (r : Read) → ((x : ℕ) → r ≡ Ok x → ⊥) → r ≡ (and_then d f r).read
unfolding and_then
then_not d f = no_end (λ r. r ≡ (and_then d f r).read) (λ e. refl) (λ e. refl)

pub read_not : (f : ℕ → Read) (r : Read) → ((x : ℕ) → r ≡ Ok x → ⊥) → r ≡ then_read f r
unfolding then_read
read_not f = no_end (λ r. r ≡ then_read f r) (λ e. refl) (λ e. refl)

pub read_not_twice : (f g : ℕ → Read) (r : Read) → ((x : ℕ) → r ≡ Ok x → ⊥) → r ≡ then_read f (then_read g r)
unfolding then_read
read_not_twice f g = no_end (λ r. r ≡ then_read f (then_read g r)) (λ e. refl) (λ e. refl)
