-- An atom that was written, or none. Assumes nothing.
use Rattle.std.specs.Prelude.{Option, Some, None}
use mathlib.Core.Path.{◌≡◌, refl, sym, ap, subst}
use mathlib.Core.Bool.{Bool, true, false}
use mathlib.Core.List.{List}
use Prim.Native.Nat.{ℕ}
use Rattle.model.specs.Base.{is_some}
use Rattle.model.proofs.Tests.{clash}
use Rattle.uuids.specs.Named.{atom_or, Answered}

pub atom_there : {o : Option (List ℕ)} {before after : List ℕ} → o ≡ Some after → Answered o before true after
unfolding atom_or
atom_there {before = before} e = record { found = sym (ap is_some e); out = sym (ap (atom_or before) e) }

pub atom_none : {o : Option (List ℕ)} {before : List ℕ} → o ≡ None → Answered o before false before
unfolding atom_or
atom_none {before = before} e = record { found = sym (ap is_some e); out = sym (ap (atom_or before) e) }

-- of the same atom
pub atom_as_lem : {o p : Option (List ℕ)} {before after : List ℕ} {r : Bool} → o ≡ p → Answered p before r after → Answered o before r after
atom_as_lem {before = before} {after} {r} e a = subst (λ x. Answered x before r after) (sym e) a

pub answered_some : (o : Option (List ℕ)) {before after : List ℕ} → Answered o before true after → o ≡ Some after
unfolding atom_or
answered_some None a = absurd (clash false (sym a.found) refl)
answered_some (Some x) a = sym (ap Some a.out)

pub answered_none : (o : Option (List ℕ)) {before after : List ℕ} → Answered o before false after → o ≡ None
answered_none None a = refl
answered_none (Some x) a = absurd (clash true refl (sym a.found))
