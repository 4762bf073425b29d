-- The parts of a record: the bytes of an id are its number's, four atoms are one after another. Assumes nothing.
use mathlib.Core.Path.{◌≡◌, refl, sym, subst}
use mathlib.Core.List.{List, [], ◌∷◌, ◌++◌, append_assoc, append-nil}
use Prim.Native.Nat.{ℕ, ◌≤◌, ◌<◌}
use native.Mathlib.Omega.{arith}
use lib.ListN.{length, get_or, set, drop}
use Rattle.model.specs.Octets.{big, value}
use Rattle.model.specs.Base.{flat}
use Rattle.model.specs.Records.{Record}
use Rattle.model.proofs.Octets.{octets, big_value}
use Rattle.record.specs.Writing.{Wrote}

pub first : (l : List ℕ) (b : ℕ) → 1 ≤ length l → set l 0 b ≡ b ∷ drop 1 l
first [] b h = absurd (omega arith)
first (x ∷ l) b h = refl

-- an id's 16 bytes are those of its number
pub id_bytes_lem : (id : List ℕ) → length id ≡ 16 → ((i : ℕ) → get_or id i 0 < 256) → id ≡ big 16 (value id)
id_bytes_lem id n h = sym (big_value 16 id n (octets id h))

-- four atoms one after another
pub flat_four : (l : List (List ℕ)) → length l ≡ 4 → ((get_or l 0 [] ++ get_or l 1 []) ++ get_or l 2 []) ++ get_or l 3 [] ≡ flat l
flat_four [] h = absurd (omega arith)
flat_four (a ∷ []) h = absurd (omega arith)
flat_four (a ∷ b ∷ []) h = absurd (omega arith)
flat_four (a ∷ b ∷ c ∷ []) h = absurd (omega arith)
flat_four (a ∷ b ∷ c ∷ d ∷ []) h = simp (append_assoc, append-nil)
flat_four (a ∷ b ∷ c ∷ d ∷ e ∷ l) h = absurd (omega arith)

-- what was written is a record by any of its names
pub wrote_as : {r q : Record} {len : ℕ} {before after : List ℕ} → r ≡ q → Wrote r len before after → Wrote q len before after
wrote_as {len} {before} {after} e w = subst (λ (x : Record). Wrote x len before after) e w
