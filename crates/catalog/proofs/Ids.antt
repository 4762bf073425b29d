-- Ids, byte by byte, and tests over the elements of a list one after another. Assumes nothing.
use mathlib.Core.Path.{◌≡◌, refl, ap}
use mathlib.Core.List.{List, [], ◌∷◌}
use mathlib.Core.Bool.{Bool, true, false, ◌&&◌}
use Prim.Native.Nat.{ℕ, suc, ◌<◌, ◌≤◌}
use native.Mathlib.Omega.{arith}
use borrow.Author.Tests.{le-leb, lt-leb}
use lib.ListN.{length, get_or, drop}
use Rattle.std.specs.List.{list_all}
use Rattle.model.specs.Base.{all}
use Rattle.model.specs.SchemaText.{is_letter, is_id_byte, is_id}

and_none : (b : Bool) → (b && false) ≡ false
and_none true = refl
and_none false = refl

and_all : (b : Bool) → (b && true) ≡ b
and_all true = refl
and_all false = refl

-- an id's first byte
pub id_none : (t : List ℕ) → length t ≡ 0 → is_id t ≡ false
unfolding is_id
id_none [] h = refl
id_none (b ∷ bs) h = absurd (omega arith)

pub id_long : (t : List ℕ) → 24 < length t → is_id t ≡ false
unfolding is_id
id_long [] h = absurd (omega arith)
id_long (b ∷ bs) h = rw (lt-leb (suc (length bs)) 24 h) (and_none (is_letter b && all is_id_byte bs))

pub id_other : (t : List ℕ) → is_letter (get_or t 0 0) ≡ false → 0 < length t → is_id t ≡ false
unfolding is_id
id_other [] e h = absurd (omega arith)
id_other (b ∷ bs) e h = rw e

pub id_rest : (t : List ℕ) → is_letter (get_or t 0 0) ≡ true → 0 < length t → length t ≤ 24 → is_id t ≡ all is_id_byte (drop 1 t)
unfolding is_id
id_rest [] e h l = absurd (omega arith)
id_rest (b ∷ bs) e h l = rw (e, le-leb (suc (length bs)) 24 l) (and_all (all is_id_byte bs))

-- std's word for the same test of a list
pub all_is : {A : Type 0} (p : A → Bool) (l : List A) → list_all p l ≡ all p l
all_is p [] = refl
all_is p (a ∷ l) = ap (λ b. p a && b) (all_is p l)
