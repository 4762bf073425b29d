-- A record is sound exactly when the schema lists what it names and its value is canonical. Assumes nothing.
use Rattle.std.specs.Prelude.{Some}
use mathlib.Core.Path.{◌≡◌, refl, ap, ◌∙◌}
use mathlib.Core.Bool.{Bool, true, false, ◌&&◌}
use mathlib.Core.List.{List, [], ◌∷◌}
use Prim.Native.Nat.{ℕ, zero, suc, ◌<◌}
use native.Mathlib.Omega.{arith}
use borrow.Author.Tests.{lt-ltb}
use lib.Dec.{ltb}
use lib.ListN.{length, get_or, length-map}
use Rattle.model.specs.Base.{nth}
use Rattle.model.specs.Schema.{Column, Schema, columns_of}
use Rattle.model.specs.Value.{Value, canonical_for}
use Rattle.model.specs.Records.{Change, born, gone, column, end, known, allows, sound}
use Rattle.model.proofs.Tests.{clash}
use Rattle.record.specs.Reading.{column_counts, known_in, listed_in, canonical_in}

-- the schema's counts, by table
known_same : (s : Schema) (t i : ℕ) → known s t i ≡ known_in (length (column_counts s)) t i
unfolding known_in
known_same s t i = simp length-map

count_at : (s : Schema) (t : ℕ) → get_or (column_counts s) t 0 ≡ length (columns_of s t)
count_at [] t = refl
count_at (x ∷ s) zero = refl
count_at (x ∷ s) (suc t) = count_at s t

-- a column that is there is judged by its type; one that is not is never sound
pub allows_at : (cs : List Column) (c : ℕ) (v : Value) (x : Column) → nth cs c ≡ Some x → allows cs c v ≡ canonical_for x v
allows_at [] c v x h = let z : ◌≡◌ {A = ℕ} 0 1 = cc in absurd (omega arith)
allows_at (y ∷ cs) zero v x h = let e : y ≡ x = cc in ap (λ (z : Column). canonical_for z v) e
allows_at (y ∷ cs) (suc c) v x h = allows_at cs c v x h

allows_there : (cs : List Column) (c : ℕ) (v : Value) → allows cs c v ≡ true → c < length cs
allows_there [] c v h = absurd (clash false h refl)
allows_there (x ∷ cs) zero v h = omega arith
allows_there (x ∷ cs) (suc c) v h = omega (arith, allows_there cs c v h)

and_more : (a b c : Bool) → (c ≡ true → b ≡ true) → (a && c) ≡ ((a && b) && c)
and_more false b c h = refl
and_more true true c h = refl
and_more true false true h = absurd (clash false (h refl) refl)
and_more true false false h = refl

and_true : (b : Bool) → b ≡ (b && true)
and_true true = refl
and_true false = refl

pub sound_listed : (s : Schema) (e : Change) → sound s e ≡ (listed_in (column_counts s) e && canonical_in s e)
unfolding listed_in canonical_in
sound_listed s (born t i) = known_same s t i ∙ and_true (known_in (length (column_counts s)) t i)
sound_listed s (gone t i) = known_same s t i ∙ and_true (known_in (length (column_counts s)) t i)
sound_listed s (column t i c v) =
    ap (λ (b : Bool). b && allows (columns_of s t) c v) (known_same s t i)
    ∙ and_more (known_in (length (column_counts s)) t i) (ltb c (get_or (column_counts s) t 0)) (allows (columns_of s t) c v) (λ h. ap (ltb c) (count_at s t) ∙ lt-ltb c (length (columns_of s t)) (allows_there (columns_of s t) c v h))
sound_listed s end = refl
