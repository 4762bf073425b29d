-- Counting along a list. Assumes nothing.
use mathlib.Core.Path.{◌≡◌, refl}
use mathlib.Core.Bool.{Bool}
use mathlib.Core.List.{List, [], ◌∷◌, map}
use Prim.Native.Nat.{ℕ}
use native.Mathlib.Omega.{arith}
use lib.ListN.{length, get_or, take, drop}
use lib.Seq.{take_all}
use Rattle.std.proofs.lemmas.List.Recursion.{is_sum_by}
use Rattle.model.specs.Octets.{value}
use Rattle.std.specs.Prelude.{if◌then◌else◌, count_by}
use Rattle.model.specs.Rows.{key_of}
use Rattle.inner.proofs.Working.{key_bytes}
use Rattle.lookups.specs.Found.{count_true}

-- a key of 17 bytes
pub key_is : (k : List ℕ) → length k ≡ 17 → key_of (get_or k 0 0) (value (take 16 (drop 1 k))) ≡ value k
key_is [] e = absurd (omega arith)
key_is (t ∷ i) e = rw (take_all 16 i (omega arith)) (key_bytes t i (omega arith))

-- counting along a list, as the library counts
pub count_is : (test : ℕ → Bool) (l : List (List ℕ)) → count_true test (map value l) ≡ count_by (λ (k : List ℕ). test (value k)) l
count_is test = is_sum_by (λ (l : List (List ℕ)). count_true test (map value l)) (λ (k : List ℕ). if test (value k) then 1 else 0) refl (λ k l. refl)
