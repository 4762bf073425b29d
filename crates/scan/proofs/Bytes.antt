-- Laws of `byte`, the byte at a position or 256 past the end, and of `passing`. Assumes nothing.
use mathlib.Core.Path.{◌≡◌, refl, sym, ap, ◌∙◌}
use mathlib.Core.List.{List, [], ◌∷◌}
use mathlib.Core.Bool.{Bool, true, false}
use Prim.Native.Nat.{ℕ, zero, suc, ◌+◌, ◌-◌, ◌<◌}
use native.Mathlib.Nat.{le_of_suc-le-suc, not-suc-le-zero}
use native.Mathlib.Decide.{dec_lt}
use native.Mathlib.Omega.{arith}
use lib.ListN.{length, get_or, get_or-eq_default}
use Rattle.model.specs.declared.Open.{Open}
use Rattle.model.specs.declared.Open.TheVariants.{Scalar}
use Rattle.model.specs.Scan.{byte, passing}
use Rattle.model.specs.Json.{opens}

-- an index below the length reads the same whatever the default
pub get_d_any : (s : List ℕ) (i d e : ℕ) → i < length s → get_or s i d ≡ get_or s i e
get_d_any [] i d e h = absurd (not-suc-le-zero h)
get_d_any (x ∷ s) zero d e h = refl
get_d_any (x ∷ s) (suc i) d e h = get_d_any s i d e (le_of_suc-le-suc h)

-- where a byte stands, the text goes on
pub inside : (s : List ℕ) (i : ℕ) → (byte s i ≡ 256 → ⊥) → i < length s
inside s i ne = go (dec_lt i (length s))
  where
    go : Dec (i < length s) → i < length s
    go (yes p) = p
    go (no np) = absurd (ne (get_or-eq_default s 256 (omega (arith, np))))

pub inside_byte : (s : List ℕ) (i b : ℕ) → byte s i ≡ b → b < 256 → i < length s
inside_byte s i b e h = inside s i (λ x. omega (arith, x, e))

-- where a bracket opens, the text goes on
pub inside_open : (s : List ℕ) (i : ℕ) {k : Open} → opens (byte s i) ≡ k → (k ≡ Scalar → ⊥) → i < length s
unfolding opens
inside_open s i e ne = inside s i (λ h. ne (sym e ∙ ap opens h))

-- where a test that 256 fails holds, the text goes on
pub inside_test : (f : ℕ → Bool) → f 256 ≡ false → (s : List ℕ) (i : ℕ) → f (byte s i) ≡ true → i < length s
inside_test f no_end s i e = inside s i (λ h. let z : false ≡ true = sym no_end ∙ sym (ap f h) ∙ e in let y : ◌≡◌ {A = ℕ} 0 1 = cc in omega arith)

-- a turn of a loop over the bytes that pass a test, and its end
module _ (f : ℕ → Bool) (s : List ℕ) where
  pub pass_turn : (n k i : ℕ) → k < n → f (byte s i) ≡ true → passing f s (n - k) i ≡ passing f s (n - (k + 1)) (i + 1)
  unfolding passing
  pass_turn n k i h e = let left : n - k ≡ suc (n - (k + 1)) = omega arith in rw (left, passing, e)

  pub pass_stops : (n i : ℕ) → f (byte s i) ≡ false → passing f s n i ≡ i
  unfolding passing
  pass_stops zero i e = refl
  pass_stops (suc n) i e = rw (passing, e)
