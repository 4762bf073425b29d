-- Laws of `value_at`. Assumes nothing.
use Rattle.std.specs.Prelude.{Ok, Err}
use Rattle.model.specs.declared.ReadError.TheVariants.{Stop, Deep}
use mathlib.Core.Path.{◌≡◌, refl, ap}
use mathlib.Core.List.{List}
use Prim.Native.Nat.{ℕ, zero, suc, ◌+◌, ◌-◌}
use native.Mathlib.Omega.{arith}
use native.Mathlib.Numerals.{sub-one}
use lib.Dec.{ltb}
use borrow.Author.Tests.{ltb-false}
use Rattle.model.specs.declared.Open.TheVariants.{Scalar}
use Rattle.model.specs.Scan.{Parsed, byte, spaces_at, within_at, and_then}
use Rattle.model.specs.Strings.{string_at}
use Rattle.model.specs.Json.{Json, no_value, scalar_by, opens, dispatch, value_at, array_at, object_at}
use Rattle.model.proofs.Tests.{split}

-- what reads a value that opens a level, where so many more may be opened
module _ (inner : (ℕ → Parsed Json) → List ℕ → ℕ → Parsed Json) where
  unfoldable pub nested : ℕ → List ℕ → ℕ → Parsed Json
  nested zero s = λ at. no_value (Err (Deep at))
  nested (suc l) s = λ at. inner (value_at l s) s (at + 1)

  pub nested_is : (l : ℕ) (s : List ℕ) (at : ℕ) → (l ≡ 0 → ⊥) → nested l s at ≡ inner (value_at (l - 1) s) s (at + 1)
  unfolding nested
  nested_is zero s at h = absurd (h refl)
  nested_is (suc l) s at h = rw sub-one

pub value_is : (l : ℕ) (s : List ℕ) (at : ℕ) → value_at l s at ≡ dispatch s (nested array_at l s) (nested object_at l s) (spaces_at s at)
unfolding value_at nested
value_is zero s at = refl
value_is (suc l) s at = refl

-- a string begins with a quote, and is the value there
pub string_quote : (s : List ℕ) (i e : ℕ) → (string_at s i).read ≡ Ok e → byte s i ≡ 34
unfolding string_at within_at and_then
string_quote s i e h =
    split (ltb (byte s i) 34)
    (λ t. absurd (let k : Err (Stop i) ≡ Ok e = rw (string_at, within_at, t) at h in let z : ◌≡◌ {A = ℕ} 0 1 = cc in omega arith))
    (λ t. split (ltb 34 (byte s i))
    (λ u. absurd (let k : Err (Stop i) ≡ Ok e = rw (string_at, within_at, t, u) at h in let z : ◌≡◌ {A = ℕ} 0 1 = cc in omega arith))
    (λ u. omega (arith, ltb-false (byte s i) 34 t, ltb-false 34 (byte s i) u)))

pub string_value : (l : ℕ) (s : List ℕ) (at : ℕ) → byte s (spaces_at s at) ≡ 34 → (value_at l s at).read ≡ (string_at s (spaces_at s at)).read
unfolding dispatch opens scalar_by
string_value l s at h = let o : opens (byte s (spaces_at s at)) ≡ Scalar = ap opens h in rw (value_is l s at, dispatch, o, h)
