-- Laws of `run`: what one turn of a loop does. Assumes nothing.
use Rattle.std.specs.Prelude.{Err}
use Rattle.model.specs.declared.ReadError.TheVariants.{Stop}
use Rattle.std.specs.declared.ops.ControlFlow.TheVariants.{Continue, Break}
use Rattle.model.specs.Scan.{Read, Next}
use mathlib.Core.Path.{◌≡◌, refl}
use mathlib.Core.List.{List, [], ◌∷◌, ◌++◌}
use Prim.Native.Nat.{ℕ, suc, ◌+◌, ◌-◌, ◌<◌, ◌≤◌}
use native.Mathlib.Omega.{arith}
use Rattle.model.specs.Scan.{Turn, run}

module _ {A : Type 0} (f : ℕ → Turn A) (n k i : ℕ) where
  left : k < n → n - k ≡ suc (n - (k + 1))
  left h = omega arith

  pub turn : {e : ℕ} → k < n → (f i).next ≡ Continue e → (run f (n - k) i).read ≡ (run f (n - (k + 1)) e).read
  unfolding run
  turn h e = rw (left h, run, e)

  pub done : {r : Read} → k < n → (f i).next ≡ Break r → (run f (n - k) i).read ≡ r
  unfolding run
  done h e = rw (left h, run, e)

  pub spent : n ≤ k → (run f (n - k) i).read ≡ Err (Stop i)
  unfolding run
  spent h = let z : n - k ≡ 0 = omega arith in rw z

-- what the turns add
module _ {A : Type 0} (f : ℕ → Turn A) (n k i : ℕ) where
  pub turn_tree : {e : ℕ} → k < n → (f i).next ≡ Continue e → (run f (n - k) i).tree ≡ (f i).adds ++ (run f (n - (k + 1)) e).tree
  unfolding run
  turn_tree h e = rw (left f n k i h, run, e)

  pub done_tree : {r : Read} → k < n → (f i).next ≡ Break r → (run f (n - k) i).tree ≡ (f i).adds
  unfolding run
  done_tree h e = rw (left f n k i h, run, e)

  pub spent_tree : n ≤ k → (run f (n - k) i).tree ≡ []
  unfolding run
  spent_tree h = let z : n - k ≡ 0 = omega arith in rw z

-- the first thing that a run adds, where each turn adds one first
module _ (f : ℕ → Turn ℕ) (x : ℕ → List ℕ) (adds : (i : ℕ) → (f i).adds ≡ i ∷ x i) (i : ℕ) where
  pub run_head : (n : ℕ) → (rest : List ℕ) × ((run f (suc n) i).tree ≡ i ∷ rest)
  unfolding run
  run_head n = go (f i).next refl
    where
      go : (q : Next) → (f i).next ≡ q → (rest : List ℕ) × ((run f (suc n) i).tree ≡ i ∷ rest)
      go (Continue e) h = (x i ++ (run f n e).tree, rw (run, h, adds i))
      go (Break r) h = (x i, rw (run, h, adds i))
