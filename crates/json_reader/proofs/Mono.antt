-- What reads where so many levels may be opened reads the same where more may be. Assumes nothing.
use Rattle.std.specs.Prelude.{Ok, Err}
use Rattle.model.specs.declared.ReadError.TheVariants.{Deep}
use Rattle.std.specs.declared.ops.ControlFlow.TheVariants.{Continue, Break}
use Rattle.model.specs.Scan.{Read, Next}
use mathlib.Core.Path.{◌≡◌, refl, sym, ap, ◌∙◌}
use mathlib.Core.List.{List, [], ◌∷◌}
use mathlib.Core.Bool.{Bool, true, false}
use Prim.Native.Nat.{ℕ, zero, suc, ◌+◌}
use native.Mathlib.Omega.{arith}
use lib.ListN.{length}
use lib.Dec.{eqb}
use Rattle.model.specs.declared.Open.{Open}
use Rattle.model.specs.declared.Open.TheVariants.{Array, Object, Scalar}
use Rattle.model.specs.Scan.{byte, Parsed, and_then, run, spaces_at}
use Rattle.model.specs.Json.{Json, key_at, after_item, item_turn, list_at, array_at, member_at, object_at, opens, dispatch, value_at, no_value}

-- q reads whatever p reads, and the same
abbrev pub Below : {A : Type 0} → (ℕ → Parsed A) → (ℕ → Parsed A) → Type 0
Below p q = (i e : ℕ) → (p i).read ≡ Ok e → q i ≡ p i

module _ (s : List ℕ) where
  -- an item whose reading failed is the last, and fails
  module _ {A : Type 0} (p q : ℕ → Parsed A) (close : ℕ) (below : Below p q) where
    abbrev P : ℕ → ℕ → Parsed (List A)
    P = run (item_turn p s close)

    abbrev Q : ℕ → ℕ → Parsed (List A)
    Q = run (item_turn q s close)

    run_more : (n i e : ℕ) → (P n i).read ≡ Ok e → Q n i ≡ P n i
    unfolding run after_item
    run_more zero i e h = let z : ◌≡◌ {A = ℕ} 0 1 = cc in absurd (omega arith)
    run_more (suc n) i e h = go (p i).read refl (run_more n)
      where
        turn : (t : Next) → after_item s close (p i).read ≡ t → q i ≡ p i → ((j d : ℕ) → (P n j).read ≡ Ok d → Q n j ≡ P n j) → Q (suc n) i ≡ P (suc n) i
        turn (Continue j) t w ih =
            let k : (P n j).read ≡ Ok e = sym (rw (run, t)) ∙ h in
            rw (run, w, t, ih j e k) (ap (λ x. record { read = (P n j).read; tree = x.tree ∷ (P n j).tree }) w)
        turn (Break r) t w ih = rw (run, w, t) (ap (λ x. record { read = r; tree = x.tree ∷ [] }) w)

        go : (r : Read) → (p i).read ≡ r → ((j d : ℕ) → (P n j).read ≡ Ok d → Q n j ≡ P n j) → Q (suc n) i ≡ P (suc n) i
        go (Ok x) r ih = turn (after_item s close (p i).read) refl (below i x r) ih
        go (Err x) r ih = let k : Err x ≡ Ok e = sym (rw (run, after_item, r)) ∙ h in let z : ◌≡◌ {A = ℕ} 0 1 = cc in absurd (omega arith)

    pub list_more : Below (list_at p s close) (list_at q s close)
    unfolding list_at
    list_more i e h = go (eqb (byte s i) close) refl
      where
        go : (b : Bool) → eqb (byte s i) close ≡ b → list_at q s close i ≡ list_at p s close i
        go true t = rw (list_at, t)
        go false t = rw (list_at, t) (run_more (length s) i e (sym (rw (list_at, t)) ∙ h))

  pub member_more : (p q : ℕ → Parsed Json) → Below p q → Below (member_at p s) (member_at q s)
  unfolding member_at and_then
  member_more p q below i e h = go (key_at s i).read refl
    where
      go : (r : Read) → (key_at s i).read ≡ r → member_at q s i ≡ member_at p s i
      go (Ok x) r = rw (member_at, r, below x e (sym (rw (member_at, r)) ∙ h))
      go (Err x) r = rw (member_at, r)

  pub array_more : (p q : ℕ → Parsed Json) → Below p q → Below (array_at p s) (array_at q s)
  array_more p q below i e h = rw (list_more p q 93 below (spaces_at s i) e h)

  pub object_more : (p q : ℕ → Parsed Json) → Below p q → Below (object_at p s) (object_at q s)
  object_more p q below i e h = rw (list_more (member_at p s) (member_at q s) 125 (member_more p q below) (spaces_at s i) e h)

  dispatch_more : (a o a2 o2 : ℕ → Parsed Json) → Below a a2 → Below o o2 → Below (dispatch s a o) (dispatch s a2 o2)
  unfolding dispatch
  dispatch_more a o a2 o2 f g i e h = go (opens (byte s i)) refl
    where
      go : (k : Open) → opens (byte s i) ≡ k → dispatch s a2 o2 i ≡ dispatch s a o i
      go Array k = rw (dispatch, k) (f i e (sym (rw (dispatch, k)) ∙ h))
      go Object k = rw (dispatch, k) (g i e (sym (rw (dispatch, k)) ∙ h))
      go Scalar k = rw (dispatch, k)

  deep : (q : ℕ → Parsed Json) → Below (λ i. no_value (Err (Deep i))) q
  deep q i e h = let z : ◌≡◌ {A = ℕ} 0 1 = cc in absurd (omega arith)

  -- the theorem: one level more, and so any number
  pub level_more : (l : ℕ) → Below (value_at l s) (value_at (suc l) s)
  unfolding value_at
  level_more zero at = dispatch_more (λ i. no_value (Err (Deep i))) (λ i. no_value (Err (Deep i))) (λ i. array_at (value_at zero s) s (i + 1)) (λ i. object_at (value_at zero s) s (i + 1)) (deep _) (deep _) (spaces_at s at)
  level_more (suc l) at =
      dispatch_more (λ i. array_at (value_at l s) s (i + 1)) (λ i. object_at (value_at l s) s (i + 1)) (λ i. array_at (value_at (suc l) s) s (i + 1)) (λ i. object_at (value_at (suc l) s) s (i + 1))
      (λ i. array_more (value_at l s) (value_at (suc l) s) (level_more l) (i + 1)) (λ i. object_more (value_at l s) (value_at (suc l) s) (level_more l) (i + 1)) (spaces_at s at)

  pub levels_more : (d l m : ℕ) → m ≡ d + l → Below (value_at l s) (value_at m s)
  levels_more zero l m g i e h = let z : m ≡ l = omega arith in rw z
  levels_more (suc d) l m g i e h =
      let z : m ≡ suc (d + l) = omega arith in
      let w = levels_more d l (d + l) refl i e h in
      rw z (level_more (d + l) i e (ap (λ x. x.read) w ∙ h) ∙ w)
