-- Tests over the first n elements of a list, one after another, with a way out at the first that decides. Assumes nothing.
use Rattle.std.specs.Prelude.{Some}
use mathlib.Core.Path.{◌≡◌, refl, sym, ap, ◌∙◌}
use mathlib.Core.Bool.{Bool, true, false, ◌&&◌, ◌||◌}
use mathlib.Core.List.{List, [], ◌∷◌, map}
use Rattle.std.specs.List.{list_any, list_all}
use Prim.Native.Nat.{ℕ, zero, suc, ◌+◌, ◌≤◌, ◌<◌, min}
use native.Mathlib.Numerals.{add-one}
use native.Mathlib.Omega.{arith}
use lib.Dec.{eqb}
use lib.ListN.{length, get_or, take, drop, drop_of_length-le}
use lib.Seq.{drop-cons, get_or-take, length-take-le}
use borrow.Author.Tests.{eq-eqb, eqb-true}
use Rattle.model.specs.Base.{any, all}
use Rattle.model.specs.Value.{uuid_of}
use Rattle.model.specs.Commit.{keys_of}
use Rattle.model.proofs.Tests.{split, eqb_flip}
use Rattle.model.proofs.Within.{any_map, all_map}
use Rattle.model.specs.Schema.{Schema}
use Rattle.model.specs.Rows.{Row, key_of}
use Rattle.model.specs.Areas.{row_from}
use Rattle.inner.specs.Working.{working}
use Rattle.inner.proofs.Working.{working_on, working_end}

module _ {A : Type 0} (d : A) (l : List A) (n i : ℕ) (h : n ≤ length l) where
  pub first_on : i < n → drop i (take n l) ≡ get_or l i d ∷ drop (i + 1) (take n l)
  first_on g = drop-cons (take n l) i d (omega (arith, length-take-le n l h)) ∙ rw (get_or-take n l i d g, add-one i)

  pub first_end : n ≤ i → drop i (take n l) ≡ []
  first_end g = drop_of_length-le (take n l) {i = i} (omega (arith, length-take-le n l h))

  module _ (q : A → Bool) where
    pub all_here : i < n → q (get_or l i d) ≡ false → all q (drop i (take n l)) ≡ false
    all_here g e = rw (first_on g, e)

    pub all_on : i < n → q (get_or l i d) ≡ true → all q (drop i (take n l)) ≡ all q (drop (i + 1) (take n l))
    all_on g e = rw (first_on g, e)

    pub all_end : n ≤ i → all q (drop i (take n l)) ≡ true
    all_end g = rw (first_end g)

-- ── what iterators say, in the model's words ──
module _ {A : Type 0} (q : A → Bool) where
  pub any_list : (l : List A) → list_any q l ≡ any q l
  any_list [] = refl
  any_list (a ∷ l) = ap (λ (b : Bool). q a || b) (any_list l)

  pub all_list : (l : List A) → list_all q l ≡ all q l
  all_list [] = refl
  all_list (a ∷ l) = ap (λ (b : Bool). q a && b) (all_list l)

-- of rows in cells, of the rows that these stand for
pub all_rows : (s : Schema) (q : Row → Bool) (l : List (List (List ℕ))) → list_all (λ (r : List (List ℕ)). q (row_from s r)) l ≡ all q (map (row_from s) l)
all_rows s q l = all_list (λ (r : List (List ℕ)). q (row_from s r)) l ∙ sym (all_map (row_from s) q (λ (r : List (List ℕ)). q (row_from s r)) (λ r. refl) l)

-- ── working rows, one after another ──
module _ (s : Schema) (cells : List (List (List ℕ))) (n : ℕ) (h : n ≤ length cells) (i : ℕ) (q : Row → Bool) where
  pub any_row_here : i < n → q (row_from s (get_or cells i [])) ≡ true → any q (drop i (working s n cells)) ≡ true
  any_row_here g e = rw (working_on s cells n h i g, e)

  pub any_row_on : i < n → q (row_from s (get_or cells i [])) ≡ false → any q (drop i (working s n cells)) ≡ any q (drop (i + 1) (working s n cells))
  any_row_on g e = rw (working_on s cells n h i g, e)

  pub any_row_end : n ≤ i → any q (drop i (working s n cells)) ≡ false
  any_row_end g = rw (working_end s cells n h i g)

-- as many elements as there are
pub take_min : {A : Type 0} (n m : ℕ) (l : List A) → length l ≡ m → take n l ≡ take (min n m) l
take_min {A} n m l e = go n l m e
  where
    go : (n : ℕ) (l : List A) (m : ℕ) → length l ≡ m → take n l ≡ take (min n m) l
    go zero [] m e = let z : min 0 m ≡ 0 = omega arith in rw z
    go zero (a ∷ l) m e = let z : min 0 m ≡ 0 = omega arith in rw z
    go (suc n) [] zero e = let z : min (suc n) 0 ≡ 0 = omega arith in rw z
    go (suc n) [] (suc m) e = absurd (omega arith)
    go (suc n) (a ∷ l) zero e = absurd (omega arith)
    go (suc n) (a ∷ l) (suc m) e = let z : min (suc n) (suc m) ≡ suc (min n m) = omega arith in rw z (ap (λ (r : List A). a ∷ r) (go n l m (omega arith)))

-- ── the keys that atoms are ──
eqb_sym : (m n : ℕ) → eqb m n ≡ eqb n m
eqb_sym m n = split (eqb m n) (λ e. e ∙ sym (eq-eqb n m (sym (eqb-true m n e)))) (λ e. e ∙ sym (eqb_flip m n e))

pub any_keys : (t k : ℕ) (l : List (List ℕ)) → any (eqb k) (keys_of (Some t) l) ≡ any (λ (a : List ℕ). eqb (key_of t (uuid_of a)) k) l
any_keys t k l = any_map (λ (a : List ℕ). key_of t (uuid_of a)) (eqb k) (λ (a : List ℕ). eqb (key_of t (uuid_of a)) k) (λ a. eqb_sym k (key_of t (uuid_of a))) l

pub all_keys : (t : ℕ) (q : ℕ → Bool) (l : List (List ℕ)) → all q (keys_of (Some t) l) ≡ all (λ (a : List ℕ). q (key_of t (uuid_of a))) l
all_keys t q l = all_map (λ (a : List ℕ). key_of t (uuid_of a)) q (λ (a : List ℕ). q (key_of t (uuid_of a))) (λ a. refl) l
