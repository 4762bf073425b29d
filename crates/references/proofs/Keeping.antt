-- The elements of a list that pass a test, put one after another into the front of another list. Assumes nothing.
use mathlib.Core.Path.{◌≡◌, refl, sym, ap, ◌∙◌}
use mathlib.Core.Bool.{Bool, true, false}
use mathlib.Core.List.{List, [], ◌∷◌, ◌++◌}
use Prim.Native.Nat.{ℕ, suc, ◌+◌, ◌≤◌, ◌<◌}
use native.Mathlib.Numerals.{add-one}
use native.Mathlib.Omega.{arith}
use lib.ListN.{length, get_or, take, drop, set, length-append, length-drop}
use lib.Seq.{take-suc, drop-cons, append_snoc, set_at, length-take-le}
use Rattle.model.specs.Base.{keep}
use Rattle.model.proofs.Lists.{length_keep}
use Rattle.model.proofs.Tests.{split}

module _ {A : Type 0} (q : A → Bool) where
  keep_append : (l m : List A) → keep q (l ++ m) ≡ keep q l ++ keep q m
  keep_append [] m = refl
  keep_append (a ∷ l) m = split (q a) (λ e. rw e (ap (λ (r : List A). a ∷ r) (keep_append l m))) (λ e. rw e (keep_append l m))

  module _ (l : List A) (d : A) (k : ℕ) (h : k < length l) where
    keep_more : keep q (take (k + 1) l) ≡ keep q (take k l) ++ keep q (get_or l k d ∷ [])
    keep_more = ap (λ (n : ℕ). keep q (take n l)) (add-one k) ∙ ap (keep q) (take-suc l k d h) ∙ keep_append (take k l) (get_or l k d ∷ [])

  -- the first k have been looked at, and so many of them kept
  pub record Sofar (l before now : List A) (k kept : ℕ) : Type 0 where
    pub size : kept ≡ length (keep q (take k l))
    pub cells : now ≡ keep q (take k l) ++ drop kept before

  module _ (l before : List A) (d : A) (k kept : ℕ) where
    pub sofar_none : Sofar l before before 0 0
    sofar_none = record { size = refl; cells = refl }

    module _ (now : List A) (w : Sofar l before now k kept) where
      pub sofar_few : k ≤ length l → kept ≤ k
      sofar_few h = omega (arith, w.size, length_keep q (take k l), length-take-le k l h)

      pub sofar_length : kept ≤ length before → length now ≡ length before
      sofar_length h = ap length w.cells ∙ length-append (keep q (take k l)) (drop kept before) ∙ omega (arith, w.size, length-drop kept before)

      pub sofar_no : k < length l → q (get_or l k d) ≡ false → Sofar l before now (k + 1) kept
      sofar_no h e =
          let s : keep q (take (k + 1) l) ≡ keep q (take k l) ++ [] = keep_more l d k h ∙ rw e in
          record { size = w.size ∙ omega (arith, ap length s, length-append (keep q (take k l)) []); cells = w.cells ∙ rw (s, nil (keep q (take k l))) }
        where
          nil : (l : List A) → l ++ [] ≡ l
          nil [] = refl
          nil (a ∷ l) = ap (λ (r : List A). a ∷ r) (nil l)

      pub sofar_yes : k < length l → kept < length before → q (get_or l k d) ≡ true → Sofar l before (set now kept (get_or l k d)) (k + 1) (kept + 1)
      sofar_yes h g e =
          let s : keep q (take (k + 1) l) ≡ keep q (take k l) ++ get_or l k d ∷ [] = keep_more l d k h ∙ rw e in
          record {
            size = omega (arith, w.size, ap length s, length-append (keep q (take k l)) (get_or l k d ∷ []));
            cells = ap (λ (r : List A). set r kept (get_or l k d)) (w.cells ∙ ap (λ (r : List A). keep q (take k l) ++ r) (drop-cons before kept d g))
                ∙ set_at (keep q (take k l)) (get_or before kept d) (drop (suc kept) before) (get_or l k d) kept (sym w.size)
                ∙ sym (append_snoc (keep q (take k l)) (get_or l k d) (drop (suc kept) before))
                ∙ rw (s, add-one kept);
          }

pub keep_alike : {A : Type 0} (p q : A → Bool) → ((a : A) → p a ≡ q a) → (l : List A) → keep p l ≡ keep q l
keep_alike p q h [] = refl
keep_alike {A} p q h (a ∷ l) = rw (h a) (split (q a) (λ e. rw e (ap (λ (r : List A). a ∷ r) (keep_alike p q h l))) (λ e. rw e (keep_alike p q h l)))
