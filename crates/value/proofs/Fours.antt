-- Atoms in four places, of which the first are in use: one more in its place, sorted, some left out. Assumes nothing.
use mathlib.Core.Path.{◌≡◌, refl, sym, ap, ◌∙◌}
use mathlib.Core.Bool.{Bool, true, false, not}
use mathlib.Core.List.{List, [], ◌∷◌, ◌++◌, append_assoc, append-nil}
use Prim.Native.Nat.{ℕ, zero, suc, ◌+◌, ◌-◌, ◌≤◌, ◌<◌}
use native.Mathlib.Nat.{sub-zero}
use native.Mathlib.Numerals.{add-one}
use native.Mathlib.Omega.{arith}
use lib.ListN.{length, take, drop, set, get_or, replicate, take-append-drop, length-drop, length-append}
use lib.Seq.{take-suc, drop-cons, set_at, length-take-le, take-take, get_or-take, take-append_seam, drop-append_seam, drop-append-le}
use Rattle.std.specs.Prelude.{if◌then◌else◌}
use Rattle.std.proofs.lemmas.List.{drop-replicate}
use Rattle.model.specs.Base.{keep, member}
use Rattle.model.specs.Schema.{Base}
use Rattle.model.specs.Value.{blank, placed, sorted, value_of, without}
use Rattle.model.proofs.Tests.{split}
use Rattle.model.proofs.Sets.{placed_length, sorted_length}
use Rattle.value.specs.Places.{place_in}
use Rattle.value.proofs.Order.{place_le, placed_at}

-- a list and what fills the four places
abbrev pub padded : List (List ℕ) → List (List ℕ)
padded l = (value_of l).atoms

module _ {A : Type 0} (b : A) where
  cut_same : (n j : ℕ) → n ≤ j → take n (replicate j b) ≡ replicate n b
  cut_same zero zero h = refl
  cut_same zero (suc j) h = refl
  cut_same (suc n) zero h = absurd (omega arith)
  cut_same (suc n) (suc j) h = ap (λ (r : List A). b ∷ r) (cut_same n j (omega arith))

  pub cut_pad : (n j : ℕ) (p : List A) → length p ≤ n → n ≤ length p + j → take n (p ++ replicate j b) ≡ p ++ replicate (n - length p) b
  cut_pad n j [] h g = rw (sub-zero n) (cut_same n j (omega arith))
  cut_pad zero j (a ∷ p) h g = absurd (omega arith)
  cut_pad (suc n) j (a ∷ p) h g =
      let e : suc n - suc (length p) ≡ n - length p = omega arith in
      rw e (ap (λ (r : List A). a ∷ r) (cut_pad n j p (omega arith) (omega arith)))

-- from p on, of the first n and then of the others
rejoin : {A : Type 0} (a : List A) (p n : ℕ) → p ≤ n → n ≤ length a → drop p (take n a) ++ drop n a ≡ drop p a
rejoin a p n h l = sym (drop-append-le p (take n a) (drop n a) (omega (arith, length-take-le n a l))) ∙ ap (drop p) (take-append-drop n a)

-- x put at its place among the first n
pub put_placed : (k : Base) (x : List ℕ) (a : List (List ℕ)) (n p : ℕ) → length a ≡ 4 → n ≤ 4 → p ≡ place_in k x (take n a)
    → (p ≤ 4) × (take 4 (take p a ++ (x ∷ drop p a)) ≡ take 4 (placed k x (take n a) ++ drop n a))
put_placed k x a n p size few e =
    let m : length (take n a) ≡ n = length-take-le n a (omega arith) in
    let h : p ≤ n = omega (arith, place_le k x (take n a)) in (
      omega arith,
      ap (take 4) (sym (
          ap (λ (r : List (List ℕ)). r ++ drop n a) (placed_at k x (take n a) ∙ ap (λ (j : ℕ). take j (take n a) ++ (x ∷ drop j (take n a))) (sym e))
          ∙ append_assoc (take p (take n a)) (x ∷ drop p (take n a)) (drop n a)
          ∙ ap (λ (r : List (List ℕ)). r ++ (x ∷ (drop p (take n a) ++ drop n a))) (take-take p n a h)
          ∙ ap (λ (r : List (List ℕ)). take p a ++ (x ∷ r)) (rejoin a p n h (omega arith)))),
    )

-- one more than the padded list has
pub put_padded : (k : Base) (x : List ℕ) (l s : List (List ℕ)) (m : ℕ) → s ≡ padded l → m ≡ length l → length l < 4
    → take 4 (placed k x (take m s) ++ drop m s) ≡ padded (placed k x l)
put_padded k x l s m e n h =
    let r : List (List ℕ) = replicate (4 - length l) blank in
    ap (λ (j : ℕ). take 4 (placed k x (take j s) ++ drop j s)) n
    ∙ ap (λ (q : List (List ℕ)). take 4 (placed k x (take (length l) q) ++ drop (length l) q)) e
    ∙ ap (λ (q : List (List ℕ)). take 4 (placed k x q ++ drop (length l) (l ++ r))) (take-append_seam l r)
    ∙ ap (λ (q : List (List ℕ)). take 4 (placed k x l ++ q)) (drop-append_seam l r)
    ∙ cut_pad blank 4 (4 - length l) (placed k x l) (omega (arith, placed_length k x l)) (omega (arith, placed_length k x l))

module _ (k : Base) (a : List (List ℕ)) (n : ℕ) (size : length a ≡ 4) (few : n ≤ 4) where
  long : length (take n a) ≡ n
  long = length-take-le n a (omega arith)

  -- one more of them sorted
  pub sort_on : (i j : ℕ) (s t : List (List ℕ)) → 0 < i → i ≤ n → j + i ≡ n → s ≡ padded (sorted k (drop i (take n a)))
      → t ≡ take 4 (placed k (get_or a (i - 1) []) (take j s) ++ drop j s) → t ≡ padded (sorted k (drop (i - 1) (take n a)))
  sort_on i j s t p h z e f =
      let l : List (List ℕ) = drop i (take n a) in
      let q : suc (i - 1) ≡ i = omega arith in
      let m : length l ≡ j = omega (arith, long, length-drop i (take n a)) in
      let g : drop (i - 1) (take n a) ≡ get_or a (i - 1) [] ∷ l =
      drop-cons (take n a) (i - 1) [] (omega (arith, long)) ∙ ap (λ (j : ℕ). get_or (take n a) (i - 1) [] ∷ drop j (take n a)) q
      ∙ ap (λ (y : List ℕ). y ∷ l) (get_or-take n a (i - 1) [] (omega arith)) in
      f ∙ put_padded k (get_or a (i - 1) []) (sorted k l) s j e (omega (arith, sorted_length k l)) (omega (arith, sorted_length k l))
      ∙ ap (λ (j : List (List ℕ)). padded (sorted k j)) (sym g)

-- ── some left out ──
keep_snoc : (q : List ℕ → Bool) (l : List (List ℕ)) (a : List ℕ) → keep q (l ++ (a ∷ [])) ≡ keep q l ++ (if q a then a ∷ [] else [])
keep_snoc q [] a = refl
keep_snoc q (b ∷ l) a = split (q b) (λ e. rw e (ap (λ (r : List (List ℕ)). b ∷ r) (keep_snoc q l a))) (λ e. rw e (keep_snoc q l a))

module _ (gone l : List (List ℕ)) (i : ℕ) (h : i < length l) where
  one_more : without gone (take (i + 1) l) ≡ without gone (take i l) ++ (if not (member (get_or l i []) gone) then get_or l i [] ∷ [] else [])
  one_more =
      ap (λ (n : ℕ). without gone (take n l)) (add-one i) ∙ ap (without gone) (take-suc l i [] h)
      ∙ keep_snoc (λ (a : List ℕ). not (member a gone)) (take i l) (get_or l i [])

  pub left_out : member (get_or l i []) gone ≡ true → without gone (take (i + 1) l) ≡ without gone (take i l)
  left_out e = one_more ∙ rw e (append-nil (without gone (take i l)))

  pub left_in : member (get_or l i []) gone ≡ false → without gone (take (i + 1) l) ≡ without gone (take i l) ++ (get_or l i [] ∷ [])
  left_in e = one_more ∙ rw e

-- an element at the end of a padded list
pub set_padded : (l s : List (List ℕ)) (m : ℕ) (x : List ℕ) → s ≡ padded l → m ≡ length l → length l < 4 → set s m x ≡ padded (l ++ (x ∷ []))
set_padded l s m x e n h =
    let j : ℕ = 3 - length l in
    let d : 4 - length l ≡ suc j = omega arith in
    let f : 4 - length (l ++ (x ∷ [])) ≡ j = omega (arith, length-append l (x ∷ [])) in
    ap (λ (q : List (List ℕ)). set q m x) (e ∙ ap (λ (i : ℕ). l ++ replicate i blank) d)
    ∙ set_at l blank (replicate j blank) x m (sym n)
    ∙ sym (append_assoc l (x ∷ []) (replicate j blank))
    ∙ ap (λ (i : ℕ). (l ++ (x ∷ [])) ++ replicate i blank) (sym f)

-- the first n of four atoms over zeros
pub first_padded : (a f : List (List ℕ)) (n : ℕ) → length a ≡ 4 → n ≤ 4 → f ≡ take n a → f ++ drop n (replicate 4 blank) ≡ padded (take n a)
first_padded a f n size h e = rw (e, length-take-le n a (omega arith)) (ap (λ (r : List (List ℕ)). take n a ++ r) (drop-replicate n 4 blank))
