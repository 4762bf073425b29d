-- Equal bytes one after another; rows moved by one place. Assumes nothing.
use mathlib.Core.Path.{◌≡◌, refl, sym, ap, ◌∙◌}
use mathlib.Core.Bool.{Bool, true, false, not, ◌&&◌}
use mathlib.Core.List.{List, [], ◌∷◌, ◌++◌, map, map-append, append_assoc, append-nil}
use Prim.Native.Nat.{ℕ, suc, ◌+◌, ◌-◌, ◌*◌, ◌^◌, ◌≤◌, ◌<◌}
use native.Mathlib.Numerals.{add-one}
use native.Mathlib.Omega.{arith}
use borrow.Author.Tests.{eq-eqb, ne_eqb, lt-ltb}
use lib.Dec.{eqb, ltb}
use lib.ListN.{length, take, drop, get_or, set, replicate, drop_of_length-le, length-append, length-drop, length-map}
use lib.Seq.{drop-cons, take-suc, take_at, set_at, length-take-le, take-take, take_all, drop_at, paste}
use Rattle.model.specs.Octets.{value, eq_bytes}
use Rattle.model.specs.Base.{all, eq_lists}
use Rattle.model.specs.Value.{Value, same_value}
use Rattle.std.specs.List.{copy_within}
use Rattle.std.proofs.lemmas.Slice.{between_is}
use Rattle.inner.specs.Working.{with_value, inserted, removed}
use Rattle.model.proofs.Octets.{octet, value_lt}
use Rattle.inner.proofs.Working.{eqb_value}

and_assoc : (a b c : Bool) → (a && (b && c)) ≡ ((a && b) && c)
and_assoc true b c = refl
and_assoc false b c = refl

pub and_true : (a : Bool) → (a && true) ≡ a
and_true true = refl
and_true false = refl

module _ (x y : List ℕ) (i : ℕ) (ok : Bool) where
  pub same_on : i < length x → i < length y → (ok && eq_bytes (drop i x) (drop i y)) ≡ ((ok && eqb (get_or x i 0) (get_or y i 0)) && eq_bytes (drop (i + 1) x) (drop (i + 1) y))
  same_on h g = rw (drop-cons x i 0 h, drop-cons y i 0 g, add-one i) (and_assoc ok (eqb (get_or x i 0) (get_or y i 0)) (eq_bytes (drop (suc i) x) (drop (suc i) y)))

  pub same_end : length x ≤ i → length y ≤ i → (ok && eq_bytes (drop i x) (drop i y)) ≡ ok
  same_end h g = rw (drop_of_length-le x {i = i} h, drop_of_length-le y {i = i} g) (and_true ok)

-- ── rows from a place on moved up by one ──
module _ {A : Type 0} (l : List A) (d : A) where
  -- those from k on have moved
  abbrev pub moved : ℕ → ℕ → List A
  moved n k = take (k + 1) l ++ (drop k (take n l) ++ drop (n + 1) l)

  pub moved_within : (n k : ℕ) → k ≤ n → copy_within l k n (k + 1) ≡ moved n k
  moved_within n k p =
      let e : k + 1 + (n - k) ≡ n + 1 = omega arith in
      rw (← between_is l k n, e) (append_assoc (take (k + 1) l) (take (n - k) (drop k l)) (drop (n + 1) l))

  -- the element at a place, between those before it and those that have moved
  moved_at : (n k : ℕ) → k ≤ n → n < length l → moved n k ≡ take k l ++ get_or l k d ∷ (drop k (take n l) ++ drop (n + 1) l)
  moved_at n k p h = rw (add-one k, take-suc l k d (omega arith)) (append_assoc (take k l) (get_or l k d ∷ []) (drop k (take n l) ++ drop (n + 1) l))

  moved_set : (n k : ℕ) (a : A) → k ≤ n → n < length l → set (moved n k) k a ≡ take k l ++ a ∷ (drop k (take n l) ++ drop (n + 1) l)
  moved_set n k a p h = ap (λ (q : List A). set q k a) (moved_at n k p h) ∙ set_at (take k l) (get_or l k d) (drop k (take n l) ++ drop (n + 1) l) a k (length-take-le k l (omega arith))

  pub moved_end : (n i : ℕ) (a : A) → i ≤ n → n < length l → take (n + 1) (set (moved n i) i a) ≡ inserted i a (take n l)
  moved_end n i a p h =
      ap (take (n + 1)) (moved_set n i a p h ∙ ap (λ (q : List A). q ++ a ∷ (drop i (take n l) ++ drop (n + 1) l)) (sym (take-take i n l p)) ∙ sym (append_assoc (take i (take n l)) (a ∷ drop i (take n l)) (drop (n + 1) l)))
      ∙ take_at (inserted i a (take n l)) (drop (n + 1) l) (n + 1) size
    where
      size : length (inserted i a (take n l)) ≡ n + 1
      size =
          let e = length-take-le n l (omega arith) in
          simp length-append (omega (arith, length-take-le i (take n l) (omega arith), length-drop i (take n l)))

-- ── rows after a place moved down by one ──
module _ {A : Type 0} (l : List A) (i : ℕ) where
  -- those up to k have moved
  abbrev front : ℕ → List A
  front k = take i l ++ take (k - i) (drop (i + 1) l)

  abbrev pub closed : ℕ → List A
  closed k = front k ++ drop k l

  pub closed_within : (n k : ℕ) → i ≤ k → k + 1 ≡ n → copy_within l (i + 1) n i ≡ closed k
  closed_within n k p e =
      let f : n - (i + 1) ≡ k - i = omega arith in
      let g : i + (k - i) ≡ k = omega arith in
      rw (f, g)

  front_size : (k : ℕ) → i ≤ k → k < length l → length (front k) ≡ k
  front_size k p h = simp length-append (omega (arith, length-take-le i l (omega arith), length-take-le (k - i) (drop (i + 1) l) (omega (arith, length-drop (i + 1) l)), length-drop (i + 1) l))

  pub closed_end : (n k : ℕ) → i ≤ k → k + 1 ≡ n → n ≤ length l → take (n - 1) (closed k) ≡ removed i (take n l)
  closed_end n k p e h =
      let f : n - 1 ≡ k = omega arith in
      let g : n - suc i ≡ k - i = omega arith in
      rw (f, take_at (front k) (drop k l) k (front_size k p (omega arith)), take-take i n l (omega arith), ← between_is l (suc i) n, g, add-one i)

-- ── cells ──
pub four_elements : (l : List (List ℕ)) → length l ≡ 4 → get_or l 0 [] ∷ get_or l 1 [] ∷ get_or l 2 [] ∷ get_or l 3 [] ∷ [] ≡ l
four_elements [] e = absurd (omega arith)
four_elements (a ∷ []) e = absurd (omega arith)
four_elements (a ∷ b ∷ []) e = absurd (omega arith)
four_elements (a ∷ b ∷ c ∷ []) e = absurd (omega arith)
four_elements (a ∷ b ∷ c ∷ d ∷ []) e = refl
four_elements (a ∷ b ∷ c ∷ d ∷ x ∷ l) e = absurd (omega arith)

-- the count stored, and four atoms copied
pub with_value_lem : (cells atoms : List (List ℕ)) (c count : ℕ) → length cells ≡ 25 → length atoms ≡ 4
    → paste (set cells 0 (set (get_or cells 0 []) (17 + c) count)) (1 + 4 * c) atoms 4 ≡ with_value c (record { count = count; atoms = atoms }) cells
unfolding with_value
with_value_lem [] atoms c count h e = absurd (omega arith)
with_value_lem (x ∷ cells) atoms c count h e =
    let f : 1 + 4 * c ≡ suc (4 * c) = omega arith in
    let g : suc (4 * c) + 4 ≡ suc (4 * c + 4) = omega arith in
    rw (f, g, take_all 4 atoms (omega arith)) (ap (λ (l : List (List ℕ)). set x (17 + c) count ∷ l) (append_assoc (take (4 * c) cells) atoms (drop (4 * c + 4) cells)))

-- a list that is filled from its front with what a function makes of another
module _ (f : ℕ → ℕ) (out src : List ℕ) where
  abbrev pub made : ℕ → List ℕ
  made k = map f (take k src) ++ drop k out

  pub made_more : (k : ℕ) → k < length src → k < length out → set (made k) k (f (get_or src k 0)) ≡ made (k + 1)
  made_more k h g =
      ap (λ (q : List ℕ). set (map f (take k src) ++ q) k (f (get_or src k 0))) (drop-cons out k 0 g)
      ∙ set_at (map f (take k src)) (get_or out k 0) (drop (suc k) out) (f (get_or src k 0)) k (length-map (take k src) f ∙ length-take-le k src (omega arith))
      ∙ sym (append_assoc (map f (take k src)) (f (get_or src k 0) ∷ []) (drop (suc k) out))
      ∙ ap (λ (q : List ℕ). q ++ drop (suc k) out) (sym (ap (map f) (take-suc src k 0 h) ∙ map-append f (take k src) (get_or src k 0 ∷ [])))
      ∙ ap made (sym (add-one k))

  pub made_end : (k : ℕ) → length src ≡ k → length out ≡ k → made k ≡ map f src
  made_end k h g = rw (take_all k src (omega arith), drop_of_length-le out {i = k} (omega arith)) (append-nil (map f src))

-- ── values ──
module _ (v w : Value) where
  pub value_no : (v.count ≡ w.count → ⊥) → same_value v w ≡ false
  value_no h = rw (ne_eqb v.count w.count h)

  pub value_yes : v.count ≡ w.count → same_value v w ≡ eq_lists v.atoms w.atoms
  value_yes h = rw (eq-eqb v.count w.count h)

-- a table, an id and six counts put into 25 zeros
pub head_made : (t : ℕ) (id counts : List ℕ) → length id ≡ 16
    → t ∷ take 16 (id ++ replicate 8 0) ++ (counts ++ drop 6 (drop 17 (t ∷ id ++ replicate 8 0))) ≡ t ∷ id ++ (counts ++ 0 ∷ 0 ∷ [])
head_made t id counts e =
    let p : drop 6 (drop 16 (id ++ replicate 8 0)) ≡ 0 ∷ 0 ∷ [] = ap (drop 6) (drop_at id (replicate 8 0) 16 e) in
    λ j. t ∷ take_at id (replicate 8 0) 16 e j ++ (counts ++ p j)

-- an id that is not zero
pub some_id : (id : List ℕ) → length id ≡ 16 → all octet id ≡ true → not (eq_bytes id (replicate 16 0)) ≡ (not (eqb (value id) 0) && ltb (value id) (256 ^ 16))
some_id id e h =
    let k : ltb (value id) (256 ^ 16) ≡ true = ap (λ (n : ℕ). ltb (value id) (256 ^ n)) (sym e) ∙ lt-ltb (value id) (256 ^ length id) (value_lt id h) in
    ap not (sym (eqb_value id (replicate 16 0) e h refl)) ∙ sym (ap (λ (b : Bool). not (eqb (value id) 0) && b) k ∙ and_true (not (eqb (value id) 0)))
