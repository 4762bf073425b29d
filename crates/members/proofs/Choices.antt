-- Words told apart. Assumes nothing.
use mathlib.Core.Path.{◌≡◌, refl, sym, ap, ◌∙◌}
use mathlib.Core.List.{List, [], ◌∷◌}
use mathlib.Core.Bool.{Bool, true, false, not}
use Prim.Native.Nat.{ℕ, zero, suc, ◌+◌, ◌-◌, ◌<◌, ◌≤◌}
use native.Mathlib.Numerals.{add-one}
use native.Mathlib.Omega.{arith}
use borrow.Author.Tests.{ne_eqb, not-true, le-leb, lt-leb}
use lib.Dec.{eqb, leb}
use lib.ListN.{length, get_or, take, drop, length-drop, drop_of_length-le}
use lib.Seq.{drop-cons, drop-drop}
use Rattle.model.specs.Octets.{eq_bytes}
use Rattle.model.specs.Base.{member, distinct}
use Rattle.model.specs.Json.{Json, str}
use Rattle.model.specs.Text.{is_word}
use Rattle.model.proofs.Tests.{split, clash, and_l, and_r, bytes_same, bytes_self}
use Rattle.members.specs.Fields.{words_from, choice_from}

-- a word that is in a list is among it
among : (ws : List (List ℕ)) (i : ℕ) → i < length ws → member (get_or ws i []) ws ≡ true
among [] i h = absurd (omega arith)
among (w ∷ ws) zero h = rw (bytes_self w)
among (w ∷ ws) (suc i) h = split (eq_bytes (get_or ws i []) w) (λ e. rw e) (λ e. rw e (among ws i (omega arith)))

module _ (j : Json) (t : List ℕ) (is : j ≡ str t) where
  word_is : (w : List ℕ) → is_word w j ≡ eq_bytes t w
  unfolding is_word
  word_is w = rw is

  -- the first of different words that a value is, is the only one
  pub choice_at : (ws : List (List ℕ)) (k i : ℕ) → distinct ws ≡ true → i < length ws → eq_bytes t (get_or ws i []) ≡ true → choice_from k j ws ≡ k + i
  unfolding choice_from
  choice_at [] k i d h e = absurd (omega arith)
  choice_at (w ∷ ws) k zero d h e = rw (choice_from, word_is w, e) (omega arith)
  choice_at (w ∷ ws) k (suc i) d h e =
      let b : i < length ws = omega arith in
      let q : t ≡ get_or ws i [] = bytes_same t (get_or ws i []) e in
      let n : eq_bytes t w ≡ false =
      split
      (eq_bytes t w)
      (λ f.
      let r : t ≡ w = bytes_same t w f in
      let m : member w ws ≡ true = rw (sym r ∙ q) (among ws i b) in
      absurd (clash (member w ws) m (not-true (member w ws) (and_l (not (member w ws)) (distinct ws) d))))
      (λ f. f) in
      rw (choice_from, word_is w, n) (choice_at ws (suc k) i (and_r (not (member w ws)) (distinct ws) d) b e ∙ omega arith)

  choice_ge : (ws : List (List ℕ)) (k : ℕ) → k + length ws ≤ 9 → k ≤ choice_from k j ws
  unfolding choice_from
  choice_ge [] k l = omega arith
  choice_ge (w ∷ ws) k l =
      split
      (is_word w j)
      (λ e. rw (choice_from, e) (omega arith))
      (λ e. rw (choice_from, e) (let g : suc k ≤ choice_from (suc k) j ws = choice_ge ws (suc k) (omega arith) in omega arith))

  -- a word that it is not is not its number
  pub choice_not : (ws : List (List ℕ)) (k i : ℕ) → k + length ws ≤ 9 → i < length ws → eq_bytes t (get_or ws i []) ≡ false → choice_from k j ws ≡ k + i → ⊥
  unfolding choice_from
  choice_not [] k i l h e c = omega arith
  choice_not (w ∷ ws) k zero l h e c =
      let g : suc k ≤ choice_from (suc k) j ws = choice_ge ws (suc k) (omega arith) in
      let r : choice_from (suc k) j ws ≡ k + 0 = rw (choice_from, word_is w, e) at c in
      omega arith
  choice_not (w ∷ ws) k (suc i) l h e c =
      split
      (is_word w j)
      (λ f. let r : k ≡ k + suc i = rw (choice_from, f) at c in omega arith)
      (λ f.
      let r : choice_from (suc k) j ws ≡ k + suc i = rw (choice_from, f) at c in
      choice_not ws (suc k) i (omega arith) (omega arith) e (omega arith))

  -- it is 9 exactly where the value is none of them
  pub choice_other : (ws : List (List ℕ)) (k : ℕ) → k + length ws ≤ 9 → member t ws ≡ not (eqb (choice_from k j ws) 9)
  unfolding choice_from
  choice_other [] k l = refl
  choice_other (w ∷ ws) k l =
      split
      (eq_bytes t w)
      (λ e. rw (choice_from, word_is w, e, ne_eqb k 9 (λ z. omega arith)))
      (λ e. rw (choice_from, word_is w, e) (choice_other ws (suc k) (omega arith)))

-- a value that is no word has no number
pub choice_none : (j : Json) → ((w : List ℕ) → is_word w j ≡ false) → (ws : List (List ℕ)) (k : ℕ) → choice_from k j ws ≡ 9
unfolding choice_from
choice_none j h [] k = refl
choice_none j h (w ∷ ws) k = rw (choice_from, h w) (choice_none j h ws (suc k))

none_left : (j : Json) (k n : ℕ) → choice_from k j (words_from n []) ≡ 9
unfolding choice_from words_from
none_left j k zero = refl
none_left j k (suc n) = refl

one_more : (n k : ℕ) (bs : List ℕ) → words_from (suc n) (k ∷ bs) ≡ elim (leb k (length bs)) [ true ↦ take k bs ∷ words_from n (drop k bs) | false ↦ [] ]
unfolding words_from
one_more n k bs = refl

-- the words from a position on: n of them at most
module _ (j : Json) (bs : List ℕ) (k n a : ℕ) where
  pub words_end : length bs ≤ a → choice_from k j (words_from n (drop a bs)) ≡ 9
  words_end h = rw (drop_of_length-le bs h) (none_left j k n)

  pub words_spent : n ≡ 0 → choice_from k j (words_from n (drop a bs)) ≡ 9
  unfolding choice_from words_from
  words_spent h = rw h

  module _ (h : a < length bs) (m : ℕ) (more : n ≡ suc m) where
    -- one more word
    abbrev size : ℕ
    size = get_or bs a 0

    abbrev next : List ℕ
    next = drop (a + 1) bs

    words_step : words_from n (drop a bs) ≡ elim (leb size (length next)) [ true ↦ take size next ∷ words_from m (drop size next) | false ↦ [] ]
    words_step =
        let q : drop a bs ≡ size ∷ next = drop-cons bs a 0 h ∙ ap (λ (i : ℕ). size ∷ drop i bs) (sym (add-one a)) in
        rw (q, more) (one_more m size next)

    pub words_short : length bs - (a + 1) < size → choice_from k j (words_from n (drop a bs)) ≡ 9
    unfolding choice_from
    words_short s = rw (words_step, lt-leb size (length next) (simp length-drop (omega arith)))

    module _ (fits : size ≤ length bs - (a + 1)) where
      long : leb size (length next) ≡ true
      long = le-leb size (length next) (simp length-drop (omega arith))

      -- the part of the words as it is lent
      part : {b : Bool} → is_word (take (a + 1 + size - (a + 1)) next) j ≡ b → is_word (take size next) j ≡ b
      part e = let q : a + 1 + size - (a + 1) ≡ size = omega arith in rw q at e

      pub words_here : is_word (take (a + 1 + size - (a + 1)) next) j ≡ true → choice_from k j (words_from n (drop a bs)) ≡ k
      unfolding choice_from
      words_here e = rw (words_step, long, choice_from, part e)

      pub words_next : is_word (take (a + 1 + size - (a + 1)) next) j ≡ false → choice_from k j (words_from n (drop a bs)) ≡ choice_from (k + 1) j (words_from m (drop (a + 1 + size) bs))
      unfolding choice_from
      words_next e = rw (words_step, long, choice_from, part e, drop-drop) (ap (λ (i : ℕ). choice_from i j (words_from m (drop (a + 1 + size) bs))) (sym (add-one k)))
