-- Collection by counts leaves what collection leaves, in whatever order rows go. Assumes nothing.
use mathlib.Core.Path.{◌≡◌, refl, sym, ◌∙◌, subst}
use mathlib.Core.Bool.{Bool, true, false, not, ◌&&◌}
use mathlib.Core.List.{List, [], ◌∷◌, map}
use mathlib.Core.Logic.{inl, inr, ⊎_elim}
use Prim.Native.Nat.{ℕ, zero, suc, ◌+◌, ◌<◌}
use native.Mathlib.Omega.{arith}
use borrow.Author.Tests.{eq-eqb, ne_eqb, eqb-true, not-true}
use lib.Dec.{eqb}
use lib.ListN.{length, get_or, set}
use Rattle.model.specs.Base.{any, count}
use Rattle.model.specs.Schema.{Schema, is_root}
use Rattle.model.specs.Rows.{Row, key, remove}
use Rattle.model.specs.Commit.{strong_of, loose, collect}
use Rattle.model.proofs.Order.{Above, Sorted}
use Rattle.model.proofs.Tests.{split, clash, and_l, and_r, or_l, or_r}
use Rattle.model.proofs.Within.{In, none_of}
use Rattle.model.proofs.Collected.{Goes, none_left, one_goes, holds, collect_is}
use Rattle.garbage.specs.Counts.{from, refs, left, nobody, free, Lowered, Tallies, all_held, goes}

-- ── counts ──
count_none : {A : Type 0} (t : A → Bool) (l : List A) → count t l ≡ 0 → any t l ≡ false
count_none t [] h = refl
count_none t (a ∷ l) h = split (t a) (λ e. absurd (let z : suc (count t l) ≡ 0 = rw e at h in omega arith)) (λ e. rw e (count_none t l (rw e at h)))

none_count : {A : Type 0} (t : A → Bool) (l : List A) → any t l ≡ false → count t l ≡ 0
none_count t [] h = refl
none_count t (a ∷ l) h = rw (or_l (t a) (any t l) h) (none_count t l (or_r (t a) (any t l) h))

above_in : (k : ℕ) (rows : List Row) (r : Row) → Above k rows → In r rows → k < key r
above_in k [] r a i = absurd i
above_in k (x ∷ rows) r a (inl e) = rw e a.0
above_in k (x ∷ rows) r a (inr i) = above_in k rows r a.1 i

-- a row's references to a key count 0 just where it does not hold the row under that key
module _ (s : Schema) (k : ℕ) where
  from_none : (q : Row) → from s k q ≡ 0 → holds s k q ≡ false
  unfolding from
  from_none q h = split (eqb (key q) k) (λ e. rw e) (λ e. rw e (count_none (eqb k) (strong_of s q) (rw (e, from) at h)))

  none_from : (q : Row) → holds s k q ≡ false → from s k q ≡ 0
  unfolding from
  none_from q h = split (eqb (key q) k) (λ e. rw (e, from)) (λ e. rw (e, from) (none_count (eqb k) (strong_of s q) (rw e at h)))

  refs_none : (part : List Row) → refs s k part ≡ 0 → any (holds s k) part ≡ false
  refs_none [] h = refl
  refs_none (q ∷ part) h = rw (from_none q (omega arith), refs_none part (omega arith))

  none_refs : (part : List Row) → any (holds s k) part ≡ false → refs s k part ≡ 0
  none_refs [] h = refl
  none_refs (q ∷ part) h = omega (arith, none_from q (or_l (holds s k q) (any (holds s k) part) h), none_refs part (or_r (holds s k q) (any (holds s k) part) h))

  refs_less : (part : List Row) (r : Row) → Sorted part → In r part → refs s k (remove (key r) part) + from s k r ≡ refs s k part
  refs_less [] r o i = absurd i
  refs_less (x ∷ part) r o (inl e) = rw (e, eq-eqb (key x) (key x) refl) (omega arith)
  refs_less (x ∷ part) r o (inr i) =
      let d : eqb (key r) (key x) ≡ false = ne_eqb (key r) (key x) (λ e. omega (arith, above_in (key x) part r o.0 i)) in
      rw d (omega (arith, refs_less part r o.1 i))

-- ── marks ──
left_in : (rows : List Row) (ms : List ℕ) (r : Row) → In r (left rows ms) → In r rows
left_in [] ms r i = i
left_in (x ∷ rows) [] r i = absurd i
left_in (x ∷ rows) (m ∷ ms) r i = split (eqb m 0) (λ e. inr (left_in rows ms r (rw (e, left) at i))) (λ e. ⊎_elim (λ p. inl p) (λ j. inr (left_in rows ms r j)) (rw (e, left) at i))

above_of : (k : ℕ) (rows : List Row) → ((r : Row) → In r rows → k < key r) → Above k rows
above_of k [] f = tt
above_of k (x ∷ rows) f = (f x (inl refl), above_of k rows (λ r i. f r (inr i)))

pub left_sorted : (rows : List Row) (ms : List ℕ) → Sorted rows → Sorted (left rows ms)
left_sorted [] ms o = tt
left_sorted (x ∷ rows) [] o = tt
left_sorted (x ∷ rows) (m ∷ ms) o = split (eqb m 0) (λ e. rw (e, left) (left_sorted rows ms o.1))
    (λ e. rw (e, left) (above_of (key x) (left rows ms) (λ r i. above_in (key x) rows r o.0 (left_in rows ms r i)), left_sorted rows ms o.1))

pub at_in : (rows : List Row) (i : ℕ) → i < length rows → In (get_or rows i nobody) rows
at_in [] i h = absurd (omega arith)
at_in (x ∷ rows) zero h = inl refl
at_in (x ∷ rows) (suc i) h = inr (at_in rows i (omega arith))

-- a row at a place that is marked is left
marked_in : (rows : List Row) (ms : List ℕ) (i : ℕ) → i < length rows → eqb (get_or ms i 0) 0 ≡ false → In (get_or rows i nobody) (left rows ms)
marked_in [] ms i h e = absurd (omega arith)
marked_in (x ∷ rows) [] i h e = absurd (clash (eqb 0 0) refl e)
marked_in (x ∷ rows) (m ∷ ms) zero h e = rw (e, left) (inl refl)
marked_in (x ∷ rows) (m ∷ ms) (suc i) h e = split (eqb m 0) (λ p. rw (p, left) (marked_in rows ms i (omega arith) e)) (λ p. rw (p, left) (inr (marked_in rows ms i (omega arith) e)))

-- a row that is left is at a place that is marked
pub in_marked : {P : Type 0} (rows : List Row) (ms : List ℕ) (r : Row) → In r (left rows ms) → ((i : ℕ) → i < length rows → eqb (get_or ms i 0) 0 ≡ false → r ≡ get_or rows i nobody → P) → P
in_marked [] ms r j f = absurd j
in_marked (x ∷ rows) [] r j f = absurd j
in_marked (x ∷ rows) (m ∷ ms) r j f = split (eqb m 0)
    (λ e. in_marked rows ms r (rw (e, left) at j) (λ i h. f (suc i) (omega arith)))
    (λ e. ⊎_elim (λ p. f 0 (omega arith) e p) (λ k. in_marked rows ms r k (λ i h. f (suc i) (omega arith))) (rw (e, left) at j))

mark_off : (rows : List Row) (ms : List ℕ) (i : ℕ) → Sorted rows → i < length rows → eqb (get_or ms i 0) 0 ≡ false → left rows (set ms i 0) ≡ remove (key (get_or rows i nobody)) (left rows ms)
mark_off [] ms i o h e = absurd (omega arith)
mark_off (x ∷ rows) [] i o h e = absurd (clash (eqb 0 0) refl e)
mark_off (x ∷ rows) (m ∷ ms) zero o h e = rw (e, left, eq-eqb (key x) (key x) refl)
mark_off (x ∷ rows) (m ∷ ms) (suc i) o h e =
    let d : eqb (key (get_or rows i nobody)) (key x) ≡ false = ne_eqb (key (get_or rows i nobody)) (key x) (λ p. omega (arith, above_in (key x) rows (get_or rows i nobody) o.0 (at_in rows i (omega arith)))) in
    split (eqb m 0) (λ p. rw (p, left) (mark_off rows ms i o.1 (omega arith) e)) (λ p. rw (p, left, d, mark_off rows ms i o.1 (omega arith) e))

-- the marks pick the cells as they pick the rows that the cells stand for
pub left_map : {A B : Type 0} (f : A → B) (l : List A) (ms : List ℕ) → left (map f l) ms ≡ map f (left l ms)
left_map f [] ms = refl
left_map f (a ∷ l) [] = refl
left_map f (a ∷ l) (m ∷ ms) = split (eqb m 0) (λ e. rw (e, left, left, left_map f l ms)) (λ e. rw (e, left, left, left_map f l ms))

-- ── the counts stay true ──
-- the counts say how many references these rows have to the row at each place
abbrev pub True : Schema → List Row → List Row → List ℕ → Type 0
True s rows part cs = (i : ℕ) → i < length rows → get_or cs i 0 ≡ refs s (key (get_or rows i nobody)) part

module _ (s : Schema) where
  true_lower : (part rows : List Row) (x : Row) (cs next : List ℕ) → Sorted part → In x part → True s rows part cs → Lowered s rows x cs next → True s rows (remove (key x) part) next
  true_lower part rows x cs next o i t f j l = f j l ∙ omega (arith, t j l, refs_less s (key (get_or rows j nobody)) part x o i)

  -- a row at a place may go just where it is there and loose
  module _ (part rows : List Row) (ms cs : List ℕ) (t : True s rows part cs) (i : ℕ) (l : i < length rows) where
    abbrev it : Row
    it = get_or rows i nobody

    abbrev its : ℕ
    its = get_or cs i 0

    free_marked : free s rows ms cs i ≡ true → eqb (get_or ms i 0) 0 ≡ false
    free_marked f = not-true (eqb (get_or ms i 0) 0) (and_l (not (eqb (get_or ms i 0) 0)) (eqb its 0 && not (is_root s it.table)) f)

    pub free_loose : free s rows ms cs i ≡ true → loose s part it ≡ true
    free_loose f =
        let g = and_r (not (eqb (get_or ms i 0) 0)) (eqb its 0 && not (is_root s it.table)) f in
        let z : refs s (key it) part ≡ 0 = sym (t i l) ∙ eqb-true its 0 (and_l (eqb its 0) (not (is_root s it.table)) g) in
        rw (and_r (eqb its 0) (not (is_root s it.table)) g, refs_none s (key it) part z)

    pub held_tight : eqb (get_or ms i 0) 0 ≡ false → free s rows ms cs i ≡ false → loose s part it ≡ false
    held_tight m f = split (loose s part it) (λ h. absurd (no h)) (λ h. h)
      where
        no : loose s part it ≡ true → ⊥
        no h =
            let a : not (is_root s it.table) ≡ true = and_l (not (is_root s it.table)) (not (any (holds s (key it)) part)) h in
            let b : any (holds s (key it)) part ≡ false = not-true (any (holds s (key it)) part) (and_r (not (is_root s it.table)) (not (any (holds s (key it)) part)) h) in
            let z : its ≡ 0 = t i l ∙ none_refs s (key it) part b in
            clash (free s rows ms cs i) (rw (m, a, eq-eqb its 0 z)) f

  module _ (rows : List Row) (o : Sorted rows) where
    tallies_goes : {ms cs end : List ℕ} → True s rows (left rows ms) cs → Tallies s rows ms cs end → Goes s (left rows ms) (left rows end)
    tallies_goes {ms} {cs} t (all_held h) = none_left (none_of (loose s (left rows ms)) (left rows ms) (λ r j.
        in_marked rows ms r j (λ i l m q. subst (λ (x : Row). loose s (left rows ms) x ≡ false) (sym q)
        (held_tight (left rows ms) rows ms cs t i l m (h i l)))))
    tallies_goes {ms} {cs} {end} t (goes {next = next} i l f e g) =
        let m = free_marked (left rows ms) rows ms cs t i l f in
        let j = marked_in rows ms i l m in
        let q = mark_off rows ms i o l m in
        let u : True s rows (left rows (set ms i 0)) next =
        subst (λ (p : List Row). True s rows p next) (sym q) (true_lower (left rows ms) rows (get_or rows i nobody) cs next (left_sorted rows ms o) j t e) in
        one_goes (get_or rows i nobody) j (free_loose (left rows ms) rows ms cs t i l f) (subst (λ (p : List Row). Goes s p (left rows end)) q (tallies_goes u g))

    -- in any order, what the counts leave is what collection leaves
    pub tallies_is : (ms cs end : List ℕ) → left rows ms ≡ rows → True s rows rows cs → Tallies s rows ms cs end → left rows end ≡ collect s (length rows) rows
    tallies_is ms cs end a t g =
        let h : Goes s (left rows ms) (left rows end) = tallies_goes (subst (λ (p : List Row). True s rows p cs) (sym a) t) g in
        sym (collect_is s rows (left rows end) o (subst (λ (p : List Row). Goes s p (left rows end)) a h))
