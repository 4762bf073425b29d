-- Collection: what removing loose rows keeps, that it ends with none left, and that it takes no row that a closed part holds. Assumes nothing.
use Rattle.std.specs.Prelude.{Option, Some, None}
use mathlib.Core.Path.{◌≡◌, refl, sym, ◌∙◌, ap}
use mathlib.Core.Bool.{Bool, true, false, not, ◌&&◌}
use mathlib.Core.List.{List, [], ◌∷◌}
use mathlib.Core.Logic.{inl, inr, ⊎_elim}
use Prim.Native.Nat.{ℕ, zero, suc, ◌≤◌, ◌<◌}
use native.Mathlib.Omega.{arith}
use borrow.Author.Tests.{eq-eqb, ne_eqb, eqb-true, eqb-false, not-true}
use lib.Dec.{eqb}
use lib.ListN.{length}
use Rattle.model.specs.Base.{any, all}
use Rattle.model.specs.Schema.{Schema, is_root}
use Rattle.model.specs.Rows.{Row, key, has, has_id, remove}
use Rattle.model.proofs.Order.{Above, Sorted, Distinct, AllFine, Good, AllMeet}
use Rattle.model.specs.Commit.{strong_of, all_found, loose, first_loose, collect}
use Rattle.model.proofs.Tests.{split, clash, and_l, and_r, or_l, or_r, eqb_flip}
use Rattle.model.proofs.Within.{In, all_in, all_of, none_in, none_of}

-- ── a row removed ──
remove_above : (j k : ℕ) (rows : List Row) → Above j rows → Above j (remove k rows)
remove_above j k [] h = tt
remove_above j k (r ∷ rs) h = split (eqb k (key r)) (λ e. rw e h.1) (λ e. rw e (h.0, remove_above j k rs h.1))

remove_sorted : (k : ℕ) (rows : List Row) → Sorted rows → Sorted (remove k rows)
remove_sorted k [] h = tt
remove_sorted k (r ∷ rs) h = split (eqb k (key r)) (λ e. rw e h.1) (λ e. rw e (remove_above (key r) k rs h.0, remove_sorted k rs h.1))

remove_ids : (i k : ℕ) (rows : List Row) → has_id i rows ≡ false → has_id i (remove k rows) ≡ false
remove_ids i k [] h = refl
remove_ids i k (r ∷ rs) h = split (eqb k (key r))
    (λ e. rw e (or_r (eqb i r.id) (has_id i rs) h))
    (λ e. rw (e, or_l (eqb i r.id) (has_id i rs) h) (remove_ids i k rs (or_r (eqb i r.id) (has_id i rs) h)))

remove_distinct : (k : ℕ) (rows : List Row) → Distinct rows → Distinct (remove k rows)
remove_distinct k [] h = tt
remove_distinct k (r ∷ rs) h = split (eqb k (key r)) (λ e. rw e h.1) (λ e. rw e (remove_ids r.id k rs h.0, remove_distinct k rs h.1))

remove_fine : (s : Schema) (k : ℕ) (rows : List Row) → AllFine s rows → AllFine s (remove k rows)
remove_fine s k [] h = tt
remove_fine s k (r ∷ rs) h = split (eqb k (key r)) (λ e. rw e h.1) (λ e. rw e (h.0, remove_fine s k rs h.1))

remove_meet : (s : Schema) (k : ℕ) (rows : List Row) → AllMeet s rows → AllMeet s (remove k rows)
remove_meet s k [] h = tt
remove_meet s k (r ∷ rs) h = split (eqb k (key r)) (λ e. rw e h.1) (λ e. rw e (h.0, remove_meet s k rs h.1))

remove_length : (k : ℕ) (rows : List Row) → length (remove k rows) ≤ length rows
remove_length k [] = omega arith
remove_length k (r ∷ rs) = split (eqb k (key r)) (λ e. rw e (omega arith)) (λ e. rw e (omega (arith, remove_length k rs)))

pub remove_good : (s : Schema) (k : ℕ) (rows : List Row) → Good s rows → Good s (remove k rows)
remove_good s k rows g = record {
  sorted = remove_sorted k rows g.sorted;
  distinct = remove_distinct k rows g.distinct;
  fine = remove_fine s k rows g.fine;
  few = omega (arith, remove_length k rows, g.few);
}

-- ── which rows are left ──
above_in : (k : ℕ) (rows : List Row) (r : Row) → Above k rows → In r rows → k < key r
above_in k [] r a i = absurd i
above_in k (x ∷ rows) r a (inl e) = rw e a.0
above_in k (x ∷ rows) r a (inr i) = above_in k rows r a.1 i

pub remove_in : (k : ℕ) (rows : List Row) (r : Row) → In r (remove k rows) → In r rows
remove_in k [] r i = i
remove_in k (x ∷ rows) r i = split (eqb k (key x)) (λ e. inr (rw e at i)) (λ e. ⊎_elim (λ p. inl p) (λ j. inr (remove_in k rows r j)) (rw e at i))

remove_other : (k : ℕ) (rows : List Row) (r : Row) → Sorted rows → In r (remove k rows) → k ≡ key r → ⊥
remove_other k [] r o i p = i
remove_other k (x ∷ rows) r o i p = split (eqb k (key x))
    (λ e. omega (arith, eqb-true k (key x) e, above_in (key x) rows r o.0 (rw e at i)))
    (λ e. ⊎_elim (λ q. eqb-false k (key x) e (p ∙ ap key q)) (λ j. remove_other k rows r o.1 j p) (rw e at i))

remove_keeps : (k : ℕ) (rows : List Row) (r : Row) → In r rows → (k ≡ key r → ⊥) → In r (remove k rows)
remove_keeps k [] r i n = i
remove_keeps k (x ∷ rows) r (inl p) n = rw (ne_eqb k (key x) (λ e. n (e ∙ sym (ap key p)))) (inl p)
remove_keeps k (x ∷ rows) r (inr i) n = split (eqb k (key x)) (λ e. rw e i) (λ e. rw e (inr (remove_keeps k rows r i n)))

remove_has : (k j : ℕ) (rows : List Row) → has j rows ≡ true → eqb k j ≡ false → has j (remove k rows) ≡ true
remove_has k j [] h n = h
remove_has k j (x ∷ rows) h n = split (eqb k (key x))
    (λ e. rw e (rw (← (eqb-true k (key x) e), eqb_flip k j n) at h))
    (λ e. rw e (split (eqb j (key x)) (λ p. rw p) (λ p. rw p (remove_has k j rows (rw p at h) n))))

remove_fewer : (rows : List Row) (r : Row) → In r rows → length (remove (key r) rows) < length rows
remove_fewer [] r i = absurd i
remove_fewer (x ∷ rows) r (inl e) = rw (eq-eqb (key r) (key x) (ap key e)) (omega arith)
remove_fewer (x ∷ rows) r (inr i) = split (eqb (key r) (key x)) (λ e. rw e (omega arith)) (λ e. rw e (omega (arith, remove_fewer rows r i)))

-- two rows of one key are one
pub same_key : (rows : List Row) (r x : Row) → Sorted rows → In r rows → In x rows → key r ≡ key x → r ≡ x
same_key [] r x o i j e = absurd i
same_key (y ∷ rows) r x o (inl p) (inl q) e = p ∙ sym q
same_key (y ∷ rows) r x o (inl p) (inr j) e = absurd (omega (arith, ap key p, above_in (key y) rows x o.0 j))
same_key (y ∷ rows) r x o (inr i) (inl q) e = absurd (omega (arith, ap key q, above_in (key y) rows r o.0 i))
same_key (y ∷ rows) r x o (inr i) (inr j) e = same_key rows r x o.1 i j e

-- rows in order are the same list where they are the same rows
sorted_same : (a b : List Row) → Sorted a → Sorted b → ((r : Row) → In r a → In r b) → ((r : Row) → In r b → In r a) → a ≡ b
sorted_same [] [] o p f g = refl
sorted_same [] (y ∷ b) o p f g = absurd (g y (inl refl))
sorted_same (x ∷ a) [] o p f g = absurd (f x (inl refl))
sorted_same (x ∷ a) (y ∷ b) o p f g =
    let e : x ≡ y = first (f x (inl refl)) (g y (inl refl)) in
    let t : a ≡ b = sorted_same a b o.1 p.1
    (λ r i. ⊎_elim (λ q. absurd (omega (arith, ap key e, ap key q, above_in (key x) a r o.0 i))) (λ j. j) (f r (inr i)))
    (λ r i. ⊎_elim (λ q. absurd (omega (arith, ap key e, ap key q, above_in (key y) b r p.0 i))) (λ j. j) (g r (inr i))) in
    cc
  where
    first : In x (y ∷ b) → In y (x ∷ a) → x ≡ y
    first (inl e) j = e
    first (inr i) (inl e) = sym e
    first (inr i) (inr j) = absurd (omega (arith, above_in (key y) b x p.0 i, above_in (key x) a y o.0 j))

-- ── loose rows ──
module _ (s : Schema) where
  -- another row q refers strongly to the row under a key
  abbrev pub holds : ℕ → Row → Bool
  holds k q = not (eqb (key q) k) && any (eqb k) (strong_of s q)

  loose_free : (rows : List Row) (r : Row) → loose s rows r ≡ true → any (holds (key r)) rows ≡ false
  loose_free rows r h = not-true (any (holds (key r)) rows) (and_r (not (is_root s r.table)) (not (any (holds (key r)) rows)) h)

  first_none : (rows l : List Row) → first_loose s rows l ≡ None → any (loose s rows) l ≡ false
  first_none rows [] h = refl
  first_none rows (r ∷ l) h = split (loose s rows r) (λ e. absurd (no (rw (e, first_loose) at h))) (λ e. rw (e, first_none rows l (rw (e, first_loose) at h)))
    where
      no : Some (key r) ≡ None → ⊥
      no p = let z : ◌≡◌ {A = ℕ} 0 1 = cc in omega arith

  first_some : {P : Type 0} (rows l : List Row) (k : ℕ) → first_loose s rows l ≡ Some k → ((r : Row) → In r l → loose s rows r ≡ true → k ≡ key r → P) → P
  first_some rows [] k h f = absurd (no h)
    where
      no : None ≡ Some k → ⊥
      no p = let z : ◌≡◌ {A = ℕ} 0 1 = cc in omega arith
  first_some rows (r ∷ l) k h f = split (loose s rows r)
      (λ e. let p : Some (key r) ≡ Some k = rw (e, first_loose) at h in f r (inl refl) e cc)
      (λ e. first_some rows l k (rw (e, first_loose) at h) (λ x i q p. f x (inr i) q p))

-- ── "A row of a non-root table with no strong reference from a different row goes, and again until none is left", in whatever order ──
pub data Goes (s : Schema) : List Row → List Row → Type 0 where
  none_left : {rows : List Row} → any (loose s rows) rows ≡ false → Goes s rows rows
  one_goes : {rows rest : List Row} (r : Row) → In r rows → loose s rows r ≡ true → Goes s (remove (key r) rows) rest → Goes s rows rest

module _ (s : Schema) where
  -- what holds of rows, and with them of the rows without a loose one, holds of the rows that are left
  module _ (P : List Row → Type 0) (step : (rows : List Row) (r : Row) → In r rows → loose s rows r ≡ true → P rows → P (remove (key r) rows)) where
    pub goes_keeps : {rows rest : List Row} → Goes s rows rest → P rows → P rest
    goes_keeps (none_left e) h = h
    goes_keeps (one_goes {rows = rows} r i l g) h = goes_keeps g (step rows r i l h)

  pub goes_ends : {rows rest : List Row} → Goes s rows rest → any (loose s rest) rest ≡ false
  goes_ends (none_left e) = e
  goes_ends (one_goes r i l g) = goes_ends g

  -- collection is such an order: each turn takes one row away
  pub collect_goes : (n : ℕ) (rows : List Row) → length rows ≤ n → Goes s rows (collect s n rows)
  collect_goes zero [] h = none_left refl
  collect_goes zero (r ∷ rows) h = absurd (omega arith)
  collect_goes (suc n) rows h = go (λ l f. collect_goes n l f) (first_loose s rows rows) refl
    where
      go : ((l : List Row) → length l ≤ n → Goes s l (collect s n l)) → (o : Option ℕ) → first_loose s rows rows ≡ o → Goes s rows (collect s (suc n) rows)
      go ih None e = rw (e, collect) (none_left (first_none s rows rows e))
      go ih (Some k) e = rw (e, collect) (first_some s rows rows k e (λ r i l q. rw q (one_goes r i l (ih (remove (key r) rows) (omega (arith, remove_fewer rows r i, h))))))

  -- and where no row is loose it changes nothing
  pub collect_none : (n : ℕ) (rows : List Row) → any (loose s rows) rows ≡ false → collect s n rows ≡ rows
  collect_none zero rows h = refl
  collect_none (suc n) rows h = go (first_loose s rows rows) refl
    where
      go : (o : Option ℕ) → first_loose s rows rows ≡ o → collect s (suc n) rows ≡ rows
      go None e = rw (e, collect)
      go (Some k) e = first_some s rows rows k e (λ r i l q. absurd (clash (loose s rows r) l (none_in (loose s rows) rows r h i)))

  -- ── what is kept ──
  pub goes_good : {rows rest : List Row} → Goes s rows rest → Good s rows → Good s rest
  goes_good g h = goes_keeps (Good s) (λ l r i e x. remove_good s (key r) l x) g h

  pub goes_meet : {rows rest : List Row} → Goes s rows rest → AllMeet s rows → AllMeet s rest
  goes_meet g h = goes_keeps (AllMeet s) (λ l r i e x. remove_meet s (key r) l x) g h

  pub goes_sorted : {rows rest : List Row} → Goes s rows rest → Sorted rows → Sorted rest
  goes_sorted g h = goes_keeps Sorted (λ l r i e x. remove_sorted (key r) l x) g h

  pub goes_ids : {rows rest : List Row} (j : ℕ) → Goes s rows rest → has_id j rows ≡ false → has_id j rest ≡ false
  goes_ids j g h = goes_keeps (λ (l : List Row). has_id j l ≡ false) (λ l r i e x. remove_ids j (key r) l x) g h

  pub goes_within : {rows rest : List Row} (r : Row) → Goes s rows rest → In r rest → In r rows
  goes_within {rows} r g = goes_keeps (λ (l : List Row). In r l → In r rows) (λ l x i e f j. f (remove_in (key x) l r j)) g (λ j. j)

  -- a loose row's going leaves every strong reference with its row: none refers to it but its own, which go with it
  found_step : (rows : List Row) (r : Row) → loose s rows r ≡ true → Sorted rows → all_found s rows ≡ true → all_found s (remove (key r) rows) ≡ true
  found_step rows r l o f = all_of (λ (q : Row). all (λ (j : ℕ). has j (remove (key r) rows)) (strong_of s q)) (remove (key r) rows) (λ q i.
      all_of (λ (j : ℕ). has j (remove (key r) rows)) (strong_of s q) (λ j m.
      remove_has (key r) j rows
      (all_in (λ (j : ℕ). has j rows) (strong_of s q) j (all_in (λ (q : Row). all (λ (j : ℕ). has j rows) (strong_of s q)) rows q f (remove_in (key r) rows q i)) m)
      (none_in (eqb (key r)) (strong_of s q) j (free q i) m)))
    where
      free : (q : Row) → In q (remove (key r) rows) → any (eqb (key r)) (strong_of s q) ≡ false
      free q i =
          let d : eqb (key q) (key r) ≡ false = ne_eqb (key q) (key r) (λ e. remove_other (key r) rows q o i (sym e)) in
          rw d at (none_in (holds s (key r)) rows q (loose_free s rows r l) (remove_in (key r) rows q i))

  pub goes_found : {rows rest : List Row} → Goes s rows rest → Sorted rows → all_found s rows ≡ true → all_found s rest ≡ true
  goes_found g o f = (goes_keeps (λ (l : List Row). Sorted l × (all_found s l ≡ true)) (λ l r i e x. (remove_sorted (key r) l x.0, found_step l r e x.0 x.1)) g (o, f)).1

  -- ── what is left: the largest part in which no row is loose, so that the order does not matter ──
  loose_less : (part rows : List Row) (r : Row) → ((q : Row) → In q part → In q rows) → loose s rows r ≡ true → loose s part r ≡ true
  loose_less part rows r f h =
      let e : any (holds s (key r)) part ≡ false = none_of (holds s (key r)) part (λ q i. none_in (holds s (key r)) rows q (loose_free s rows r h) (f q i)) in
      rw (e, and_l (not (is_root s r.table)) (not (any (holds s (key r)) rows)) h)

  pub goes_largest : {rows rest : List Row} (part : List Row) → Goes s rows rest → Sorted rows → any (loose s part) part ≡ false
      → ((q : Row) → In q part → In q rows) → (q : Row) → In q part → In q rest
  goes_largest part g o h f = (goes_keeps (λ (l : List Row). Sorted l × ((q : Row) → In q part → In q l)) step g (o, f)).1
    where
      stays : (l : List Row) (r : Row) → In r l → loose s l r ≡ true → Sorted l → ((q : Row) → In q part → In q l) → (q : Row) → In q part → key r ≡ key q → ⊥
      stays l r i e o f q j k =
          let x : r ≡ q = same_key l r q o i (f q j) k in
          clash (loose s part q) (loose_less part l q f (rw x at e)) (none_in (loose s part) part q h j)

      step : (l : List Row) (r : Row) → In r l → loose s l r ≡ true → Sorted l × ((q : Row) → In q part → In q l) → Sorted (remove (key r) l) × ((q : Row) → In q part → In q (remove (key r) l))
      step l r i e x = (remove_sorted (key r) l x.0, λ q j. remove_keeps (key r) l q (x.1 q j) (stays l r i e x.0 x.1 q j))

  pub goes_one : {rows a b : List Row} → Sorted rows → Goes s rows a → Goes s rows b → a ≡ b
  goes_one {rows} {a} {b} o g h = sorted_same a b (goes_sorted g o) (goes_sorted h o)
      (goes_largest a h o (goes_ends g) (λ q i. goes_within q g i))
      (goes_largest b g o (goes_ends h) (λ q i. goes_within q h i))

  -- whatever order loose rows go in, collection leaves the same
  pub collect_is : (rows rest : List Row) → Sorted rows → Goes s rows rest → collect s (length rows) rows ≡ rest
  collect_is rows rest o g = goes_one o (collect_goes (length rows) rows (omega arith)) g
