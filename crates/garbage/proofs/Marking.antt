-- Rows by their marks: those that go, and those that are left put in front. Assumes nothing.
use Rattle.std.specs.Prelude.{Some, None}
use mathlib.Core.Path.{◌≡◌, refl, sym, ap, ◌∙◌, subst}
use mathlib.Core.Bool.{Bool, true, false, not, ◌&&◌}
use mathlib.Core.List.{List, [], ◌∷◌, ◌++◌, append-nil, append_assoc, map}
use Prim.Native.Nat.{ℕ, zero, suc, ◌+◌, ◌-◌, ◌≤◌, ◌<◌}
use native.Mathlib.Numerals.{add-one}
use native.Mathlib.Omega.{arith}
use borrow.Author.Tests.{not-true}
use lib.Dec.{eqb}
use lib.ListN.{length, get_or, take, drop, set, replicate, length-set, drop_of_length-le}
use lib.Seq.{drop-cons, get_or-take, length-take-le, take-suc-set, take-set-lt, drop-set-lt}
use Rattle.model.specs.Limits.{most_rows}
use Rattle.model.specs.Base.{any}
use Rattle.model.specs.Schema.{Table, Schema, is_root}
use Rattle.model.specs.Rows.{Row, key}
use Rattle.model.specs.Commit.{loose, first_loose, collect, strong_of}
use Rattle.model.specs.Areas.{row_from}
use Rattle.inner.specs.Working.{working, table_in, key_in, Tidy, Ordered}
use Rattle.model.proofs.Order.{Sorted}
use Rattle.model.proofs.Tests.{split, clash, and_l, or_l, or_r}
use Rattle.model.proofs.Within.{In, none_in, none_of}
use Rattle.model.proofs.Collected.{collect_none}
use Rattle.inner.proofs.Working.{working_at, working_length, row_key, row_table}
use Rattle.inner.proofs.Ordering.{ordered_sorted, sorted_ordered}
use Rattle.garbage.specs.Loose.{LooseAt, Collected}
use Rattle.garbage.specs.Counts.{left, nobody, free, from, refs, all_held, goes, held, Counted, Tallied, may_go, NextAt, Swept, PartlySwept, Put, Compacted}
use Rattle.garbage.proofs.Tallying.{True, left_sorted, left_map, at_in, in_marked, free_loose, held_tight, tallies_is}
use Rattle.garbage.proofs.Counting.{held_from, lowered_is}

-- ── a row may go ──
module _ (s : Schema) (n : ℕ) (cells : List (List (List ℕ))) (ms cs : List ℕ) where
  pub next_here : (i : ℕ) (b : Bool) → i < n → b ≡ may_go s (get_or cells i []) (get_or ms i 0) (get_or cs i 0) → b ≡ true → NextAt s n cells ms cs (Some i)
  unfolding NextAt
  next_here i b l e h = (l, sym e ∙ h)

-- ── a row that goes ──
module _ {A : Type 0} where
  left_fewer : (l : List A) (ms : List ℕ) (i : ℕ) → i < length l → eqb (get_or ms i 0) 0 ≡ false → length (left l (set ms i 0)) < length (left l ms)
  left_fewer [] ms i h e = absurd (omega arith)
  left_fewer (a ∷ l) [] i h e = absurd (clash (eqb 0 0) refl e)
  left_fewer (a ∷ l) (m ∷ ms) zero h e = rw (e, left) (omega arith)
  left_fewer (a ∷ l) (m ∷ ms) (suc i) h e = split (eqb m 0)
      (λ p. rw (p, left, left) (left_fewer l ms i (omega arith) e))
      (λ p. rw (p, left, left) (omega (arith, left_fewer l ms i (omega arith) e)))

  left_ones : (l : List A) (n : ℕ) → length l ≤ n → left l (replicate n 1) ≡ l
  left_ones [] n h = refl
  left_ones (a ∷ l) zero h = absurd (omega arith)
  left_ones (a ∷ l) (suc n) h = rw (left_ones l n (omega arith))

module _ (s : Schema) (n : ℕ) (cells : List (List (List ℕ))) (o : Ordered n cells) where
  abbrev rows : List Row
  rows = working s n cells

  free_is : (ms cs : List ℕ) (i : ℕ) → i < n → free s rows ms cs i ≡ may_go s (get_or cells i []) (get_or ms i 0) (get_or cs i 0)
  unfolding may_go
  free_is ms cs i l = let e : (get_or rows i nobody).table ≡ table_in (get_or cells i []) = ap (λ (r : Row). r.table) (working_at s cells n o.there i nobody l) ∙ row_table s (get_or cells i []) in rw e

  key_is : (i : ℕ) → i < n → key (get_or rows i nobody) ≡ key_in (get_or cells i [])
  key_is i l = ap key (working_at s cells n o.there i nobody l) ∙ row_key s (get_or cells i [])

  module _ (ms cs : List ℕ) where
    pub sweep_end : NextAt s n cells ms cs None → Swept s n cells ms cs ms
    unfolding NextAt Swept
    sweep_end f = all_held (λ i l. let g : i < n = omega (arith, working_length s cells n o.there) in free_is ms cs i g ∙ f i g)

    module _ (i : ℕ) (f : NextAt s n cells ms cs (Some i)) where
      pub next_within : i < n
      unfolding NextAt
      next_within = f.0

      pub sweep_on : (next : List ℕ) → Counted false n cells i (strong_of s (row_from s (get_or cells i []))) cs next → (end : List ℕ) → Swept s n cells (set ms i 0) next end → Swept s n cells ms cs end
      unfolding NextAt Swept
      sweep_on next g end t =
          let l : i < length rows = omega (arith, f.0, working_length s cells n o.there) in
          goes {next = next} i l (free_is ms cs i f.0 ∙ f.1) (λ k q.
          let p : k < n = omega (arith, working_length s cells n o.there) in
          g.counts k p
          ∙ lowered_is (get_or cs k 0) (held i k (key_in (get_or cells k [])) (strong_of s (row_from s (get_or cells i []))))
          ∙ ap (λ (w : ℕ). get_or cs k 0 - w) (held_from s n cells o i f.0 k p
          ∙ ap (λ (x : ℕ). from s x (row_from s (get_or cells i []))) (sym (key_is k p))
          ∙ ap (from s (key (get_or rows k nobody))) (sym (working_at s cells n o.there i nobody f.0)))) t

      pub partly_on : (next : List ℕ) → Counted false n cells i (strong_of s (row_from s (get_or cells i []))) cs next → (start counts : List ℕ) → PartlySwept s n cells start counts ms cs → PartlySwept s n cells start counts (set ms i 0) next
      unfolding PartlySwept
      partly_on next g start counts w = λ end t. w end (sweep_on next g end t)

      pub sweep_less : length (left rows (set ms i 0)) < length (left rows ms)
      unfolding NextAt may_go
      sweep_less =
          left_fewer rows ms i (omega (arith, f.0, working_length s cells n o.there))
          (not-true (eqb (get_or ms i 0) 0) (and_l (not (eqb (get_or ms i 0) 0)) (eqb (get_or cs i 0) 0 && not (is_root s (table_in (get_or cells i [])))) f.1))

-- ── rows put in front ──
-- what is in front, with what is still to come
abbrev pub split_at : ℕ → ℕ → ℕ → List ℕ → List (List (List ℕ)) → List (List (List ℕ))
split_at m j n ms l = take m l ++ left (drop j (take n l)) (drop j ms)

pub record Stepped (m j n k : ℕ) (ms : List ℕ) (l next : List (List (List ℕ))) : Type 0 where
  pub few : k ≤ j + 1
  pub long : length next ≡ length l
  pub rows : split_at k (j + 1) n ms next ≡ split_at m j n ms l

module _ (m j n k : ℕ) (ms : List ℕ) (l next : List (List (List ℕ))) (a : m ≤ j) (b : j < n) (c : n ≤ length l) (d : n ≤ length ms) where
  abbrev x : List (List ℕ)
  x = get_or l j []

  open_rows : drop j (take n l) ≡ x ∷ drop (j + 1) (take n l)
  open_rows = drop-cons (take n l) j [] (omega (arith, length-take-le n l c)) ∙ rw (get_or-take n l j [] b, add-one j)

  open_marks : drop j ms ≡ get_or ms j 0 ∷ drop (j + 1) ms
  open_marks = drop-cons ms j 0 (omega arith) ∙ rw (add-one j)

  pub put_on : Put m j (get_or ms j 0) k l next → Stepped m j n k ms l next
  unfolding Put
  put_on p = split (eqb (get_or ms j 0) 0) (λ e. gone e (rw (e, Put) at p)) (λ e. kept e (rw (e, Put) at p))
    where
      gone : eqb (get_or ms j 0) 0 ≡ true → (k ≡ m) × (next ≡ l) → Stepped m j n k ms l next
      gone e q = record {
        few = omega (arith, q.0);
        long = ap length q.1;
        rows = rw (open_rows, open_marks, e, left) (rw (q.0, q.1) refl);
      }

      kept : eqb (get_or ms j 0) 0 ≡ false → (k ≡ m + 1) × (next ≡ set l m x) → Stepped m j n k ms l next
      kept e q =
          let u : take (m + 1) (set l m x) ≡ take m l ++ (x ∷ []) = rw (add-one m) (take-suc-set l m x (omega arith)) in
          let v : drop (j + 1) (take n (set l m x)) ≡ drop (j + 1) (take n l) = ap (drop (j + 1)) (take-set-lt n l m x (omega arith)) ∙ drop-set-lt (j + 1) (take n l) m x (omega arith) in
          record {
            few = omega (arith, q.0);
            long = ap length q.1 ∙ length-set l m x;
            rows = rw (open_rows, open_marks, e, left) (rw (q.0, q.1, u, v) (append_assoc (take m l) (x ∷ []) (left (drop (j + 1) (take n l)) (drop (j + 1) ms))));
          }

pub put_end : (m j n : ℕ) (ms : List ℕ) (entry l : List (List (List ℕ))) → m ≤ j → j ≤ n → n ≤ j → n ≤ length l → split_at m j n ms l ≡ left (take n entry) ms → Compacted n m ms entry l
put_end m j n ms entry l a b c d e = record {
  few = omega arith;
  there = d;
  rows = let z : drop j (take n l) ≡ [] = drop_of_length-le (take n l) {i = j} (omega (arith, length-take-le n l d)) in sym (append-nil (take m l)) ∙ (rw z at e);
}

-- ── all together ──
left_tidy : (s : Schema) (l : List (List (List ℕ))) (ms : List ℕ) → Tidy s l → Tidy s (left l ms)
left_tidy s [] ms t = tt
left_tidy s (a ∷ l) [] t = tt
left_tidy s (a ∷ l) (m ∷ ms) t = split (eqb m 0) (λ e. rw (e, left) (left_tidy s l ms t.1)) (λ e. rw (e, left) (t.0, left_tidy s l ms t.1))

-- rows of root tables are never loose
abbrev pub not_root : Schema → Row → Bool
not_root s r = not (is_root s r.table)

-- all tables are root where none says so
pub unsaid_none : (s : Schema) → any (λ (x : Table). x.root) s ≡ false → (l : List Row) → any (not_root s) l ≡ false
unsaid_none s e [] = refl
unsaid_none s e (r ∷ l) = rw e (unsaid_none s e l)

root_held : (s : Schema) (rows l : List Row) → any (not_root s) l ≡ false → any (loose s rows) l ≡ false
root_held s rows [] h = refl
root_held s rows (r ∷ l) h = rw (or_l (not_root s r) (any (not_root s) l) h, root_held s rows l (or_r (not_root s r) (any (not_root s) l) h))

-- one that is loose
any_one : (q : Row → Bool) (l : List Row) (r : Row) → In r l → q r ≡ true → any q l ≡ true
any_one q l r i e = split (any q l) (λ h. h) (λ h. absurd (clash (q r) e (none_in q l r h i)))

-- the first loose row, or none
first_any : (s : Schema) (rows l : List Row) (k : ℕ) → first_loose s rows l ≡ Some k → any (loose s rows) l ≡ true
first_any s rows [] k e = absurd (let z : ◌≡◌ {A = ℕ} 0 1 = cc in omega arith)
first_any s rows (r ∷ l) k e = split (loose s rows r) (λ p. rw p) (λ p. rw p (first_any s rows l k (rw (p, first_loose) at e)))

first_none : (s : Schema) (rows l : List Row) → first_loose s rows l ≡ None → any (loose s rows) l ≡ false
first_none s rows [] e = refl
first_none s rows (r ∷ l) e = split (loose s rows r) (λ p. absurd (no (rw (p, first_loose) at e))) (λ p. rw (p, first_none s rows l (rw (p, first_loose) at e)))
  where
    no : Some (key r) ≡ None → ⊥
    no p = let z : ◌≡◌ {A = ℕ} 0 1 = cc in omega arith

module _ (s : Schema) (rows : List Row) where
  pub loose_at_any : (i : ℕ) → LooseAt s rows (Some i) → any (loose s rows) rows ≡ true
  unfolding LooseAt
  loose_at_any i f = first_any s rows rows f.0 f.1

  pub loose_at_none : LooseAt s rows None → any (loose s rows) rows ≡ false
  unfolding LooseAt
  loose_at_none f = first_none s rows rows f

module _ (s : Schema) (n : ℕ) (entry : List (List (List ℕ))) (o : Ordered n entry) where
  pub roots_none : any (not_root s) (working s n entry) ≡ false → any (loose s (working s n entry)) (working s n entry) ≡ false
  roots_none e = root_held s (working s n entry) (working s n entry) e

  pub collected_roots : any (not_root s) (working s n entry) ≡ false → Collected s n n entry entry
  collected_roots e = record { few = omega arith; rows = sym (collect_none s n (working s n entry) (root_held s (working s n entry) (working s n entry) e)); tidy = λ t. t; ordered = o }

  tallied_true : (cs : List ℕ) → Tallied s n entry cs → True s (working s n entry) (working s n entry) cs
  tallied_true cs t i l = let p : i < n = omega (arith, working_length s entry n o.there) in t.counts i p ∙ ap (λ (k : ℕ). refs s k (working s n entry)) (sym (key_is s n entry o i p))

  -- by true counts, with all rows there, a row may go just where one is loose
  module _ (cs : List ℕ) (f : n ≤ most_rows) (t : Tallied s n entry cs) where
    pub next_any : (i : ℕ) → NextAt s n entry (replicate most_rows 1) cs (Some i) → any (loose s (working s n entry)) (working s n entry) ≡ true
    unfolding NextAt
    next_any i g =
        let w = working s n entry in
        let l : i < length w = omega (arith, g.0, working_length s entry n o.there) in
        any_one (loose s w) w (get_or w i nobody) (at_in w i l)
        (free_loose s w w (replicate most_rows 1) cs (tallied_true cs t) i l (free_is s n entry o (replicate most_rows 1) cs i g.0 ∙ g.1))

    pub next_none_any : NextAt s n entry (replicate most_rows 1) cs None → any (loose s (working s n entry)) (working s n entry) ≡ false
    unfolding NextAt
    next_none_any g =
        let w = working s n entry in
        let e : left w (replicate most_rows 1) ≡ w = left_ones w most_rows (omega (arith, f, working_length s entry n o.there)) in
        none_of (loose s w) w (λ r j.
        in_marked w (replicate most_rows 1) r (subst (λ (l : List Row). In r l) (sym e) j) (λ i l m q.
        let h : i < n = omega (arith, l, working_length s entry n o.there) in
        subst (λ (x : Row). loose s w x ≡ false) (sym q) (held_tight s w w (replicate most_rows 1) cs (tallied_true cs t) i l m (free_is s n entry o (replicate most_rows 1) cs i h ∙ g i h))))

  module _ (m : ℕ) (exit : List (List (List ℕ))) (end : List ℕ) (k : Compacted n m end entry exit) where
    left_rows : working s m exit ≡ left (working s n entry) end
    unfolding working
    left_rows = ap (map (row_from s)) k.rows ∙ sym (left_map (row_from s) (take n entry) end)

    pub collected_left : (cs : List ℕ) → n ≤ most_rows → Tallied s n entry cs → Swept s n entry (replicate most_rows 1) cs end → Collected s n m entry exit
    unfolding Swept
    collected_left cs f t w = record {
      few = k.few;
      rows = left_rows
          ∙ tallies_is s (working s n entry) (ordered_sorted s n entry o) (replicate most_rows 1) cs end (left_ones (working s n entry) most_rows (omega (arith, working_length s entry n o.there))) (tallied_true cs t) w
          ∙ ap (λ (i : ℕ). collect s i (working s n entry)) (working_length s entry n o.there);
      tidy = λ y. subst (λ (l : List (List (List ℕ))). Tidy s l) (sym k.rows) (left_tidy s (take n entry) end y);
      ordered = sorted_ordered s m exit (omega (arith, k.few, k.there)) (subst Sorted (sym left_rows) (left_sorted (working s n entry) end (ordered_sorted s n entry o)));
    }
