-- Counts of references, moved one after another. Assumes nothing.
use Rattle.std.specs.Prelude.{Option, Some, None}
use mathlib.Core.Path.{◌≡◌, refl, sym, ap, ◌∙◌}
use mathlib.Core.Bool.{Bool, true, false}
use mathlib.Core.List.{List, [], ◌∷◌, ◌++◌, map}
use Prim.Native.Nat.{ℕ, zero, suc, ◌+◌, ◌-◌, ◌*◌, ◌≤◌, ◌<◌}
use native.Mathlib.Numerals.{add-one}
use native.Mathlib.Omega.{arith}
use borrow.Author.Tests.{eq-eqb, ne_eqb, eqb-true, eqb-false}
use lib.Dec.{eqb}
use lib.ListN.{length, get_or, take, drop, set, replicate, length-take, length-append, length-map, drop_of_length-le}
use lib.Seq.{get_or-set_same, get_or-set_other, drop-cons}
use Rattle.model.specs.Limits.{most_rows}
use Rattle.model.specs.Base.{count}
use Rattle.model.specs.Schema.{Refers, Column, Schema, columns_of}
use Rattle.model.specs.Value.{uuid_of}
use Rattle.model.specs.Rows.{Row, key_of, key, find}
use Rattle.model.specs.Commit.{keys_of, targets, strongly, strong_of}
use Rattle.model.specs.Areas.{columns_from, row_from}
use Rattle.inner.specs.Working.{working, key_in, place, Ordered}
use Rattle.model.proofs.Tests.{split, clash, eqb_flip}
use Rattle.inner.proofs.Working.{row_key, working_at, working_on, working_end, working_length}
use Rattle.inner.proofs.Places.{place_at}
use Rattle.inner.proofs.Ordering.{own_place}
use Rattle.garbage.specs.Counts.{from, refs, shifted, held, most_count, Room, Counted, Tallied}

-- ── a count moved twice ──
shifted_more : (up : Bool) (c a b : ℕ) → shifted up (shifted up c a) b ≡ shifted up c (a + b)
unfolding shifted
shifted_more true c a b = omega arith
shifted_more false c a b = omega arith

shifted_none : (up : Bool) (c : ℕ) → shifted up c 0 ≡ c
unfolding shifted
shifted_none true c = omega arith
shifted_none false c = omega arith

shifted_up : (up : Bool) (c w : ℕ) → up ≡ true → shifted up c w ≡ c + w
unfolding shifted
shifted_up up c w e = rw e

pub lowered_is : (c w : ℕ) → shifted false c w ≡ c - w
unfolding shifted
lowered_is c w = refl

-- ── references to a place, in two lists put together ──
count_append : (p : ℕ → Bool) (l m : List ℕ) → count p (l ++ m) ≡ count p l + count p m
count_append p [] m = omega arith
count_append p (a ∷ l) m = split (p a) (λ e. rw e (omega (arith, count_append p l m))) (λ e. rw e (count_append p l m))

module _ (own k x : ℕ) where
  held_append : (l m : List ℕ) → held own k x (l ++ m) ≡ held own k x l + held own k x m
  unfolding held
  held_append l m = split (eqb own k) (λ e. rw (e, held) (omega arith)) (λ e. rw (e, held) (count_append (eqb x) l m))

  held_nil : held own k x [] ≡ 0
  unfolding held
  held_nil = split (eqb own k) (λ e. rw (e, held)) (λ e. rw (e, held))

  held_own : (l : List ℕ) → eqb own k ≡ true → held own k x l ≡ 0
  unfolding held
  held_own l e = rw (e, held)

  held_other : (l : List ℕ) → eqb own k ≡ false → held own k x l ≡ count (eqb x) l
  unfolding held
  held_other l e = rw (e, held)

  held_no : (y : ℕ) → eqb x y ≡ false → held own k x (y ∷ []) ≡ 0
  held_no y e = split (eqb own k) (λ d. held_own (y ∷ []) d) (λ d. held_other (y ∷ []) d ∙ rw e)

  held_yes : (y : ℕ) → eqb own k ≡ false → x ≡ y → held own k x (y ∷ []) ≡ 1
  held_yes y d e = held_other (y ∷ []) d ∙ rw (eq-eqb x y e)

-- ── the counts part by part: what is still to be counted ──
module _ (up : Bool) (n : ℕ) (cells : List (List (List ℕ))) (own : ℕ) (keys entry : List ℕ) where
  abbrev weight : ℕ → List ℕ → ℕ
  weight k ks = held own k (key_in (get_or cells k [])) ks

  pub record Left (rest counts : List ℕ) : Type 0 where
    pub same : (k : ℕ) → k < n → shifted up (get_or counts k 0) (weight k rest) ≡ shifted up (get_or entry k 0) (weight k keys)

  pub left_start : (rest : List ℕ) → keys ≡ rest → Left rest entry
  left_start rest e = record { same = λ k h. ap (λ (l : List ℕ). shifted up (get_or entry k 0) (weight k l)) (sym e) }

  pub left_end : (rest counts : List ℕ) → rest ≡ [] → Left rest counts → Counted up n cells own keys entry counts
  left_end rest counts e w = record {
    counts = λ k h.
        sym (shifted_none up (get_or counts k 0))
        ∙ ap (shifted up (get_or counts k 0)) (sym (held_nil own k (key_in (get_or cells k []))))
        ∙ ap (λ (l : List ℕ). shifted up (get_or counts k 0) (weight k l)) (sym e)
        ∙ w.same k h;
  }

  module _ (rest here after counts : List ℕ) (e : rest ≡ here ++ after) (w : Left rest counts) where
    weight_on : (k : ℕ) → weight k rest ≡ weight k here + weight k after
    weight_on k = ap (weight k) e ∙ held_append own k (key_in (get_or cells k [])) here after

    pub left_on : (next : List ℕ) → Counted up n cells own here counts next → Left after next
    left_on next g = record {
      same = λ k h.
          ap (λ (x : ℕ). shifted up x (weight k after)) (g.counts k h)
          ∙ shifted_more up (get_or counts k 0) (weight k here) (weight k after)
          ∙ ap (shifted up (get_or counts k 0)) (sym (weight_on k))
          ∙ w.same k h;
    }

    pub room_on : Room up n cells own keys entry → Room up n cells own here counts
    room_on r = record {
      room = λ k h u.
          let m : get_or counts k 0 + weight k rest ≡ get_or entry k 0 + weight k keys = sym (shifted_up up (get_or counts k 0) (weight k rest) u) ∙ w.same k h ∙ shifted_up up (get_or entry k 0) (weight k keys) u in
          omega (arith, m, weight_on k, r.room k h u);
    }

-- no keys, nothing counted; and what is taken off needs no room
pub counted_nothing : (up : Bool) (n : ℕ) (cells : List (List (List ℕ))) (own : ℕ) (l : List ℕ) → Counted up n cells own [] l l
counted_nothing up n cells own l = left_end up n cells own [] l [] l refl (left_start up n cells own [] l [] refl)

pub room_down : (n : ℕ) (cells : List (List (List ℕ))) (own : ℕ) (keys l : List ℕ) → Room false n cells own keys l
room_down n cells own keys l = record { room = λ k h u. absurd (clash false u refl) }

-- ── the row that a key names ──
find_key : (k : ℕ) (rows : List Row) (r : Row) → find k rows ≡ Some r → key r ≡ k
find_key k [] r e = absurd (let z : ◌≡◌ {A = ℕ} 0 1 = cc in omega arith)
find_key k (x ∷ rows) r e = split (eqb k (key x))
    (λ p. let q : Some x ≡ Some r = rw p at e in let z : x ≡ r = cc in ap key (sym z) ∙ sym (eqb-true k (key x) p))
    (λ p. find_key k rows r (rw p at e))

at_same : (a b : ℕ) → Some a ≡ Some b → a ≡ b
at_same a b e = cc

not_at : (a : ℕ) → None ≡ Some a → ⊥
not_at a e = let z : ◌≡◌ {A = ℕ} 0 1 = cc in omega arith

module _ (n : ℕ) (cells : List (List (List ℕ))) (o : Ordered n cells) (x : ℕ) where
  abbrev rows : List Row
  rows = working [] n cells

  elsewhere : (f : Option ℕ) → place x rows ≡ f → (k : ℕ) → k < n → (f ≡ Some k → ⊥) → eqb (key_in (get_or cells k [])) x ≡ false
  elsewhere f e k h g = ne_eqb (key_in (get_or cells k [])) x (λ q. g (sym e ∙ ap (λ (y : ℕ). place y rows) (sym q) ∙ own_place n cells o [] k h))

  module _ (up : Bool) (own : ℕ) (l : List ℕ) where
    stays : (k : ℕ) → held own k (key_in (get_or cells k [])) (x ∷ []) ≡ 0 → get_or l k 0 ≡ shifted up (get_or l k 0) (held own k (key_in (get_or cells k [])) (x ∷ []))
    stays k e = sym (shifted_none up (get_or l k 0)) ∙ ap (shifted up (get_or l k 0)) (sym e)

    pub counted_none : place x rows ≡ None → Counted up n cells own (x ∷ []) l l
    counted_none p = record { counts = λ k h. stays k (held_no own k (key_in (get_or cells k [])) x (elsewhere None p k h (not_at k))) }

    pub counted_own : (i : ℕ) → place x rows ≡ Some i → i ≡ own → Counted up n cells own (x ∷ []) l l
    counted_own i p q = record {
      counts = λ k h. stays k (split (eqb own k)
          (λ e. held_own own k (key_in (get_or cells k [])) (x ∷ []) e)
          (λ e. held_no own k (key_in (get_or cells k [])) x (elsewhere (Some i) p k h (λ z. eqb-false own k e (sym q ∙ at_same i k z)))));
    }

    module _ (i : ℕ) (p : place x rows ≡ Some i) (q : i ≡ own → ⊥) where
      pub place_within : i < n
      place_within = omega (arith, (place_at x rows i p).within, working_length [] cells n o.there)

      its_key : key_in (get_or cells i []) ≡ x
      its_key =
          let d : Row = row_from [] [] in
          sym (ap key (working_at [] cells n o.there i d place_within) ∙ row_key [] (get_or cells i [])) ∙ find_key x rows (get_or rows i d) ((place_at x rows i p).find d)

      its_weight : held own i (key_in (get_or cells i [])) (x ∷ []) ≡ 1
      its_weight = held_yes own i (key_in (get_or cells i [])) x (ne_eqb own i (λ e. q (sym e))) its_key

      pub one_room : Room up n cells own (x ∷ []) l → up ≡ true → get_or l i 0 < most_count
      one_room r u = omega (arith, r.room i place_within u, its_weight)

      pub counted_one : n ≤ length l → (v : ℕ) → v ≡ shifted up (get_or l i 0) 1 → Counted up n cells own (x ∷ []) l (set l i v)
      counted_one b v e = record {
        counts = λ k h. split (eqb k i)
            (λ d. let z : k ≡ i = eqb-true k i d in rw z (get_or-set_same l i v 0 (omega (arith, place_within, b)) ∙ e ∙ ap (shifted up (get_or l i 0)) (sym its_weight)))
            (λ d. get_or-set_other l i k v 0 (eqb-false k i d) ∙ stays k (held_no own k (key_in (get_or cells k [])) x (elsewhere (Some i) p k h (λ z. eqb-false k i d (sym (at_same i k z))))));
      }

-- ── the keys of atoms, one after another ──
module _ (t : ℕ) (atoms : List (List ℕ)) (k : ℕ) where
  pub atoms_on : k < length atoms → keys_of (Some t) (drop k atoms) ≡ (key_of t (uuid_of (get_or atoms k [])) ∷ []) ++ keys_of (Some t) (drop (k + 1) atoms)
  atoms_on g = rw (drop-cons atoms k [] g, add-one k)

  pub atoms_end : length atoms ≤ k → keys_of (Some t) (drop k atoms) ≡ []
  atoms_end g = rw (drop_of_length-le atoms {i = k} g)

-- ── how many references there can be ──
count_few : (p : ℕ → Bool) (l : List ℕ) → count p l ≤ length l
count_few p [] = omega arith
count_few p (a ∷ l) = split (p a) (λ e. rw e (omega (arith, count_few p l))) (λ e. rw e (omega (arith, count_few p l)))

keys_few : (o : Option ℕ) (l : List (List ℕ)) → length (keys_of o l) ≤ length l
keys_few None l = omega arith
keys_few (Some t) l = omega (arith, length-map l (λ (a : List ℕ). key_of t (uuid_of a)))

few_elements : (c : ℕ) (cells : List (List ℕ)) → length (take c (take 4 cells)) ≤ 4
few_elements c cells = omega (arith, length-take c (take 4 cells), length-take 4 cells)

targets_few : (which : Refers → Option ℕ) (cs : List Column) (m : ℕ) (counts : List ℕ) (cells : List (List ℕ)) → length (targets which cs (columns_from m counts cells)) ≤ 4 * length cs
targets_few which [] m counts cells = omega arith
targets_few which (c ∷ cs) zero counts cells = omega arith
targets_few which (c ∷ cs) (suc m) counts cells =
    let l = take (get_or counts 0 0) (take 4 cells) in
    let rest = targets which cs (columns_from m (drop 1 counts) (drop 4 cells)) in
    omega (arith, length-append (keys_of (which c.refers) l) rest, keys_few (which c.refers) l, few_elements (get_or counts 0 0) cells, targets_few which cs m (drop 1 counts) (drop 4 cells))

module _ (s : Schema) (few : (t : ℕ) → length (columns_of s t) ≤ 6) (k : ℕ) where
  from_few : (q : Row) → from s k q ≤ length (strong_of s q)
  unfolding from
  from_few q = split (eqb (key q) k) (λ e. rw (e, from) (omega arith)) (λ e. rw (e, from) (count_few (eqb k) (strong_of s q)))

  strong_few : (cells : List (List ℕ)) → length (strong_of s (row_from s cells)) ≤ 24
  unfolding row_from
  strong_few cells =
      let t = get_or (get_or cells 0 []) 0 0 in
      omega (arith, targets_few strongly (columns_of s t) (length (columns_of s t)) (drop 17 (get_or cells 0 [])) (drop 1 cells), few t)

  refs_few : (l : List (List (List ℕ))) → refs s k (map (row_from s) l) ≤ 24 * length l
  refs_few [] = omega arith
  refs_few (r ∷ l) = omega (arith, from_few (row_from s r), strong_few r, refs_few l)

  pub working_few : (n : ℕ) (cells : List (List (List ℕ))) → n ≤ 32 → refs s k (working s n cells) ≤ 768
  unfolding working
  working_few n cells h = omega (arith, refs_few (take n cells), length-take n cells)

-- ── all rows ──
get_zeros : (m k : ℕ) → ◌≡◌ {A = ℕ} (get_or (replicate m 0) k 0) 0
get_zeros zero k = refl
get_zeros (suc m) zero = refl
get_zeros (suc m) (suc k) = get_zeros m k

module _ (s : Schema) (n : ℕ) (cells : List (List (List ℕ))) where
  abbrev key_at : ℕ → ℕ
  key_at k = key_in (get_or cells k [])

  abbrev strong_at : ℕ → List ℕ
  strong_at i = strong_of s (row_from s (get_or cells i []))

  -- the rows before place i are counted
  pub record Adding (i : ℕ) (counts : List ℕ) : Type 0 where
    pub same : (k : ℕ) → k < n → get_or counts k 0 + refs s (key_at k) (drop i (working s n cells)) ≡ refs s (key_at k) (working s n cells)

  pub adding_none : (counts : List ℕ) → counts ≡ replicate most_rows 0 → Adding 0 counts
  adding_none counts e = record { same = λ k h. let z : get_or counts k 0 ≡ 0 = ap (λ (l : List ℕ). get_or l k 0) e ∙ get_zeros 32 k in omega (arith, z) }

  pub adding_end : n ≤ length cells → (i : ℕ) (counts : List ℕ) → n ≤ i → Adding i counts → Tallied s n cells counts
  adding_end o i counts h w = record {
    counts = λ k g. let z : refs s (key_at k) (drop i (working s n cells)) ≡ 0 = ap (refs s (key_at k)) (working_end s cells n o i h) in omega (arith, w.same k g, z);
  }

  module _ (o : Ordered n cells) (i : ℕ) (h : i < n) where
    -- a different place is a different row
    pub held_from : (k : ℕ) → k < n → held i k (key_at k) (strong_at i) ≡ from s (key_at k) (row_from s (get_or cells i []))
    unfolding from
    held_from k g = split (eqb i k)
        (λ e.
        let z : i ≡ k = eqb-true i k e in
        let q : eqb (key (row_from s (get_or cells i []))) (key_at k) ≡ true = eq-eqb (key (row_from s (get_or cells i []))) (key_at k) (row_key s (get_or cells i []) ∙ ap key_at z) in
        held_own i k (key_at k) (strong_at i) e ∙ rw (q, from))
        (λ e.
        let d : eqb (key_at k) (key_at i) ≡ false = elsewhere n cells o (key_at i) (Some i) (own_place n cells o [] i h) k g (λ z. eqb-false i k e (at_same i k z)) in
        let q : eqb (key (row_from s (get_or cells i []))) (key_at k) ≡ false = ap (λ (y : ℕ). eqb y (key_at k)) (row_key s (get_or cells i [])) ∙ eqb_flip (key_at k) (key_at i) d in
        held_other i k (key_at k) (strong_at i) e ∙ rw (q, from))

    refs_on : (k : ℕ) → k < n → refs s (key_at k) (drop i (working s n cells)) ≡ held i k (key_at k) (strong_at i) + refs s (key_at k) (drop (i + 1) (working s n cells))
    refs_on k g = ap (refs s (key_at k)) (working_on s cells n o.there i h) ∙ ap (λ (w : ℕ). w + refs s (key_at k) (drop (i + 1) (working s n cells))) (sym (held_from k g))

    module _ (counts : List ℕ) (w : Adding i counts) where
      pub adding_room : n ≤ 32 → ((t : ℕ) → length (columns_of s t) ≤ 6) → Room true n cells i (strong_at i) counts
      adding_room m few = record { room = λ k g u. omega (arith, w.same k g, refs_on k g, working_few s few (key_at k) n cells m) }

      pub adding_on : (next : List ℕ) → Counted true n cells i (strong_at i) counts next → Adding (i + 1) next
      adding_on next c = record { same = λ k g. omega (arith, w.same k g, refs_on k g, c.counts k g, shifted_up true (get_or counts k 0) (held i k (key_at k) (strong_at i)) refl) }
