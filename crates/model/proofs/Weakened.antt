-- Weak references to absent rows removed: what that keeps, and that none is left. Assumes nothing.
use Rattle.std.specs.Prelude.{Some}
use mathlib.Core.Path.{◌≡◌, refl, sym, ◌∙◌, ap}
use mathlib.Core.Bool.{Bool, true, not, ◌&&◌}
use mathlib.Core.List.{List, [], ◌∷◌, map}
use Prim.Native.Nat.{ℕ, suc, ◌≤◌}
use native.Mathlib.Omega.{arith}
use borrow.Author.Tests.{le-leb, leb-true}
use lib.Dec.{eqb, leb}
use lib.ListN.{length}
use Rattle.model.specs.Base.{any, all, keep}
use Rattle.model.specs.Schema.{Refers, plain, strong, weak, Column, Schema, columns_of, is_root}
use Rattle.model.specs.Value.{Value, elements, value_of, uuid_of, canonical_for, atom_in_limits, meets}
use Rattle.model.specs.Rows.{Row, key_of, key, has, has_id}
use Rattle.model.proofs.Order.{Above, Sorted, Distinct, Typed, AllFine, Good, Meets, AllMeet}
use Rattle.model.specs.Commit.{keys_of, targets, strongly, weakly, strong_of, weak_of, all_found, loose, present, weaken_value, weaken_columns, weaken_row, enough, all_enough}
use Rattle.model.proofs.Tests.{split, and_l, and_r}
use Rattle.model.proofs.Lists.{all_head, all_tail, all_cons, all_append, all_keep, length_keep}
use Rattle.model.proofs.Within.{all_left, all_right, all_map, any_map, all_alike}
use Rattle.model.proofs.Sets.{atoms_keep, ascending_keep}
use Rattle.model.proofs.Collected.{holds}
use Rattle.model.proofs.Canonical.{elements_value_of, canonical, meets_parts, value_of_meets}

-- ── a column's value ──
-- fewer elements of a value that meets its type, if there are enough, meet it
fewer_meets : (c : Column) (p : List ℕ → Bool) (v : Value) → meets c v ≡ true → leb c.min (length (keep p (elements v))) ≡ true → meets c (value_of (keep p (elements v))) ≡ true
fewer_meets c p v h m =
    let q = meets_parts c v h in
    let d = canonical c v q.canonical in
    let n : length (keep p (elements v)) ≤ v.count = omega (arith, length_keep p (elements v), d.size) in
    let most : v.count ≤ c.max = leb-true v.count c.max (and_r (leb c.min v.count) (leb v.count c.max) q.count) in
    value_of_meets c (keep p (elements v)) (omega (arith, d.few)) (atoms_keep c.base p (elements v) d.atoms) (ascending_keep c.base p (elements v) d.up)
    (rw (m, le-leb (length (keep p (elements v))) c.max (omega arith)))
    (all_keep (atom_in_limits c c.base) p (elements v) q.within)

value_meets : (w : List Row) (f : Refers) (c : Column) (v : Value) → meets c v ≡ true → leb c.min (weaken_value w f v).count ≡ true → meets c (weaken_value w f v) ≡ true
value_meets w plain c v h m = h
value_meets w (strong t) c v h m = h
value_meets w (weak t) c v h m = fewer_meets c (present w t) v h m

keep_all : {A : Type 0} (p : A → Bool) (l : List A) → all p l ≡ true → keep p l ≡ l
keep_all p [] h = refl
keep_all p (a ∷ l) h = rw (all_head p a l h, keep_all p l (all_tail p a l h))

-- the keys of elements are there as the elements are
keys_all : (w : List Row) (t : ℕ) (l : List (List ℕ)) → all (λ (k : ℕ). has k w) (keys_of (Some t) l) ≡ all (present w t) l
keys_all w t l = all_map (λ (a : List ℕ). key_of t (uuid_of a)) (λ (k : ℕ). has k w) (present w t) (λ a. refl) l

keep_passes : {A : Type 0} (p : A → Bool) (l : List A) → all p (keep p l) ≡ true
keep_passes p [] = refl
keep_passes p (a ∷ l) = split (p a) (λ e. rw (e, e, keep_passes p l)) (λ e. rw e (keep_passes p l))

-- ── a row's columns ──
module _ (w : List Row) where
  columns_meet : (cs : List Column) (vs : List Value) → Meets cs vs → enough cs (weaken_columns w cs vs) ≡ true → Meets cs (weaken_columns w cs vs)
  columns_meet [] [] h e = tt
  columns_meet [] (v ∷ vs) h e = h
  columns_meet (c ∷ cs) [] h e = h
  columns_meet (c ∷ cs) (v ∷ vs) h e =
      let t = leb c.min (weaken_value w c.refers v).count in
      let u = enough cs (weaken_columns w cs vs) in
      (value_meets w c.refers c v h.0 (and_l t u e), columns_meet cs vs h.1 (and_r t u e))

  value_strong : (f : Refers) (v : Value) → keys_of (strongly f) (elements (weaken_value w f v)) ≡ keys_of (strongly f) (elements v)
  value_strong plain v = refl
  value_strong (strong t) v = refl
  value_strong (weak t) v = refl

  columns_strong : (cs : List Column) (vs : List Value) → targets strongly cs (weaken_columns w cs vs) ≡ targets strongly cs vs
  columns_strong [] vs = refl
  columns_strong (c ∷ cs) [] = refl
  columns_strong (c ∷ cs) (v ∷ vs) = rw (value_strong c.refers v, columns_strong cs vs)

  value_weak : (f : Refers) (v : Value) → all (λ (k : ℕ). has k w) (keys_of (weakly f) (elements (weaken_value w f v))) ≡ true
  value_weak plain v = refl
  value_weak (strong t) v = refl
  value_weak (weak t) v = rw (elements_value_of (keep (present w t) (elements v))) (keys_all w t (keep (present w t) (elements v)) ∙ keep_passes (present w t) (elements v))

  columns_weak : (cs : List Column) (vs : List Value) → all (λ (k : ℕ). has k w) (targets weakly cs (weaken_columns w cs vs)) ≡ true
  columns_weak [] vs = refl
  columns_weak (c ∷ cs) [] = refl
  columns_weak (c ∷ cs) (v ∷ vs) = all_append (λ (k : ℕ). has k w) (keys_of (weakly c.refers) (elements (weaken_value w c.refers v))) (targets weakly cs (weaken_columns w cs vs)) (value_weak c.refers v) (columns_weak cs vs)

  -- where every weak reference is there, nothing changes
  value_settled : (f : Refers) (c : Column) (v : Value) → canonical_for c v ≡ true → all (λ (k : ℕ). has k w) (keys_of (weakly f) (elements v)) ≡ true → weaken_value w f v ≡ v
  value_settled plain c v h e = refl
  value_settled (strong t) c v h e = refl
  value_settled (weak t) c v h e = ap value_of (keep_all (present w t) (elements v) (sym (keys_all w t (elements v)) ∙ e)) ∙ (canonical c v h).same

  columns_settled : (cs : List Column) (vs : List Value) → Typed cs vs → all (λ (k : ℕ). has k w) (targets weakly cs vs) ≡ true → weaken_columns w cs vs ≡ vs
  columns_settled [] vs h e = refl
  columns_settled (c ∷ cs) [] h e = refl
  columns_settled (c ∷ cs) (v ∷ vs) h e =
      let l : List ℕ = keys_of (weakly c.refers) (elements v) in
      let m : List ℕ = targets weakly cs vs in
      rw (value_settled c.refers c v h.0 (all_left (λ (k : ℕ). has k w) l m e), columns_settled cs vs h.1 (all_right (λ (k : ℕ). has k w) l m e))

meets_typed : (cs : List Column) (vs : List Value) → Meets cs vs → Typed cs vs
meets_typed [] [] h = tt
meets_typed [] (v ∷ vs) h = h
meets_typed (c ∷ cs) [] h = h
meets_typed (c ∷ cs) (v ∷ vs) h = ((meets_parts c v h.0).canonical, meets_typed cs vs h.1)

-- ── the rows: a row keeps its table and id, and so its key ──
module _ (s : Schema) (w : List Row) where
  abbrev pub weakened : List Row → List Row
  weakened rows = map (weaken_row s w) rows

  weaken_above : (k : ℕ) (rows : List Row) → Above k rows → Above k (weakened rows)
  weaken_above k [] h = tt
  weaken_above k (r ∷ rs) h = (h.0, weaken_above k rs h.1)

  weaken_sorted : (rows : List Row) → Sorted rows → Sorted (weakened rows)
  weaken_sorted [] h = tt
  weaken_sorted (r ∷ rs) h = (weaken_above (key r) rs h.0, weaken_sorted rs h.1)

  pub weaken_ids : (i : ℕ) (rows : List Row) → has_id i (weakened rows) ≡ has_id i rows
  weaken_ids i [] = refl
  weaken_ids i (r ∷ rs) = rw (weaken_ids i rs)

  pub weaken_has : (k : ℕ) (rows : List Row) → has k (weakened rows) ≡ has k rows
  weaken_has k [] = refl
  weaken_has k (r ∷ rs) = rw (weaken_has k rs)

  weaken_distinct : (rows : List Row) → Distinct rows → Distinct (weakened rows)
  weaken_distinct [] h = tt
  weaken_distinct (r ∷ rs) h = (weaken_ids r.id rs ∙ h.0, weaken_distinct rs h.1)

  weaken_length : (rows : List Row) → length (weakened rows) ≡ length rows
  weaken_length [] = refl
  weaken_length (r ∷ rs) = ap suc (weaken_length rs)

  pub weaken_meet : (rows : List Row) → AllMeet s rows → all_enough s (weakened rows) ≡ true → AllMeet s (weakened rows)
  weaken_meet [] h e = tt
  weaken_meet (r ∷ rs) h e =
      let t = enough (columns_of s r.table) (weaken_columns w (columns_of s r.table) r.columns) in
      let u = all_enough s (weakened rs) in
      (columns_meet w (columns_of s r.table) r.columns h.0 (and_l t u e), weaken_meet rs h.1 (and_r t u e))

  weaken_fine : (rows : List Row) → AllFine s rows → AllMeet s (weakened rows) → AllFine s (weakened rows)
  weaken_fine [] h m = tt
  weaken_fine (r ∷ rs) h m = (
    record { here = h.0.here; short = h.0.short; typed = meets_typed (columns_of s r.table) (weaken_columns w (columns_of s r.table) r.columns) m.0 },
    weaken_fine rs h.1 m.1,
  )

  pub weaken_good : (rows : List Row) → Good s rows → AllMeet s (weakened rows) → Good s (weakened rows)
  weaken_good rows g m = record {
    sorted = weaken_sorted rows g.sorted;
    distinct = weaken_distinct rows g.distinct;
    fine = weaken_fine rows g.fine m;
    few = rw (weaken_length rows) g.few;
  }

  -- strong references and loose rows stay as they were, and every weak reference is there
  weaken_strong : (r : Row) → strong_of s (weaken_row s w r) ≡ strong_of s r
  weaken_strong r = columns_strong w (columns_of s r.table) r.columns

  pub weaken_found : (rows : List Row) → all_found s (weakened rows) ≡ all_found s rows
  weaken_found rows = all_map (weaken_row s w) (λ (r : Row). all (λ (k : ℕ). has k (weakened rows)) (strong_of s r)) (λ (r : Row). all (λ (k : ℕ). has k rows) (strong_of s r))
      (λ r. ap (all (λ (k : ℕ). has k (weakened rows))) (weaken_strong r) ∙ all_alike (λ (k : ℕ). has k (weakened rows)) (λ (k : ℕ). has k rows) (λ k. weaken_has k rows) (strong_of s r)) rows

  weaken_holds : (rows : List Row) (k : ℕ) → any (holds s k) (weakened rows) ≡ any (holds s k) rows
  weaken_holds rows k = any_map (weaken_row s w) (holds s k) (holds s k) (λ q. ap (λ (l : List ℕ). not (eqb (key q) k) && any (eqb k) l) (weaken_strong q)) rows

  pub weaken_loose : (rows : List Row) → any (loose s (weakened rows)) (weakened rows) ≡ any (loose s rows) rows
  weaken_loose rows = any_map (weaken_row s w) (loose s (weakened rows)) (loose s rows) (λ r. ap (λ (b : Bool). not (is_root s r.table) && not b) (weaken_holds rows (key r))) rows

  pub weaken_there : (rows : List Row) → all (λ (r : Row). all (λ (k : ℕ). has k w) (weak_of s r)) (weakened rows) ≡ true
  weaken_there [] = refl
  weaken_there (r ∷ rs) = all_cons (λ (r : Row). all (λ (k : ℕ). has k w) (weak_of s r)) (weaken_row s w r) (weakened rs) (columns_weak w (columns_of s r.table) r.columns) (weaken_there rs)

  -- where every weak reference is there, nothing changes
  pub weaken_settled : (rows : List Row) → AllFine s rows → all (λ (r : Row). all (λ (k : ℕ). has k w) (weak_of s r)) rows ≡ true → weakened rows ≡ rows
  weaken_settled [] h e = refl
  weaken_settled (r ∷ rs) h e =
      let q : Row → Bool = λ (r : Row). all (λ (k : ℕ). has k w) (weak_of s r) in
      let c : weaken_columns w (columns_of s r.table) r.columns ≡ r.columns = columns_settled w (columns_of s r.table) r.columns h.0.typed (all_head q r rs e) in
      let x : weaken_row s w r ≡ r = λ i. record { table = r.table; id = r.id; columns = c i } in
      cc (x, weaken_settled rs h.1 (all_tail q r rs e))
