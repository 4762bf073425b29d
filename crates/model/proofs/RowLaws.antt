-- Rows of a store with some left out, one put in, or each changed by itself keep what holds of them. Assumes nothing.
use mathlib.Core.Path.{◌≡◌, refl, ◌∙◌, ap}
use mathlib.Core.Bool.{Bool, false}
use mathlib.Core.List.{List, [], ◌∷◌}
use Prim.Native.Nat.{ℕ, suc, ◌<◌}
use native.Mathlib.Omega.{arith}
use lib.Dec.{eqb, ltb}
use lib.ListN.{length}
use Rattle.model.specs.Base.{keep}
use Rattle.model.specs.Schema.{Column, Schema, columns_of}
use Rattle.model.specs.Value.{Value}
use Rattle.model.specs.Rows.{Row, key, has_id, add}
use Rattle.model.proofs.Order.{Above, Sorted, Distinct, Typed, Fine, AllFine, Good, Meets, AllMeet}
use Rattle.model.proofs.Tests.{split, or_l, or_r}
use Rattle.model.proofs.Lists.{length_keep}
use Rattle.model.proofs.Canonical.{meets_parts}
use Rattle.model.proofs.StepLaws.{Stays}
use Rattle.model.proofs.Kept.{add_ids, add_good}

-- what an operation with the fresh id i leaves: rows that are in order, whose values meet their types, and that have no new id but i
pub record Keeps (s : Schema) (i : ℕ) (rows after : List Row) : Type 0 where
  pub good : Good s after
  pub meet : AllMeet s after
  pub ids : (j : ℕ) → has_id j rows ≡ false → eqb j i ≡ false → has_id j after ≡ false

-- values that meet their types are canonical
pub meets_typed : (cs : List Column) (vs : List Value) → Meets cs vs → Typed cs vs
meets_typed [] [] h = tt
meets_typed [] (v ∷ vs) h = h
meets_typed (c ∷ cs) [] h = h
meets_typed (c ∷ cs) (v ∷ vs) h = ((meets_parts c v h.0).canonical, meets_typed cs vs h.1)

pub same_keeps : (s : Schema) (i : ℕ) (rows : List Row) → Good s rows → AllMeet s rows → Keeps s i rows rows
same_keeps s i rows g m = record { good = g; meet = m; ids = λ j h e. h }

-- ── some rows kept ──
module _ (p : Row → Bool) where
  keep_above : (k : ℕ) (rows : List Row) → Above k rows → Above k (keep p rows)
  keep_above k [] h = tt
  keep_above k (r ∷ rs) h = split (p r) (λ e. rw e (h.0, keep_above k rs h.1)) (λ e. rw e (keep_above k rs h.1))

  keep_sorted : (rows : List Row) → Sorted rows → Sorted (keep p rows)
  keep_sorted [] h = tt
  keep_sorted (r ∷ rs) h = split (p r) (λ e. rw e (keep_above (key r) rs h.0, keep_sorted rs h.1)) (λ e. rw e (keep_sorted rs h.1))

  keep_ids : (i : ℕ) (rows : List Row) → has_id i rows ≡ false → has_id i (keep p rows) ≡ false
  keep_ids i [] h = refl
  keep_ids i (r ∷ rs) h =
      let l = or_l (eqb i r.id) (has_id i rs) h in
      let m = or_r (eqb i r.id) (has_id i rs) h in
      split (p r) (λ e. rw (e, l) (keep_ids i rs m)) (λ e. rw e (keep_ids i rs m))

  keep_distinct : (rows : List Row) → Distinct rows → Distinct (keep p rows)
  keep_distinct [] h = tt
  keep_distinct (r ∷ rs) h = split (p r) (λ e. rw e (keep_ids r.id rs h.0, keep_distinct rs h.1)) (λ e. rw e (keep_distinct rs h.1))

  keep_fine : (s : Schema) (rows : List Row) → AllFine s rows → AllFine s (keep p rows)
  keep_fine s [] h = tt
  keep_fine s (r ∷ rs) h = split (p r) (λ e. rw e (h.0, keep_fine s rs h.1)) (λ e. rw e (keep_fine s rs h.1))

  keep_meet : (s : Schema) (rows : List Row) → AllMeet s rows → AllMeet s (keep p rows)
  keep_meet s [] h = tt
  keep_meet s (r ∷ rs) h = split (p r) (λ e. rw e (h.0, keep_meet s rs h.1)) (λ e. rw e (keep_meet s rs h.1))

  pub keep_keeps : (s : Schema) (i : ℕ) (rows : List Row) → Good s rows → AllMeet s rows → Keeps s i rows (keep p rows)
  keep_keeps s i rows g m =
      record {
        good = record { sorted = keep_sorted rows g.sorted; distinct = keep_distinct rows g.distinct; fine = keep_fine s rows g.fine; few = omega (arith, length_keep p rows, g.few) };
        meet = keep_meet s rows m;
        ids = λ j h e. keep_ids j rows h;
      }

-- ── a row put in ──
add_meet : (s : Schema) (r : Row) (rows : List Row) → Meets (columns_of s r.table) r.columns → AllMeet s rows → AllMeet s (add r rows)
add_meet s r [] f h = (f, tt)
add_meet s r (x ∷ rows) f h = split (ltb (key r) (key x)) (λ e. rw e (f, h)) (λ e. rw e (h.0, add_meet s r rows f h.1))

pub add_keeps : (s : Schema) (r : Row) (rows : List Row) → Fine s r → Meets (columns_of s r.table) r.columns → has_id r.id rows ≡ false → length rows < 32
    → Good s rows → AllMeet s rows → Keeps s r.id rows (add r rows)
add_keeps s r rows f v n l g m =
    record {
      good = add_good s r rows f n l g;
      meet = add_meet s r rows v m;
      ids = λ j h e. add_ids j r rows e h;
    }

-- ── each row by itself ──
-- rows that stay where they are, each with values that meet their types
abbrev pub AllStay : Schema → List Row → List Row → Type 0
AllStay s [] [] = Unit
AllStay s [] (q ∷ qs) = ⊥
AllStay s (r ∷ rs) [] = ⊥
AllStay s (r ∷ rs) (q ∷ qs) = Stays (columns_of s r.table) r q × AllStay s rs qs

module _ (s : Schema) where
  stay_above : (k : ℕ) (rs qs : List Row) → AllStay s rs qs → Above k rs → Above k qs
  stay_above k [] [] h a = tt
  stay_above k [] (q ∷ qs) h a = absurd h
  stay_above k (r ∷ rs) [] h a = tt
  stay_above k (r ∷ rs) (q ∷ qs) h a = (rw (h.0.table, h.0.id) a.0, stay_above k rs qs h.1 a.1)

  stay_sorted : (rs qs : List Row) → AllStay s rs qs → Sorted rs → Sorted qs
  stay_sorted [] [] h o = tt
  stay_sorted [] (q ∷ qs) h o = absurd h
  stay_sorted (r ∷ rs) [] h o = tt
  stay_sorted (r ∷ rs) (q ∷ qs) h o = (rw (h.0.table, h.0.id) (stay_above (key r) rs qs h.1 o.0), stay_sorted rs qs h.1 o.1)

  stay_ids : (i : ℕ) (rs qs : List Row) → AllStay s rs qs → has_id i qs ≡ has_id i rs
  stay_ids i [] [] h = refl
  stay_ids i [] (q ∷ qs) h = absurd h
  stay_ids i (r ∷ rs) [] h = absurd h
  stay_ids i (r ∷ rs) (q ∷ qs) h = rw (h.0.id, stay_ids i rs qs h.1)

  stay_distinct : (rs qs : List Row) → AllStay s rs qs → Distinct rs → Distinct qs
  stay_distinct [] [] h d = tt
  stay_distinct [] (q ∷ qs) h d = absurd h
  stay_distinct (r ∷ rs) [] h d = tt
  stay_distinct (r ∷ rs) (q ∷ qs) h d = (rw h.0.id (stay_ids r.id rs qs h.1 ∙ d.0), stay_distinct rs qs h.1 d.1)

  stay_length : (rs qs : List Row) → AllStay s rs qs → length qs ≡ length rs
  stay_length [] [] h = refl
  stay_length [] (q ∷ qs) h = absurd h
  stay_length (r ∷ rs) [] h = absurd h
  stay_length (r ∷ rs) (q ∷ qs) h = ap suc (stay_length rs qs h.1)

  stay_meet : (rs qs : List Row) → AllStay s rs qs → AllMeet s qs
  stay_meet [] [] h = tt
  stay_meet [] (q ∷ qs) h = absurd h
  stay_meet (r ∷ rs) [] h = absurd h
  stay_meet (r ∷ rs) (q ∷ qs) h = (rw h.0.table h.0.meets, stay_meet rs qs h.1)

  stay_fine : (rs qs : List Row) → AllStay s rs qs → AllFine s rs → AllFine s qs
  stay_fine [] [] h f = tt
  stay_fine [] (q ∷ qs) h f = absurd h
  stay_fine (r ∷ rs) [] h f = absurd h
  stay_fine (r ∷ rs) (q ∷ qs) h f = (
    record {
      here = rw (h.0.table, h.0.id) f.0.here;
      short = rw h.0.id f.0.short;
      typed = rw h.0.table (meets_typed (columns_of s r.table) q.columns h.0.meets);
    },
    stay_fine rs qs h.1 f.1,
  )

  pub stay_keeps : (i : ℕ) (rows after : List Row) → Good s rows → AllStay s rows after → Keeps s i rows after
  stay_keeps i rows after g h =
      record {
        good = record { sorted = stay_sorted rows after h g.sorted; distinct = stay_distinct rows after h g.distinct; fine = stay_fine rows after h g.fine; few = omega (arith, stay_length rows after h, g.few) };
        meet = stay_meet rows after h;
        ids = λ j n e. stay_ids j rows after h ∙ n;
      }
