-- The calls of a store, by the tests that the code makes. Assumes nothing.
use Rattle.std.specs.Prelude.{Option, Some, None}
use mathlib.Core.Path.{◌≡◌, refl, sym, ap, ◌∙◌}
use mathlib.Core.Bool.{Bool, true, false, ◌&&◌}
use mathlib.Core.List.{List, ◌++◌, append-nil}
use Prim.Native.Nat.{ℕ, zero, suc, ◌-◌, ◌≤◌, ◌<◌}
use native.Mathlib.Omega.{arith}
use borrow.Author.Tests.{eq-eqb, ne_eqb, le-leb, lt-leb}
use lib.Dec.{eqb, leb}
use lib.ListN.{length, drop, replicate, drop_of_length-le}
use Rattle.model.specs.Limits.{store_bytes}
use Rattle.model.specs.Octets.{filled}
use Rattle.model.specs.Schema.{Database}
use Rattle.model.specs.SchemaText.{read_schema}
use Rattle.model.specs.Refusals.{number_of}
use Rattle.model.specs.Records.{mark, encode}
use Rattle.model.specs.Areas.{Store, encode_store, store_of}
use Rattle.model.specs.Catalog.{database_from}
use Rattle.area.specs.Layout.{row_count}
use Rattle.model.specs.Calls.{zeroed, Started, start_as, new_store, store_start, Marked, mark_on, store_mark}
use Rattle.inner.specs.Working.{working}
use Rattle.model.specs.declared.Status.{Status}
use Rattle.model.specs.declared.Status.TheVariants.{Accepted, Disordered, WrongLength, BadSchema}
use Rattle.model.specs.FirstRefusal.{store_start_number, mark_number}
use Rattle.model.proofs.Demand1.{store_start_first, mark_first}
use Rattle.model.proofs.StoreCalls.{filled_is}
use Rattle.area.specs.Writing.{number_in, store_in}
use Rattle.store.specs.GoodOrder.{run_in, Held}
use Rattle.record.specs.Kinds.{mark_of, mark_record}
use Rattle.record.specs.declared.Mark.{Mark}
use Rattle.record.specs.Writing.{Wrote}

-- ── starting ──
module _ (area schema : List ℕ) (run : ℕ) where
  -- an answer and an area are those of the call
  abbrev Starts : Status → List ℕ → Type 0
  Starts r after = (r ≡ (store_start area schema run).status) × (after ≡ (store_start area schema run).area)

  starts : (z : Started) → store_start area schema run ≡ z → Starts z.status z.area
  starts z e = (ap (λ (x : Started). x.status) (sym e), ap (λ (x : Started). x.area) (sym e))

  pub start_length : (length area ≡ store_bytes → ⊥) → Starts WrongLength area
  unfolding store_start
  start_length h = starts (record { status = WrongLength; area = area }) (rw (ne_eqb (length area) store_bytes h, start_as))

  module _ (size : length area ≡ store_bytes) where
    pub start_schema : read_schema schema ≡ None → Starts BadSchema area
    unfolding store_start
    start_schema h = starts (record { status = BadSchema; area = area }) (rw (eq-eqb (length area) store_bytes size, start_as, h))

    pub start_made : (d : Database) (cells : List (List (List ℕ))) (after : List ℕ) → read_schema schema ≡ Some d → after ≡ encode_store (store_in d run 0 0 cells) ++ drop store_bytes area → Starts Accepted after
    unfolding store_start store_in working
    start_made d cells after h w =
        let made = encode_store (new_store run d) in
        let z = starts (record { status = Accepted; area = made }) (rw (eq-eqb (length area) store_bytes size, start_as, h)) in
        (z.0, w ∙ ap (λ (l : List ℕ). made ++ l) (drop_of_length-le area {i = store_bytes} (omega arith)) ∙ append-nil made ∙ z.1)

-- ── the mark ──
drop_zeros : (n k : ℕ) → ◌≡◌ {A = List ℕ} (drop n (replicate k 0)) (replicate (k - n) 0)
drop_zeros zero k = let z : k - 0 ≡ k = omega arith in rw z
drop_zeros (suc n) zero = let z : 0 - suc n ≡ 0 = omega arith in rw z
drop_zeros (suc n) (suc k) = let z : suc k - suc n ≡ k - n = omega arith in rw z (drop_zeros n k)

module _ (area out : List ℕ) where
  abbrev Marks : Status → List ℕ → Type 0
  Marks r after = (r ≡ (store_mark area out).status) × (after ≡ (store_mark area out).mark)

  -- by the two tests of lengths
  picked : Bool → Bool → Marked
  picked p q = elim (p && (q && true)) [ true ↦ mark_on out (store_of area) | false ↦ record { status = WrongLength; mark = zeroed out } ]

  marked : (p q : Bool) → eqb (length area) store_bytes ≡ p → leb 9 (length out) ≡ q → store_mark area out ≡ picked p q
  unfolding store_mark picked
  marked p q e f = λ i. picked (e i) (f i)

  marks : (z : Marked) → store_mark area out ≡ z → Marks z.status z.mark
  marks z e = (ap (λ (x : Marked). x.status) (sym e), ap (λ (x : Marked). x.mark) (sym e))

  pub mark_length : (length area ≡ store_bytes → ⊥) → Marks WrongLength (replicate (length out) 0)
  unfolding picked
  mark_length h = marks (picked false true) (marked false (leb 9 (length out)) (ne_eqb (length area) store_bytes h) refl)

  module _ (size : length area ≡ store_bytes) where
    pub mark_short : length out < 9 → Marks WrongLength (replicate (length out) 0)
    unfolding picked
    mark_short h = marks (picked true false) (marked true false (eq-eqb (length area) store_bytes size) (lt-leb 9 (length out) h))

    module _ (long : 9 ≤ length out) where
      on : (o : Option Store) → store_of area ≡ o → store_mark area out ≡ mark_on out o
      unfolding picked
      on o e = marked true true (eq-eqb (length area) store_bytes size) (le-leb 9 (length out) long) ∙ ap (mark_on out) e

      pub mark_disordered : store_of area ≡ None → Marks Disordered (replicate (length out) 0)
      mark_disordered h = marks (mark_on out None) (on None h)

      pub mark_made : (cells : List (List ℕ)) (rows : List (List (List ℕ))) → Held area cells rows → (m : Mark) (run number : ℕ) → m ≡ mark_of run number → run ≡ run_in area → number ≡ number_in area
          → (before after : List ℕ) → before ≡ replicate (length out) 0 → Wrote (mark_record m) 9 before after → Marks Accepted after
      unfolding store_in
      mark_made cells rows k m run number p q r before after z w =
          let st = store_in (database_from cells) (run_in area) (number_in area) (row_count area) rows in
          let y = marks (mark_on out (Some st)) (on (Some st) k.store) in
          let b = encode (mark (run_in area) (number_in area)) in
          let same : encode (mark_record m) ≡ b = ap (λ (x : Mark). encode (mark_record x)) p ∙ (λ i. encode (mark (q i) (r i))) in
          let n : length b ≡ 9 = ap length (sym same) ∙ w.size in
          let f : filled (length out) b ≡ b ++ replicate (length out - 9) 0 = filled_is (length out) b (omega (arith, n)) ∙ ap (λ (x : ℕ). b ++ replicate (length out - x) 0) n in
          let g : drop 9 before ≡ replicate (length out - 9) 0 = ap (drop 9) z ∙ drop_zeros 9 (length out) in
          (y.0, w.bytes ∙ (λ i. same i ++ g i) ∙ sym f ∙ y.1)

-- ── the numbers of the answers ──
pub start_numbered : (area schema : List ℕ) (run : ℕ) {r : Status} {after : List ℕ} → Starts area schema run r after → (number_of r ≡ store_start_number area schema) × Starts area schema run r after
start_numbered area schema run z = (ap number_of z.0 ∙ store_start_first area schema run, z)

pub mark_numbered : (area out : List ℕ) {r : Status} {after : List ℕ} → (r ≡ (store_mark area out).status) × (after ≡ (store_mark area out).mark)
    → (number_of r ≡ mark_number area out) × ((r ≡ (store_mark area out).status) × (after ≡ (store_mark area out).mark))
mark_numbered area out z = (ap number_of z.0 ∙ mark_first area out, z)
