-- What an arrival leaves in a mirror's area. Assumes nothing.
use Rattle.std.specs.Prelude.{Option, Some, None}
use mathlib.Core.Path.{◌≡◌, refl, sym, ap, ◌∙◌, subst}
use mathlib.Core.Bool.{Bool, true, false, not, ◌&&◌}
use mathlib.Core.List.{List}
use Prim.Native.Nat.{ℕ, ◌^◌, ◌≤◌, max}
use native.Mathlib.Omega.{arith}
use borrow.Author.Tests.{eqb-true, eqb-false, lt-ltb, not-true, not-false}
use lib.Dec.{eqb}
use lib.ListN.{length, take}
use Rattle.model.specs.Limits.{store_bytes, mirror_bytes, count_offset}
use Rattle.model.specs.Octets.{big, value, part}
use Rattle.model.specs.Base.{all}
use Rattle.model.specs.Schema.{Schema}
use Rattle.model.specs.Catalog as packed
use Rattle.model.specs.Records.{Record, decode}
use Rattle.model.specs.Mirror.{Mirror, Step, hears, step}
use Rattle.model.specs.Areas.{decode_store, MirrorState, store_part, encode_mirror, decode_mirror, head_tests, mirror_of}
use Rattle.inner.specs.Working.{working, Tidy}
use Rattle.model.proofs.Order.{Good}
use Rattle.model.specs.Calls.{Arrived, mirror_after, hear_on, mirror_hear}
use Rattle.model.specs.declared.Status.TheVariants.{Disordered, WrongLength}
use Rattle.model.proofs.Tests.{and_l, and_r, whole}
use Rattle.model.proofs.TextUtf8.{by_test}
use Rattle.model.proofs.Octets.{octet}
use Rattle.model.proofs.GoodOrder.{of_good}
use Rattle.model.proofs.Arrivals.{Said, unread, strange_mark, marked, unfit, strange, again, next, early, said}
use Rattle.model.proofs.Areas.{Fits, pass_fits, mirror_of_is}
use Rattle.model.proofs.States.{MirrorFine, mirror_parts, number_lt, step_fine, hear_answer, hear_area}
use Rattle.area.specs.Layout.{row_count}
use Rattle.area.specs.Writing.{tail_bytes, placed, rows_part}
use Rattle.area.proofs.Writes.{rows_are, with_mirror, mirror_put, own_put}
use Rattle.arrival.specs.Steps.{step_of, Stepped}
use Rattle.arrival.specs.Steps as steps
use Rattle.arrival.specs.declared.Outcome.{Outcome}
use Rattle.arrival.specs.declared.Numbers.{Numbers}
use Rattle.mirror.specs.Held.{Held, numbers_in, rewritten}
use Rattle.mirror.proofs.Asking.{numbers_are}

-- ── what stays ──
heard_same : (m : Mirror) (k : ℕ) → max m.top k ≡ m.top → not m.heard ≡ false → hears m k ≡ m
heard_same m k t h = let e : true ≡ m.heard = sym (not-false m.heard h) in λ j. record { rows = m.rows; n = m.n; top = t j; heard = e j; whole = m.whole }

module _ {s : Schema} {run : ℕ} {m : Mirror} where
  -- where n stays the rows do
  rows_stay : {o : Option Record} {x : Step} → Said s run m o x → x.next.n ≡ m.n → x.next.rows ≡ m.rows
  rows_stay unread h = refl
  rows_stay (strange_mark u k p) h = refl
  rows_stay (marked u k r) h = refl
  rows_stay (unfit u k e p) h = refl
  rows_stay (strange u k e p) h = refl
  rows_stay (again u k e r z p) h = refl
  rows_stay (next u k e b r p) h = absurd (omega arith)
  rows_stay (early u k e r p) h = refl

  -- and where the highest heard does too, and nothing was heard for the first time, all of it does
  all_stay : {o : Option Record} {x : Step} → Said s run m o x → x.next.n ≡ m.n → x.next.top ≡ m.top → (x.next.heard && not m.heard) ≡ false → x.next ≡ m
  all_stay unread h t g = refl
  all_stay (strange_mark u k p) h t g = refl
  all_stay (marked u k r) h t g = heard_same m k t g
  all_stay (unfit u k e p) h t g = refl
  all_stay (strange u k e p) h t g = refl
  all_stay (again u k e r z p) h t g = refl
  all_stay (next u k e b r p) h t g = absurd (omega arith)
  all_stay (early u k e r p) h t g = heard_same m k t g

fine_fits : (m : MirrorState) → MirrorFine m → Fits (store_part m)
fine_fits m f =
    pass_fits (store_part m) (whole (head_tests (store_part m)) (f.accepted, (lt-ltb m.run (256 ^ 4) f.run, (lt-ltb m.mirror.n (256 ^ 4) f.n, tt)))) (of_good m.database.tables m.mirror.rows f.rows)

-- ── an area in good order, and what an arrival left of its rows ──
module _ (a x : List ℕ) (schema : List (List ℕ)) (cells exit : List (List (List ℕ))) (r : Outcome) (state : mirror_of a ≡ Some (decode_mirror a)) (h : Held a schema cells)
    (st : Stepped schema (value (part 0 4 a)) (numbers_in a) x (row_count a) cells exit r) (bytes : all octet x ≡ true) (room : 32 ≤ length exit) where
  abbrev m : MirrorState
  m = decode_mirror a

  abbrev after : Step
  after = step m.database.tables m.run m.mirror x

  -- the mirror that the code has afterwards
  abbrev got : Mirror
  got = steps.mirror_of r.numbers (working (packed.packed_tables schema) r.count exit)

  was_is : steps.mirror_of (numbers_in a) (working (packed.packed_tables schema) (row_count a) cells) ≡ m.mirror
  was_is = ap (steps.mirror_of (numbers_in a)) h.rows ∙ numbers_are a

  step_is : step_of (packed.packed_tables schema) (value (part 0 4 a)) (steps.mirror_of (numbers_in a) (working (packed.packed_tables schema) (row_count a) cells)) x ≡ after
  unfolding step_of decode_mirror decode_store
  step_is = λ j. step (h.tables j) (value (part 0 4 a)) (was_is j) x

  got_is : got ≡ after.next
  got_is = st.next ∙ ap (λ (y : Step). y.next) step_is

  fine : MirrorFine m
  fine = mirror_parts m (mirror_of_is a m state).1

  fits : Fits (store_part m)
  fits = fine_fits m fine

  fits_after : Fits (store_part (with_mirror got m))
  fits_after = subst (λ (y : Mirror). Fits (store_part (with_mirror y m))) (sym got_is) (fine_fits (mirror_after m after.next) (step_fine m fine x (number_lt x bytes)))

  view : Said m.database.tables m.run m.mirror (decode x) after
  view = said m.database.tables m.run m.mirror (decode x)

  tidy : Tidy (packed.packed_tables schema) (take r.count exit)
  unfolding decode_mirror decode_store
  tidy =
      let g : Good (packed.packed_tables schema) (working (packed.packed_tables schema) (row_count a) cells) = rw (h.rows, h.tables) fine.rows in
      st.tidy g h.tidy

  was_n : (numbers_in a).n ≡ m.mirror.n
  was_n = ap (λ (y : Mirror). y.n) (numbers_are a)

  was_top : (numbers_in a).top ≡ m.mirror.top
  was_top = ap (λ (y : Mirror). y.top) (numbers_are a)

  was_heard : (numbers_in a).heard ≡ m.mirror.heard
  was_heard = ap (λ (y : Mirror). y.heard) (numbers_are a)

  encoded : encode_mirror m ≡ a
  encoded = (mirror_of_is a m state).0

  -- what is written is the encoding of that mirror
  module _ (n : r.numbers.n ≡ (numbers_in a).n) where
    n_stays : after.next.n ≡ m.mirror.n
    n_stays = ap (λ (y : Mirror). y.n) (sym got_is) ∙ n ∙ was_n

    rows_still : got.rows ≡ m.mirror.rows
    rows_still = ap (λ (y : Mirror). y.rows) got_is ∙ rows_stay view n_stays

    written_none : r.numbers.top ≡ (numbers_in a).top → (r.numbers.heard && not (numbers_in a).heard) ≡ false → a ≡ encode_mirror (with_mirror got m)
    written_none t g =
        let e : got ≡ m.mirror =
        got_is ∙ all_stay view n_stays (ap (λ (y : Mirror). y.top) (sym got_is) ∙ t ∙ was_top)
        ((λ j. ap (λ (y : Mirror). y.heard) (sym got_is) j && not (sym was_heard j)) ∙ g) in
        sym encoded ∙ ap (λ (y : Mirror). encode_mirror (with_mirror y m)) (sym e)

    written_own : placed store_bytes 6 (tail_bytes r.numbers.top r.numbers.heard r.numbers.whole) a ≡ encode_mirror (with_mirror got m)
    written_own = ap (placed store_bytes 6 (tail_bytes r.numbers.top r.numbers.heard r.numbers.whole)) (sym encoded) ∙ own_put m fits got fits_after (n ∙ was_n) rows_still

  written_all : placed store_bytes 6 (tail_bytes r.numbers.top r.numbers.heard r.numbers.whole) (placed count_offset 20001 (rows_part r.count exit) (placed 4 4 (big 4 r.numbers.n) a)) ≡ encode_mirror (with_mirror got m)
  written_all =
      let p = rows_are (packed.packed_tables schema) exit r.count (omega (arith, st.few)) tidy in
      (λ j. placed store_bytes 6 (tail_bytes r.numbers.top r.numbers.heard r.numbers.whole) (placed count_offset 20001 (p j) (placed 4 4 (big 4 r.numbers.n) (sym encoded j)))) ∙ mirror_put m fits got fits_after

  written : rewritten (numbers_in a) r.numbers r.count exit a ≡ encode_mirror (with_mirror got m)
  unfolding rewritten
  written =
      let t : Bool = eqb r.numbers.top (numbers_in a).top in
      let g : Bool = r.numbers.heard && not (numbers_in a).heard in
      by_test (λ (z : List ℕ). z ≡ encode_mirror (with_mirror got m)) (eqb r.numbers.n (numbers_in a).n)
      (λ e.
      let n = eqb-true r.numbers.n (numbers_in a).n e in
      by_test (λ (z : List ℕ). z ≡ encode_mirror (with_mirror got m)) (t && not g)
      (λ q. written_none n (eqb-true r.numbers.top (numbers_in a).top (and_l t (not g) q)) (not-true g (and_r t (not g) q)))
      (λ q. written_own n))
      (λ e. written_all)

  -- the arrival's answer and area
  pub hear_is : mirror_hear a x ≡ record { status = r.status; area = rewritten (numbers_in a) r.numbers r.count exit a }
  hear_is =
      let p : (mirror_hear a x).status ≡ r.status =
      ap (λ (y : List ℕ). (mirror_hear y x).status) (sym encoded) ∙ hear_answer m fine x ∙ sym (st.status ∙ ap (λ (y : Step). y.status) step_is) in
      let q : (mirror_hear a x).area ≡ rewritten (numbers_in a) r.numbers r.count exit a =
      ap (λ (y : List ℕ). (mirror_hear y x).area) (sym encoded) ∙ hear_area m fine x ∙ ap (λ (y : Mirror). encode_mirror (with_mirror y m)) (sym got_is) ∙ sym written in
      λ j. record { status = p j; area = q j }

-- the same, with what the code read of the area
pub hear_got : (a x : List ℕ) (schema : List (List ℕ)) (cells exit : List (List (List ℕ))) (r : Outcome) (run : ℕ) (was : Numbers) (count : ℕ) → run ≡ value (part 0 4 a) → was ≡ numbers_in a → count ≡ row_count a
    → mirror_of a ≡ Some (decode_mirror a) → Held a schema cells → Stepped schema run was x count cells exit r → all octet x ≡ true → 32 ≤ length exit
    → (after : List ℕ) → after ≡ rewritten was r.numbers r.count exit a → mirror_hear a x ≡ record { status = r.status; area = after }
hear_got a x schema cells exit r run was count u w k state h st bytes room after e =
    let s : Stepped schema (value (part 0 4 a)) (numbers_in a) x (row_count a) cells exit r =
    subst (λ (n : ℕ). Stepped schema (value (part 0 4 a)) (numbers_in a) x n cells exit r) k
    (subst (λ (m : Numbers). Stepped schema (value (part 0 4 a)) m x count cells exit r) w (subst (λ (n : ℕ). Stepped schema n was x count cells exit r) u st)) in
    hear_is a x schema cells exit r state h s bytes room
    ∙ ap (λ (l : List ℕ). record { status = r.status; area = l }) (sym (e ∙ ap (λ (m : Numbers). rewritten m r.numbers r.count exit a) w))

-- ── an area that is refused ──
module _ (a x : List ℕ) where
  pub hear_other : (length a ≡ mirror_bytes → ⊥) → mirror_hear a x ≡ record { status = WrongLength; area = a }
  unfolding mirror_hear
  hear_other h = by_test (λ (z : Arrived). z ≡ record { status = WrongLength; area = a }) (eqb (length a) mirror_bytes) (λ e. absurd (h (eqb-true (length a) mirror_bytes e))) (λ e. refl)

  pub hear_bad : length a ≡ mirror_bytes → mirror_of a ≡ None → mirror_hear a x ≡ record { status = Disordered; area = a }
  unfolding mirror_hear
  hear_bad h n = by_test (λ (z : Arrived). z ≡ record { status = Disordered; area = a }) (eqb (length a) mirror_bytes) (λ e. ap (hear_on a x) n) (λ e. absurd (eqb-false (length a) mirror_bytes e h))
