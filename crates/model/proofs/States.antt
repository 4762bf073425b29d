-- Stores and mirrors in good order, part by part; a new one is in good order, and a mirror stays so at every arrival. Assumes nothing.
use Rattle.std.specs.Prelude.{Option, Some, None}
use mathlib.Core.Path.{◌≡◌, refl, sym, ◌∙◌, ap}
use mathlib.Core.Bool.{true, false, not, ◌&&◌, ◌||◌}
use mathlib.Core.List.{List, [], ◌∷◌}
use Prim.Native.Nat.{ℕ, zero, suc, ◌^◌, ◌≤◌, ◌<◌}
use native.Mathlib.Omega.{arith}
use borrow.Author.Tests.{lt-ltb, ltb-true, le-leb, leb-true, eq-eqb, not-false}
use lib.Dec.{eqb, eqb-suc-zero}
use lib.ListN.{length}
use Rattle.model.specs.Sane.{sane}
use Rattle.model.specs.Octets.{value, part}
use Rattle.model.specs.Base.{all, every, nth}
use Rattle.model.specs.Schema.{Column, Schema, columns_of, Database}
use Rattle.model.specs.Value.{Value, canonical_for, meets, canonical_tests}
use Rattle.model.specs.Rows.{Row, key_of, key, find}
use Rattle.model.specs.Commit.{unique, not_over, tables_good, lawful}
use Rattle.model.specs.Records.{Change, sound, fits, is_end, Record, record_bytes, body_of, decode}
use Rattle.model.proofs.Order.{Typed, AllFine, Good, AllMeet}
use Rattle.model.specs.Mirror.{Mirror, Step, hears, applies, bad, step, number_carried, column_bytes, value_answer, row_answer, column_answer}
use Rattle.model.specs.Areas.{Store, encode_mirror, MirrorState, store_part, rows_pass, head_tests, store_good, mirror_tests, mirror_good}
use Rattle.model.specs.Limits.{mirror_bytes}
use Rattle.model.specs.Calls.{Arrived, mirror_after, hear_step, mirror_hear, new_store, new_mirror}
use Rattle.model.specs.Refusals.{is_refusal}
use Rattle.model.proofs.Tests.{split, and_l, and_r, or_l, or_r, or_true, parts, whole}
use Rattle.model.proofs.Lists.{all_tail}
use Rattle.model.proofs.Octets.{octet, part_lt}
use Rattle.model.proofs.Bytes.{length_value}
use Rattle.model.proofs.GoodOrder.{good_of, of_good, meets_pass, meet_of, of_meet}
use Rattle.model.proofs.Arrivals.{Said, unread, strange_mark, marked, unfit, strange, again, next, early, said, refused_same}
use Rattle.model.proofs.Areas.{mirror_of_encode, mirror_of_length}
use Rattle.model.proofs.Kept.{act_good}

-- ── a mirror in good order ──
pub record MirrorFine (m : MirrorState) : Type 0 where
  pub accepted : sane m.database ≡ true
  pub run : m.run < 256 ^ 4
  pub n : m.mirror.n < 256 ^ 4
  pub rows : Good m.database.tables m.mirror.rows
  pub top : m.mirror.top < 256 ^ 4
  pub reach : m.mirror.n ≤ m.mirror.top
  pub quiet : (m.mirror.heard || eqb m.mirror.top 0) ≡ true
  pub start : (m.mirror.whole || not (eqb m.mirror.n 0)) ≡ true

pub mirror_parts : (m : MirrorState) → mirror_good m ≡ true → MirrorFine m
unfolding mirror_good
mirror_parts m h =
    let rows = rows_pass canonical_for m.database.tables m.mirror.rows in
    let p = and_l (every (head_tests (store_part m)) && rows) (every (mirror_tests m.mirror)) h in
    let head = parts (head_tests (store_part m)) (and_l (every (head_tests (store_part m))) rows p) in
    let rest = parts (mirror_tests m.mirror) (and_r (every (head_tests (store_part m)) && rows) (every (mirror_tests m.mirror)) h) in
    record {
      accepted = head.0;
      run = ltb-true m.run (256 ^ 4) head.1.0;
      n = ltb-true m.mirror.n (256 ^ 4) head.1.1.0;
      rows = good_of m.database.tables m.mirror.rows (and_r (every (head_tests (store_part m))) rows p);
      top = ltb-true m.mirror.top (256 ^ 4) rest.0;
      reach = leb-true m.mirror.n m.mirror.top rest.1.0;
      quiet = rest.1.1.0;
      start = rest.1.1.1.0;
    }

pub mirror_whole : (m : MirrorState) → MirrorFine m → mirror_good m ≡ true
unfolding mirror_good
mirror_whole m f =
    let a : every (head_tests (store_part m)) ≡ true = whole (head_tests (store_part m)) (f.accepted, (lt-ltb m.run (256 ^ 4) f.run, (lt-ltb m.mirror.n (256 ^ 4) f.n, tt))) in
    let b : every (mirror_tests m.mirror) ≡ true =
    whole (mirror_tests m.mirror) (lt-ltb m.mirror.top (256 ^ 4) f.top, (le-leb m.mirror.n m.mirror.top f.reach, (f.quiet, (f.start, tt)))) in
    rw (a, of_good m.database.tables m.mirror.rows f.rows, b)

good_none : (s : Schema) → Good s []
good_none s = record { sorted = tt; distinct = tt; fine = tt; few = omega arith }

-- a mirror that starts
pub fresh_fine : (run : ℕ) (d : Database) → run < 256 ^ 4 → sane d ≡ true → MirrorFine (new_mirror run d)
fresh_fine run d u a =
    record { accepted = a; run = u; n = omega arith; rows = good_none d.tables; top = omega arith; reach = omega arith; quiet = refl; start = refl }

-- ── an arrival ──
body_lt : (k : ℕ) (b : List ℕ) → all octet b ≡ true → number_carried (body_of k b) < 256 ^ 4
body_lt k b h =
    let l : value (part 4 4 b) < 256 ^ 4 = part_lt 4 4 b h in
    split (eqb k 1) (λ p. rw p l)
    (λ p. split (eqb k 2) (λ q. rw (p, q) l)
    (λ q. split (eqb k 3) (λ r. rw (p, q, r) l)
    (λ r. split (eqb k 4) (λ s. rw (p, q, r, s) l)
    (λ s. split (eqb k 5) (λ t. rw (p, q, r, s, t) l) (λ t. rw (p, q, r, s, t) (omega arith))))))

-- the number that bytes carry has its width
pub number_lt : (x : List ℕ) → all octet x ≡ true → number_carried (decode x) < 256 ^ 4
number_lt [] h = omega arith
number_lt (k ∷ b) h = split (eqb (suc (length b)) (record_bytes k)) (λ p. rw p (body_lt k b (all_tail octet k b h))) (λ p. rw p (omega arith))

module _ (m : MirrorState) (f : MirrorFine m) where
  hears_fine : (k : ℕ) → k < 256 ^ 4 → MirrorFine (mirror_after m (hears m.mirror k))
  hears_fine k l =
      record { accepted = f.accepted; run = f.run; n = f.n; rows = f.rows; top = omega (arith, f.top); reach = omega (arith, f.reach); quiet = refl; start = f.start }

  applies_fine : (e : Change) → suc m.mirror.n < 256 ^ 4 → bad m.database.tables m.mirror (suc m.mirror.n) e ≡ false → MirrorFine (mirror_after m (applies m.database.tables m.mirror e))
  applies_fine e l b =
      let s : Schema = m.database.tables in
      let k : ℕ = suc m.mirror.n in
      let a : sound s e ≡ true = not-false (sound s e) (or_l (not (sound s e)) (eqb k 0) (or_l (not (sound s e) || eqb k 0) (eqb k k && not (fits e m.mirror.rows)) b)) in
      let c : fits e m.mirror.rows ≡ true =
      not-false (fits e m.mirror.rows) (rw (eq-eqb k k refl) at (or_r (not (sound s e) || eqb k 0) (eqb k k && not (fits e m.mirror.rows)) b)) in
      record {
        accepted = f.accepted;
        run = f.run;
        n = l;
        rows = act_good s e m.mirror.rows a c f.rows;
        top = omega (arith, f.top);
        reach = omega arith;
        quiet = refl;
        start = rw (eqb-suc-zero m.mirror.n) (or_true (is_end e));
      }

  said_fine : {o : Option Record} {x : Step} → Said m.database.tables m.run m.mirror o x → number_carried o < 256 ^ 4 → MirrorFine (mirror_after m x.next)
  said_fine unread l = f
  said_fine (strange_mark u k p) l = f
  said_fine (marked u k r) l = hears_fine k l
  said_fine (unfit u k e p) l = f
  said_fine (strange u k e p) l = f
  said_fine (again u k e r z p) l = f
  said_fine (next u k e b r p) l = applies_fine e (rw p at l) (rw p at b)
  said_fine (early u k e r p) l = hears_fine k l

  -- a mirror in good order is so after every arrival whose number has its width (`number_lt`: all that are bytes)
  pub step_fine : (x : List ℕ) → number_carried (decode x) < 256 ^ 4 → MirrorFine (mirror_after m (step m.database.tables m.run m.mirror x).next)
  step_fine x l = said_fine (said m.database.tables m.run m.mirror (decode x)) l

  -- what hearing on its area is
  pub hear_on_lem : (x : List ℕ) → mirror_hear (encode_mirror m) x ≡ hear_step (encode_mirror m) m (step m.database.tables m.run m.mirror x)
  unfolding mirror_hear
  hear_on_lem x =
      let g = mirror_whole m f in
      rw (eq-eqb (length (encode_mirror m)) mirror_bytes (mirror_of_length (encode_mirror m) m (mirror_of_encode m g)), mirror_hear) (rw (mirror_of_encode m g))

  pub hear_answer : (x : List ℕ) → (mirror_hear (encode_mirror m) x).status ≡ (step m.database.tables m.run m.mirror x).status
  hear_answer x =
      let st : Step = step m.database.tables m.run m.mirror x in
      ap (λ (a : Arrived). a.status) (hear_on_lem x) ∙ split (is_refusal st.status) (λ q. rw (q, hear_step)) (λ q. rw (q, hear_step))

  -- refused or not, the area is that of the mirror after the step
  pub hear_area : (x : List ℕ) → (mirror_hear (encode_mirror m) x).area ≡ encode_mirror (mirror_after m (step m.database.tables m.run m.mirror x).next)
  hear_area x =
      let st : Step = step m.database.tables m.run m.mirror x in
      ap (λ (a : Arrived). a.area) (hear_on_lem x)
      ∙ split (is_refusal st.status) (λ q. rw (q, hear_step) (ap (λ (n : Mirror). encode_mirror (mirror_after m n)) (sym (refused_same (said m.database.tables m.run m.mirror (decode x)) q)))) (λ q. rw (q, hear_step))

-- ── a store in good order ──
pub record StoreFine (st : Store) : Type 0 where
  pub accepted : sane st.database ≡ true
  pub run : st.run < 256 ^ 4
  pub number : st.number < 256 ^ 4
  pub rows : Good st.database.tables st.rows
  pub meets : AllMeet st.database.tables st.rows
  pub lawful : lawful st.database.tables st.rows ≡ true

pub store_parts : (st : Store) → store_good st ≡ true → StoreFine st
unfolding store_good
store_parts st h =
    let s : Schema = st.database.tables in
    let p = and_l (every (head_tests st) && rows_pass meets s st.rows) (lawful s st.rows) h in
    let head = parts (head_tests st) (and_l (every (head_tests st)) (rows_pass meets s st.rows) p) in
    let rows = and_r (every (head_tests st)) (rows_pass meets s st.rows) p in
    record {
      accepted = head.0;
      run = ltb-true st.run (256 ^ 4) head.1.0;
      number = ltb-true st.number (256 ^ 4) head.1.1.0;
      rows = good_of s st.rows (meets_pass s st.rows rows);
      meets = meet_of s st.rows rows;
      lawful = and_r (every (head_tests st) && rows_pass meets s st.rows) (lawful s st.rows) h;
    }

pub store_whole : (st : Store) → StoreFine st → store_good st ≡ true
unfolding store_good
store_whole st f =
    let a : every (head_tests st) ≡ true = whole (head_tests st) (f.accepted, (lt-ltb st.run (256 ^ 4) f.run, (lt-ltb st.number (256 ^ 4) f.number, tt))) in
    rw (a, of_meet st.database.tables st.rows f.rows f.meets, f.lawful)

-- a store that starts
unique_none : (l : List (List ℕ)) → all (λ (index : List ℕ). unique index []) l ≡ true
unique_none [] = refl
unique_none (x ∷ l) = unique_none l

over_none : (o : Option ℕ) → not_over o 0 ≡ true
over_none None = refl
over_none (Some m) = le-leb 0 m (omega arith)

tables_none : (t : ℕ) (s : Schema) → tables_good t s [] ≡ true
tables_none t [] = refl
tables_none t (x ∷ s) = rw (over_none x.max_rows, unique_none x.indexes, tables_none (suc t) s)

pub start_fine : (run : ℕ) (d : Database) → run < 256 ^ 4 → sane d ≡ true → StoreFine (new_store run d)
start_fine run d u a = record { accepted = a; run = u; number = omega arith; rows = good_none d.tables; meets = tt; lawful = rw (tables_none 0 d.tables) }

-- ── questions: "the count and atoms a column record would have", always 101 bytes ──
value_length : (cs : List Column) (vs : List Value) (c : ℕ) → Typed cs vs → length (value_answer (nth vs c)) ≡ column_bytes
value_length [] [] c h = refl
value_length [] (v ∷ vs) c h = absurd h
value_length (x ∷ cs) [] c h = absurd h
value_length (x ∷ cs) (v ∷ vs) zero h = length_value v (parts (canonical_tests x v) h.0).0
value_length (x ∷ cs) (v ∷ vs) (suc c) h = value_length cs vs c h.1

row_answer_length : (s : Schema) (rows : List Row) (k c : ℕ) → AllFine s rows → length (row_answer (find k rows) c) ≡ column_bytes
row_answer_length s [] k c f = refl
row_answer_length s (r ∷ rs) k c f =
    split (eqb k (key r)) (λ e. rw e (value_length (columns_of s r.table) r.columns c f.0.typed)) (λ e. rw e (row_answer_length s rs k c f.1))

pub column_answer_length : (s : Schema) (m : Mirror) (t i c : ℕ) → Good s m.rows → length (column_answer m t i c) ≡ column_bytes
column_answer_length s m t i c g = row_answer_length s m.rows (key_of t i) c g.fine
