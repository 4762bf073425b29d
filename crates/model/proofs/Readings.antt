-- Document 01's starred readings, one claim over one table of calls on areas; and what the listed mistakes would get wrong. What the calls make of areas is carried to
-- states by law, and computed there. Assumes nothing.
use Rattle.std.specs.Prelude.{Option, Some, None}
use mathlib.Core.Path.{◌≡◌, refl, sym, ◌∙◌, ap, subst}
use mathlib.Core.Bool.{Bool, true, false}
use mathlib.Core.List.{List, [], ◌∷◌, map}
use Prim.Native.Nat.{ℕ, zero, suc, ◌+◌, ◌*◌, ◌≤◌}
use native.Mathlib.Nat.{add-zero}
use native.Mathlib.Omega.{arith}
use borrow.Author.Tests.{eq-eqb, ltb-true}
use lib.Dec.{ltb}
use lib.ListN.{length, replicate, length-append, length-replicate}
use Rattle.model.proofs.SchemaLaws.{read_sane}
use Rattle.model.specs.Sane.{sane}
use Rattle.model.specs.Octets.{big, filled}
use Rattle.model.specs.Limits.{fresh_bytes, least_records, last_number, store_bytes, mirror_bytes}
use Rattle.model.specs.Base.{all, flat}
use Rattle.model.specs.Schema.{Schema, Database}
use Rattle.model.specs.SchemaText.{read_schema}
use Rattle.model.specs.Refusals.{number_of}
use Rattle.model.specs.Transact.{Transaction}
use Rattle.model.specs.Replies.{Reply, reply}
use Rattle.model.specs.Records.{Change, diff, number_from, encode, decode, pieces}
use Rattle.model.specs.Mirror.{Mirror, fresh, level, step, number_carried}
use Rattle.model.specs.Areas.{Store, encode_store, store_good, store_of, encode_mirror, mirror_of}
use Rattle.model.specs.Calls.{start_as, store_start, mirror_start, lengths_good, reply_of, store_after, records_after, transact_replied, Transacted, store_transact, new_store}
use Rattle.model.specs.Histories.{heard_all}
use Rattle.model.specs.Laid.{mirror_or, no_database}
use Rattle.model.specs.Readings.{Gave, Reading, ids_from, records_room, text_room, last_call, calls_of, picks, mirror_on, gave, got, padded, table, Readings, mistakes, Mistakes}
use Rattle.model.specs.declared.Status.{Status}
use Rattle.model.specs.declared.Status.TheVariants.{Accepted}
use Rattle.model.proofs.Tests.{clash}
use Rattle.model.proofs.Lists.{all_head, all_tail, all_append}
use Rattle.model.proofs.Octets.{octet, big_octets, length_big}
use Rattle.model.proofs.StateDemand.{through}
use Rattle.model.proofs.Areas.{store_of_encode, store_of_length, mirror_of_encode}
use Rattle.model.proofs.States.{store_whole, start_fine, MirrorFine, mirror_whole, fresh_fine, step_fine, hear_area}
use Rattle.model.proofs.StoreCalls.{no_bytes, none_there, transact_there, commit_filled}
use Rattle.model.proofs.MirrorArrivals.{mirror_at, progress_is}
use Rattle.model.proofs.Replied.{reply_as, Replied, refusing, making}
use Rattle.model.proofs.Accepting.{fine_at, in_order, narrow_at, order_after, changes_between, reply_room, after_good}
use Rattle.model.proofs.Opened.{opened}

-- ── a call on a state ──
-- what it says: its answer, its text, its records one by one, and the store after it
record Said : Type 0 where
  status : Status
  text : List ℕ
  lines : List (List ℕ)
  store : Store

abbrev say_call : Database → Store → List ℕ → List ℕ → Said
say_call d st q ids =
    let r = reply d st.number st.rows q ids 1000 in
    record { status = r.status; text = r.text; lines = map encode (number_from st.run st.number r.changes); store = store_after st r }

abbrev last_said : Database → ℕ → Said → List (List ℕ) → Said
last_said d i x [] = x
last_said d i x (q ∷ qs) = last_said d (i + 16) (say_call d x.store q (ids_from 16 i)) qs

-- what such a call leaves of areas and buffers
abbrev on_area : Said → Transacted
on_area x = record { status = x.status; area = encode_store x.store; records = padded least_records (flat x.lines); text = padded 1000 x.text }

zeros_length : (n : ℕ) → length (replicate {A = ℕ} n 0) ≡ n
zeros_length n = length-replicate {A = ℕ} n 0

-- the fresh ids are 256 bytes
ids_octets : (n i : ℕ) → all octet (ids_from n i) ≡ true
ids_octets zero i = refl
ids_octets (suc n) i = all_append octet (big 16 i) (ids_from n (suc i)) (big_octets 16 i) (ids_octets n (suc i))

ids_length : (n i : ℕ) → length (ids_from n i) ≡ 16 * n
ids_length zero i = refl
ids_length (suc n) i = length-append (big 16 i) (ids_from n (suc i)) ∙ omega (arith, length_big 16 i, ids_length n (suc i))

-- refused or not, a reply leaves the area of the store after it, and buffers that it filled
abbrev replied_as : List ℕ → List ℕ → Store → Reply → Transacted
replied_as records text st r = record { status = r.status; area = encode_store (store_after st r); records = filled (length records) (records_after st r); text = filled (length text) r.text }

replied_is : (records text : List ℕ) (st : Store) {s : Schema} {t : Transaction} {r : Reply} → Replied s st.rows t r → transact_replied (encode_store st) records text st r ≡ replied_as records text st r
replied_is records text st (refusing a h) =
    rw (transact_replied, h) (λ i. record {
      status = a;
      area = encode_store (record { run = st.run; number = sym (add-zero st.number) i; database = st.database; rows = st.rows });
      records = sym (no_bytes (length records)) i;
      text = sym (no_bytes (length text)) i;
    })
replied_is records text st (making r h p q u) = rw (transact_replied, h)

-- ── a call on the area of a state in good order ──
record Sound (d : Database) (x : Said) : Type 0 where
  good : store_good x.store ≡ true
  same : x.store.database ≡ d
  cut : pieces (padded least_records (flat x.lines)) ≡ x.lines

module _ (st : Store) (g : store_good st ≡ true) (q : List ℕ) (i : ℕ) where
  abbrev here : store_of (encode_store st) ≡ Some st
  here = store_of_encode st g

  abbrev sized : length (ids_from 16 i) ≡ fresh_bytes
  sized = ids_length 16 i

  lengths : lengths_good (encode_store st) (ids_from 16 i) records_room text_room ≡ true
  lengths =
      rw (eq-eqb (length (encode_store st)) store_bytes (store_of_length (encode_store st) st here), eq-eqb (length (ids_from 16 i)) fresh_bytes sized)

  call_is : store_transact (encode_store st) q (ids_from 16 i) records_room text_room ≡ on_area (say_call st.database st q (ids_from 16 i))
  unfolding padded
  call_is =
      transact_there (encode_store st) q (ids_from 16 i) records_room text_room st lengths here
      ∙ replied_is records_room text_room st (reply_as st.database st.number st.rows q (ids_from 16 i) (length text_room))
      ∙ (λ j. let r = reply_of st q (ids_from 16 i) (zeros_length 1000 j) in
      record { status = r.status; area = encode_store (store_after st r); records = filled (zeros_length least_records j) (records_after st r); text = filled (zeros_length 1000 j) r.text })

  -- its records are found again in the buffer
  cut_is : pieces (padded least_records (flat (say_call st.database st q (ids_from 16 i)).lines)) ≡ (say_call st.database st q (ids_from 16 i)).lines
  unfolding padded
  cut_is =
      let s = st.database.tables in
      let r = reply_of st q (ids_from 16 i) 1000 in
      let b = ids_octets 16 i in
      let e : r.changes ≡ diff s st.rows r.rows = changes_between (encode_store st) st here q (ids_from 16 i) 1000 sized b in
      let room = (reply_room st.number 1000 (omega (arith, (fine_at (encode_store st) st here).number)) st.database st.rows q (ids_from 16 i)).last in
      subst (λ (es : List Change). pieces (filled least_records (flat (map encode (number_from st.run st.number es)))) ≡ map encode (number_from st.run st.number es)) (sym e)
      (commit_filled s st.run least_records st.rows r.rows st.number (in_order (encode_store st) st here).good (order_after (encode_store st) st here q (ids_from 16 i) 1000 sized b).good
      (narrow_at (encode_store st) st here) (fine_at (encode_store st) st here).run (subst (λ (es : List Change). st.number + length es ≤ last_number) e room) (omega arith))

  call_sound : Sound st.database (say_call st.database st q (ids_from 16 i))
  call_sound = record { good = after_good (encode_store st) st here q (ids_from 16 i) 1000 sized (ids_octets 16 i); same = refl; cut = cut_is }

module _ (d : Database) where
  next_sound : (i : ℕ) (x : Said) → Sound d x → (q : List ℕ) → Sound d (say_call d x.store q (ids_from 16 i))
  next_sound i x v q = subst (λ (e : Database). Sound e (say_call e x.store q (ids_from 16 i))) v.same (call_sound x.store v.good q i)

  next_is : (i : ℕ) (x : Said) → Sound d x → (q : List ℕ) → store_transact (encode_store x.store) q (ids_from 16 i) records_room text_room ≡ on_area (say_call d x.store q (ids_from 16 i))
  next_is i x v q = subst (λ (e : Database). store_transact (encode_store x.store) q (ids_from 16 i) records_room text_room ≡ on_area (say_call e x.store q (ids_from 16 i))) v.same (call_is x.store v.good q i)

  calls_are : (i : ℕ) (x : Said) → Sound d x → (qs : List (List ℕ)) → (last_call i (on_area x) qs ≡ on_area (last_said d i x qs)) × Sound d (last_said d i x qs)
  calls_are i x v [] = (refl, v)
  calls_are i x v (q ∷ qs) =
      let rest = calls_are (i + 16) (say_call d x.store q (ids_from 16 i)) (next_sound i x v q) qs in
      (ap (λ (c : Transacted). last_call (i + 16) c qs) (next_is i x v q) ∙ rest.0, rest.1)

-- ── a mirror that hears what its area's state hears ──
abbrev wide : List ℕ → Bool
wide x = ltb (number_carried (decode x)) 4294967296

heard_through : (d : Database) (m : Mirror) → MirrorFine (mirror_at d 1 m) → (xs : List (List ℕ)) → all wide xs ≡ true
    → (heard_all (encode_mirror (mirror_at d 1 m)) xs ≡ encode_mirror (mirror_at d 1 (through d.tables 1 m xs))) × MirrorFine (mirror_at d 1 (through d.tables 1 m xs))
heard_through d m f [] w = (refl, f)
heard_through d m f (x ∷ xs) w =
    let n = step_fine (mirror_at d 1 m) f x (ltb-true (number_carried (decode x)) 4294967296 (all_head wide x xs w)) in
    let rest = heard_through d (step d.tables 1 m x).next n xs (all_tail wide x xs w) in
    (ap (λ (a : List ℕ). heard_all a xs) (hear_area (mirror_at d 1 m) f x) ∙ rest.0, rest.1)

-- ── a reading on states ──
abbrev begun : Database → Said
begun d = record { status = Accepted; text = []; lines = []; store = new_store 1 d }

abbrev said_of : Database → Reading → Said
said_of d r = last_said d 1 (begun d) r.requests

abbrev tells : Said → Mirror → Gave
tells x m = record { status = number_of x.status; text = padded 1000 x.text; records = padded least_records (flat x.lines); n = m.n; highest = m.top; level = level m }

abbrev heard_by : Database → Reading → List (List ℕ)
heard_by d r = picks r.hears (said_of d r).lines

abbrev on_state : Reading → Option Database → Gave
on_state r None = tells (begun no_database) fresh
on_state r (Some d) = tells (said_of d r) (through d.tables 1 fresh (heard_by d r))

abbrev fits : Reading → Option Database → Bool
fits r None = false
fits r (Some d) = all wide (heard_by d r)

module _ (r : Reading) (d : Database) (read : read_schema r.schema ≡ Some d) (w : all wide (heard_by d r) ≡ true) where
  abbrev accepted : sane d ≡ true
  accepted = read_sane r.schema d read

  store_starts_lem : store_start (replicate store_bytes 0) r.schema 1 ≡ record { status = Accepted; area = encode_store (begun d).store }
  unfolding store_start
  store_starts_lem = rw (start_as, read)

  mirror_starts_lem : mirror_start (replicate mirror_bytes 0) r.schema 1 ≡ record { status = Accepted; area = encode_mirror (mirror_at d 1 fresh) }
  unfolding mirror_start
  mirror_starts_lem = rw (start_as, eq-eqb (length (replicate {A = ℕ} mirror_bytes 0)) mirror_bytes (zeros_length mirror_bytes), read)

  begun_sound : Sound d (begun d)
  unfolding padded
  begun_sound = record {
    good = store_whole (begun d).store (start_fine 1 d (omega arith) accepted);
    same = refl;
    cut = ap pieces (no_bytes least_records) ∙ none_there least_records;
  }

  abbrev calls : (last_call 1 (on_area (begun d)) r.requests ≡ on_area (said_of d r)) × Sound d (said_of d r)
  calls = calls_are d 1 (begun d) begun_sound r.requests

  calls_of_lem : calls_of r ≡ on_area (said_of d r)
  unfolding padded
  calls_of_lem =
      (λ j. last_call 1 (record { status = (store_starts_lem j).status; area = (store_starts_lem j).area; records = sym (no_bytes least_records) j; text = sym (no_bytes 1000) j }) r.requests)
      ∙ calls.0

  abbrev m : Mirror
  m = through d.tables 1 fresh (heard_by d r)

  abbrev hearing : (heard_all (encode_mirror (mirror_at d 1 fresh)) (heard_by d r) ≡ encode_mirror (mirror_at d 1 m)) × MirrorFine (mirror_at d 1 m)
  hearing = heard_through d fresh (fresh_fine 1 d (omega arith) accepted) (heard_by d r) w

  mirror_on_lem : mirror_on r (calls_of r).records ≡ encode_mirror (mirror_at d 1 m)
  mirror_on_lem =
      (λ j. heard_all (mirror_starts_lem j).area (picks r.hears ((ap (λ (c : Transacted). pieces c.records) calls_of_lem ∙ calls.1.cut) j)))
      ∙ hearing.0

  got_is : got r ≡ on_state r (Some d)
  got_is =
      let there : mirror_of (encode_mirror (mirror_at d 1 m)) ≡ Some (mirror_at d 1 m) = mirror_of_encode (mirror_at d 1 m) (mirror_whole (mirror_at d 1 m) hearing.1) in
      (λ j. gave (calls_of_lem j) (mirror_on_lem j))
      ∙ (λ j. record {
        status = number_of (said_of d r).status;
        text = padded 1000 (said_of d r).text;
        records = padded least_records (flat (said_of d r).lines);
        n = (progress_is (mirror_at d 1 m) hearing.1 j).n;
        highest = (mirror_or (there j)).mirror.top;
        level = (progress_is (mirror_at d 1 m) hearing.1 j).level;
      })

got_all : (l : List Reading) → all (λ (r : Reading). fits r (read_schema r.schema)) l ≡ true → map got l ≡ map (λ (r : Reading). on_state r (read_schema r.schema)) l
got_all [] h = refl
got_all (r ∷ l) h = λ j. one (read_schema r.schema) refl (all_head test r l h) j ∷ got_all l (all_tail test r l h) j
  where
    test : Reading → Bool
    test y = fits y (read_schema y.schema)

    one : (o : Option Database) → read_schema r.schema ≡ o → fits r o ≡ true → got r ≡ on_state r o
    one None e f = absurd (clash false f refl)
    one (Some d) e f = got_is r d e f

pub readings : Readings
unfolding opened
readings = got_all table refl ∙ refl

pub mistaken : Mistakes
unfolding opened
mistaken = got_all mistakes refl ∙ refl
