-- What an accepted call leaves, and demand 1 of every call. Assumes nothing.
use Rattle.std.specs.Prelude.{Option, Some, None}
use mathlib.Core.Path.{◌≡◌, refl, sym, ◌∙◌, ap, subst}
use mathlib.Core.Bool.{Bool, true, false, not, ◌&&◌}
use mathlib.Core.List.{List, [], ◌∷◌, ◌++◌, map, append-nil}
use Prim.Native.Nat.{ℕ, ◌+◌, ◌-◌, ◌≤◌}
use native.Mathlib.Omega.{arith}
use borrow.Author.Tests.{leb-true, eqb-true}
use lib.Dec.{eqb, leb}
use lib.ListN.{length, replicate}
use Rattle.model.specs.Octets.{filled, value, eq_bytes}
use Rattle.model.specs.Limits.{fresh_bytes, least_records, least_answer, least_mark, last_number, store_bytes, mirror_bytes}
use Rattle.model.specs.Base.{all, every, is_some, flat}
use Rattle.model.specs.Schema.{Schema, Database}
use Rattle.model.specs.Sane.{sane}
use Rattle.model.specs.Refusals.{number_of, is_refusal}
use Rattle.model.specs.Rows.{Row}
use Rattle.model.specs.Replies.{Reply, refused, reply, reply_to, named, freshly, concluded, changes_of}
use Rattle.model.specs.Replies as Replies
use Rattle.model.specs.Transact.{Request, Transaction, transact_rows, fresh_ids, ids_good, read_request}
use Rattle.model.specs.Records.{Change, mark, encode, diff, number_from}
use Rattle.model.specs.Mirror.{Mirror, column_bytes, column_answer}
use Rattle.model.specs.Areas.{Store, store_good, encode_store, store_of, MirrorState, mirror_of}
use Rattle.model.specs.Calls.{zeroed, lengths_good, reply_of, store_after, records_after, store_transact, transact_on, transact_replied, transact_refused, store_mark, mark_on, asked, no_progress, progress_of, no_presence, presence_of, no_contents, contents_of, Progress, mirror_progress, Presence, mirror_has_row, Contents, mirror_column}
use Rattle.model.specs.Calls as Calls
use Rattle.model.specs.Laid.{store_or, mirror_or, request_or, held, rows_laid, changes_laid, records_laid, text_laid, store_laid}
use Rattle.model.specs.FirstRefusal.{given, ask_conditions, ask_number, column_number}
use Rattle.model.specs.Demands.{TransactEnds, MarkEnds, ProgressEnds, HasRowEnds, ColumnEnds, Demand1}
use Rattle.model.specs.declared.Status.{Status}
use Rattle.model.specs.declared.Status.TheVariants.{Accepted, Disordered, WrongLength, BadRequest, OtherDatabase, BadFreshIds, AnswerTooLong, NumbersSpent}
use Rattle.model.proofs.Tests.{split, clash, parts, Trues}
use Rattle.model.proofs.Octets.{octet}
use Rattle.model.proofs.Accepted.{narrow, sane_kept}
use Rattle.model.proofs.Areas.{store_of_is, mirror_of_is}
use Rattle.model.proofs.States.{StoreFine, store_parts, store_whole, mirror_parts, column_answer_length}
use Rattle.model.proofs.Lengths.{commit_length}
use Rattle.model.proofs.Same.{diff_self}
use Rattle.model.proofs.TransactKeeps.{InOrder, reply_keeps}
use Rattle.model.proofs.Laid.{laid_rows, laid_changes, laid_text}
use Rattle.model.proofs.Demand1.{look, store_start_ends, mirror_start_ends, transact_first, transact_refused_lem, mark_first, mark_refused, hear_ends}
use Rattle.model.proofs.Replied.{reply_as, replied_laid, replied_diff, transact_stays}
use Rattle.model.proofs.StoreCalls.{filled_is, transact_there}

-- ── a store in good order ──
module _ (area : List ℕ) (st : Store) (here : store_of area ≡ Some st) where
  pub fine_at : StoreFine st
  fine_at = store_parts st (store_of_is area st here).1

  is_sane : sane st.database ≡ true
  is_sane = fine_at.accepted

  pub in_order : InOrder st.database.tables st.rows
  in_order = record { good = fine_at.rows; meet = fine_at.meets; laws = fine_at.lawful }

  pub narrow_at : narrow st.database.tables ≡ true
  narrow_at = (sane_kept st.database is_sane).narrow

  module _ (request fresh : List ℕ) (room : ℕ) (l : length fresh ≡ fresh_bytes) (b : all octet fresh ≡ true) where
    abbrev said : Reply
    said = reply_of st request fresh room

    pub order_after : InOrder st.database.tables said.rows
    order_after = reply_keeps st.database st.number st.rows fresh room is_sane l b in_order request

    -- a reply's changes are those between the rows before and after it
    pub changes_between : said.changes ≡ diff st.database.tables st.rows said.rows
    changes_between =
        replied_diff (reply_as st.database st.number st.rows request fresh room) (diff_self st.database.tables st.rows in_order.good.sorted)
        (transact_stays st.database.tables (fresh_ids fresh) st.rows (request_or (read_request request)))

    -- its records fit the shortest buffer
    records_fit : length (records_after st said) ≤ least_records
    records_fit = rw changes_between (commit_length st.database.tables st.run st.number st.rows said.rows in_order.good order_after.good narrow_at)

-- ── a reply's text fits the answer buffer, and its numbers do not pass the last one ──
pub record Room (number : ℕ) (room : ℕ) (r : Reply) : Type 0 where
  pub text : length r.text ≤ room
  pub last : number + length r.changes ≤ last_number

module _ (number : ℕ) (room : ℕ) (few : number ≤ last_number) where
  no_more : (a : Status) (rows : List Row) → Room number room (refused a rows)
  no_more a rows = record { text = omega arith; last = omega arith }

  concluded_room : (s : Schema) (rows : List Row) (t : Transaction) → Room number room (concluded s number rows room t)
  concluded_room s rows t = split (leb (length t.text) room)
      (λ e. split (leb (number + length (changes_of s rows t)) last_number)
      (λ f. rw (concluded, e, Replies.numbered, f) (record { text = leb-true (length t.text) room e; last = leb-true (number + length (changes_of s rows t)) last_number f }))
      (λ f. rw (concluded, e, Replies.numbered, f) (no_more NumbersSpent rows)))
      (λ e. rw (concluded, e) (no_more AnswerTooLong rows))

  pub reply_room : (d : Database) (rows : List Row) (request fresh : List ℕ) → Room number room (reply d number rows request fresh room)
  reply_room d rows request fresh = go (read_request request)
    where
      go : (o : Option Request) → Room number room (reply_to d number rows (fresh_ids fresh) room o)
      go None = no_more BadRequest rows
      go (Some q) = split (eq_bytes q.name d.name)
          (λ e. split (ids_good (fresh_ids fresh) rows)
          (λ f. rw (named, e, freshly, f) (concluded_room d.tables rows (transact_rows d.tables (fresh_ids fresh) rows q.operations)))
          (λ f. rw (named, e, freshly, f) (no_more BadFreshIds rows)))
          (λ e. rw (named, e) (no_more OtherDatabase rows))

-- the store after a reply is in good order
pub after_good : (area : List ℕ) (st : Store) → store_of area ≡ Some st → (request fresh : List ℕ) (room : ℕ) → length fresh ≡ fresh_bytes → all octet fresh ≡ true
    → store_good (store_after st (reply_of st request fresh room)) ≡ true
after_good area st here request fresh room l b =
    let f = fine_at area st here in
    let o = order_after area st here request fresh room l b in
    let n = reply_room st.number room (omega (arith, f.number)) st.database st.rows request fresh in
    store_whole (store_after st (reply_of st request fresh room))
    (record { accepted = f.accepted; run = f.run; number = omega (arith, n.last); rows = o.good; meets = o.meet; lawful = o.laws })

-- ── what a transact leaves that is not refused ──
there_is : (o : Option Store) → is_some o ≡ true → o ≡ Some (store_or o)
there_is None h = absurd (clash false h refl)
there_is (Some st) h = refl

module _ (area request fresh records text : List ℕ) where
  abbrev st : Store
  st = held area request fresh

  abbrev r : Reply
  r = reply_of st request fresh (length text)

  pub record Given : Type 0 where
    pub here : store_of area ≡ Some st
    pub sized : length fresh ≡ fresh_bytes
    pub wide : least_records ≤ length records
    pub rows : r.rows ≡ rows_laid area request fresh
    pub changes : r.changes ≡ changes_laid area request fresh
    pub area_is : (store_transact area request fresh records text).area ≡ encode_store (store_laid area request fresh)
    pub records_are : (store_transact area request fresh records text).records ≡ filled (length records) (records_laid area request fresh)
    pub text_is : (store_transact area request fresh records text).text ≡ filled (length text) (text_laid area request fresh)
    pub text_fits : length (text_laid area request fresh) ≤ length text

  abbrev lengths : List Bool
  lengths = eqb (length area) store_bytes ∷ eqb (length fresh) fresh_bytes ∷ leb least_records (length records) ∷ leb least_answer (length text) ∷ []

  given_of : lengths_good area fresh records text ≡ true → store_of area ≡ Some st → is_refusal r.status ≡ false → Given
  given_of h here a =
      let p = parts lengths h in
      let laid = replied_laid (reply_as st.database st.number st.rows request fresh (length text)) a in
      let rows : r.rows ≡ rows_laid area request fresh = laid.0 ∙ laid_rows area request fresh in
      let changes : r.changes ≡ changes_laid area request fresh = laid.1 ∙ laid_changes area request fresh in
      let words : r.text ≡ text_laid area request fresh = laid.2 ∙ laid_text area request fresh in
      let e : store_transact area request fresh records text ≡ record { status = r.status; area = encode_store (store_after st r); records = filled (length records) (records_after st r); text = filled (length text) r.text } =
      transact_there area request fresh records text st h here ∙ rw (transact_replied, a) in
      record {
        here = here;
        sized = eqb-true (length fresh) fresh_bytes p.1.0;
        wide = leb-true least_records (length records) p.1.1.0;
        rows = rows;
        changes = changes;
        area_is = ap (λ (t : Calls.Transacted). t.area) e ∙ (λ i. encode_store (record { run = st.run; number = st.number + length (changes i); database = st.database; rows = rows i }));
        records_are = ap (λ (t : Calls.Transacted). t.records) e ∙ ap (λ (es : List Change). filled (length records) (flat (map encode (number_from st.run st.number es)))) changes;
        text_is = ap (λ (t : Calls.Transacted). t.text) e ∙ ap (filled (length text)) words;
        text_fits = subst (λ (w : List ℕ). length w ≤ length text) words (reply_room st.number (length text) (omega (arith, (fine_at area st here).number)) st.database st.rows request fresh).text;
      }

  pub given_is : is_refusal (store_transact area request fresh records text).status ≡ false → Given
  unfolding store_transact
  given_is = split (lengths_good area fresh records text)
      (λ h. split (is_some (store_of area))
      (λ s. let here = there_is (store_of area) s in
      λ a. given_of h here (sym (ap is_refusal (answer_there st (reply_of st request fresh (length text)))) ∙ sym (ap (λ (t : Calls.Transacted). is_refusal t.status) (transact_there area request fresh records text st h here)) ∙ a))
      (λ s a. absurd (clash (is_refusal (store_transact area request fresh records text).status) (gone h (store_of area) refl s) a)))
      (λ h a. absurd (clash (is_refusal (store_transact area request fresh records text).status) (rw (store_transact, h)) a))
    where
      answer_there : (x : Store) (y : Reply) → (transact_replied area records text x y).status ≡ y.status
      answer_there x y = split (is_refusal y.status) (λ e. rw (transact_replied, e)) (λ e. rw (transact_replied, e))

      gone : lengths_good area fresh records text ≡ true → (o : Option Store) → store_of area ≡ o → is_some o ≡ false → is_refusal (store_transact area request fresh records text).status ≡ true
      gone h None e s = rw (store_transact, h, e)
      gone h (Some x) e s = absurd (clash true refl s)

  -- records and answer fit, and zeros follow them
  pub records_fit_laid : (g : Given) → all octet fresh ≡ true → length (records_laid area request fresh) ≤ length records
  records_fit_laid g b =
      let f : length (records_after st r) ≤ least_records = records_fit area st g.here request fresh (length text) g.sized b in
      let e : length (records_after st r) ≡ length (records_laid area request fresh) = ap (λ (es : List Change). length (flat (map encode (number_from st.run st.number es)))) g.changes in
      omega (arith, f, e, g.wide)

  pub transact_ends : all octet fresh ≡ true → TransactEnds area request fresh records text
  transact_ends b = record {
    first = transact_first area request fresh records text;
    refused = λ h. let u = transact_refused_lem area request fresh records text h in (u.0, (u.1, (u.2, tt)));
    accepted = λ h.
        let g = given_is h in
        let f = records_fit_laid g b in
        (f, g.records_are ∙ filled_is (length records) (records_laid area request fresh) f, (g.text_fits, g.text_is ∙ filled_is (length text) (text_laid area request fresh) g.text_fits, tt));
  }

-- ── a mark ──
mark_accepted : (area out : List ℕ) → is_refusal (store_mark area out).status ≡ false
    → let st = store_or (store_of area) in
    (9 ≤ length out) × ((store_mark area out).mark ≡ encode (mark st.run st.number) ++ replicate (length out - 9) 0)
unfolding store_mark
mark_accepted area out = split (every (eqb (length area) store_bytes ∷ leb least_mark (length out) ∷ []))
    (λ e. rw (store_mark, e) (go (parts (eqb (length area) store_bytes ∷ leb least_mark (length out) ∷ []) e) (store_of area)))
    (λ e. rw (store_mark, e) (λ h. absurd (clash true refl h)))
  where
    go : Trues (eqb (length area) store_bytes ∷ leb least_mark (length out) ∷ []) → (o : Option Store) → is_refusal (mark_on out o).status ≡ false
        → (9 ≤ length out) × ((mark_on out o).mark ≡ encode (mark (store_or o).run (store_or o).number) ++ replicate (length out - 9) 0)
    go p None h = absurd (clash true refl h)
    go p (Some st) h = let l = leb-true least_mark (length out) p.1.0 in (l, filled_is (length out) (encode (mark st.run st.number)) l)

pub mark_ends : (area out : List ℕ) → MarkEnds area out
mark_ends area out = record {
  first = mark_first area out;
  refused = λ h. (refl, (mark_refused area out h, tt));
  accepted = λ h. let m = mark_accepted area out h in (m.0, m.1, tt);
}

-- ── the questions ──
module _ {A : Type 0} (area : List ℕ) (refuse : Status → A) (ask : Mirror → A) where
  asked_first : (answer : A → Status) → ((a : Status) → answer (refuse a) ≡ a) → ((m : Mirror) → answer (ask m) ≡ Accepted) → number_of (answer (asked area refuse ask)) ≡ given (ask_conditions true area) 0
  asked_first answer p q = split (eqb (length area) mirror_bytes)
      (λ e. look (mirror_of area) (λ o. rw (asked, e, o) (ap number_of (p Disordered))) (λ m o. rw (asked, e, o) (ap number_of (q m.mirror))))
      (λ e. rw (asked, e) (ap number_of (p WrongLength)))

  -- what a question that is refused gives
  asked_refused : (P : A → Type 0) (answer : A → Status) → ((m : Mirror) → answer (ask m) ≡ Accepted) → ((a : Status) → P (refuse a)) → is_refusal (answer (asked area refuse ask)) ≡ true → P (asked area refuse ask)
  asked_refused P answer q p = split (eqb (length area) mirror_bytes)
      (λ e. look (mirror_of area) (λ o. rw (asked, e, o) (λ h. p Disordered)) (λ m o. rw (asked, e, o) (λ h. absurd (clash (is_refusal (answer (ask m.mirror))) h (rw (q m.mirror))))))
      (λ e. rw (asked, e) (λ h. p WrongLength))

  -- and one that is not refused is asked of the mirror that the area holds
  asked_accepted : (P : Mirror → A → Type 0) (answer : A → Status) → ((a : Status) → answer (refuse a) ≡ a) → ((m : MirrorState) → mirror_of area ≡ Some m → P m.mirror (ask m.mirror))
      → is_refusal (answer (asked area refuse ask)) ≡ false → P (mirror_or (mirror_of area)).mirror (asked area refuse ask)
  asked_accepted P answer q p = split (eqb (length area) mirror_bytes)
      (λ e. look (mirror_of area) (λ o. rw (asked, e, o) (λ h. absurd (clash (is_refusal (answer (refuse Disordered))) (rw (q Disordered)) h))) (λ m o. rw (asked, e, o) (λ h. p m o)))
      (λ e. rw (asked, e) (λ h. absurd (clash (is_refusal (answer (refuse WrongLength))) (rw (q WrongLength)) h)))

pub progress_first : (area : List ℕ) → number_of (mirror_progress area).status ≡ ask_number area
unfolding mirror_progress ask_number
progress_first area = asked_first area no_progress progress_of (λ (p : Progress). p.status) (λ a. refl) (λ m. refl)

progress_ends : (area : List ℕ) → ProgressEnds area
unfolding mirror_progress
progress_ends area = (
  record { first = progress_first area; refused = λ h. (refl, tt); accepted = λ h. tt },
  asked_refused area no_progress progress_of (λ (p : Progress). (p.n ≡ 0) × (p.level ≡ false)) (λ (p : Progress). p.status) (λ m. refl) (λ a. (refl, refl)),
)

pub has_row_first : (area : List ℕ) (t : ℕ) (id : List ℕ) → number_of (mirror_has_row area t id).status ≡ ask_number area
unfolding mirror_has_row ask_number
has_row_first area t id = asked_first area no_presence (presence_of t id) (λ (p : Presence). p.status) (λ a. refl) (λ m. refl)

has_row_ends : (area : List ℕ) (t : ℕ) (id : List ℕ) → HasRowEnds area t id
unfolding mirror_has_row
has_row_ends area t id = (
  record { first = has_row_first area t id; refused = λ h. (refl, tt); accepted = λ h. tt },
  asked_refused area no_presence (presence_of t id) (λ (p : Presence). p.there ≡ false) (λ (p : Presence). p.status) (λ m. refl) (λ a. refl),
)

pub short_first : (b c : Bool) → given (record { number = 2; applies = not (b && false) } ∷ record { number = 1; applies = c } ∷ []) 0 ≡ 2
short_first true c = refl
short_first false c = refl

pub column_first : (area : List ℕ) (t : ℕ) (id : List ℕ) (c : ℕ) (out : List ℕ) → number_of (mirror_column area t id c out).status ≡ column_number area out
unfolding mirror_column column_number
column_first area t id c out = split (eqb (length out) column_bytes)
    (λ f. rw (mirror_column, f) (asked_first area (no_contents out) (contents_of t id c) (λ (p : Contents). p.status) (λ a. refl) (λ m. refl)))
    (λ f. rw (mirror_column, f) (sym (short_first (eqb (length area) mirror_bytes) (not (is_some (mirror_of area))))))

column_refused : (area : List ℕ) (t : ℕ) (id : List ℕ) (c : ℕ) (out : List ℕ) → is_refusal (mirror_column area t id c out).status ≡ true → (mirror_column area t id c out).out ≡ zeroed out
unfolding mirror_column
column_refused area t id c out = split (eqb (length out) column_bytes)
    (λ f. rw (mirror_column, f) (asked_refused area (no_contents out) (contents_of t id c) (λ (p : Contents). p.out ≡ zeroed out) (λ (p : Contents). p.status) (λ m. refl) (λ a. refl)))
    (λ f. rw (mirror_column, f) (λ h. refl))

-- an output of its length holds just the answer
column_accepted : (area : List ℕ) (t : ℕ) (id : List ℕ) (c : ℕ) (out : List ℕ) → is_refusal (mirror_column area t id c out).status ≡ false
    → let w = column_answer (mirror_or (mirror_of area)).mirror t (value id) c in
    (length w ≡ length out) × ((mirror_column area t id c out).out ≡ w)
unfolding mirror_column
column_accepted area t id c out = split (eqb (length out) column_bytes)
    (λ f. rw (mirror_column, f)
    (asked_accepted area (no_contents out) (contents_of t id c) (λ (m : Mirror) (p : Contents). (length (column_answer m t (value id) c) ≡ length out) × (p.out ≡ column_answer m t (value id) c)) (λ (p : Contents). p.status) (λ a. refl)
    (λ m e. (column_answer_length m.database.tables m.mirror t (value id) c (mirror_parts m (mirror_of_is area m e).1).rows ∙ sym (eqb-true (length out) column_bytes f), refl))))
    (λ f. rw (mirror_column, f) (λ h. absurd (clash true refl h)))

column_ends : (area : List ℕ) (t : ℕ) (id : List ℕ) (c : ℕ) (out : List ℕ) → ColumnEnds area t id c out
column_ends area t id c out = record {
  first = column_first area t id c out;
  refused = λ h. (refl, (column_refused area t id c out h, tt));
  accepted = λ h.
      let w : List ℕ = column_answer (mirror_or (mirror_of area)).mirror t (value id) c in
      let a = column_accepted area t id c out h in
      let n : length out - length w ≡ 0 = omega (arith, a.0) in
      (omega (arith, a.0), a.1 ∙ sym (append-nil w) ∙ ap (λ (k : ℕ). w ++ replicate k 0) (sym n), tt);
}

pub demand1 : Demand1
demand1 = record {
  store_starts = store_start_ends;
  transacts = λ area request fresh records text b. transact_ends area request fresh records text b;
  marks = mark_ends;
  mirror_starts = mirror_start_ends;
  arrivals = hear_ends;
  tells_progress = progress_ends;
  tells_row = has_row_ends;
  tells_column = column_ends;
}
