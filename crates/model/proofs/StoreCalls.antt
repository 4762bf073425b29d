-- A call on the area of a store in good order, as a history's call on its state: the area after it, the records it writes, all that it sends. Assumes nothing.
use Rattle.std.specs.Prelude.{Option, Some}
use mathlib.Core.Path.{◌≡◌, refl, sym, ◌∙◌, ap}
use mathlib.Core.Bool.{Bool, true, false, ◌&&◌}
use mathlib.Core.List.{List, [], ◌∷◌, ◌++◌, map, append-nil}
use Prim.Native.Nat.{ℕ, zero, suc, ◌+◌, ◌-◌, ◌^◌, ◌≤◌, ◌<◌}
use native.Mathlib.Nat.{add-zero}
use native.Mathlib.Omega.{arith}
use borrow.Author.Tests.{eq-eqb, eqb-true, leb-true}
use lib.Dec.{eqb, leb}
use lib.ListN.{length, take, replicate}
use lib.Seq.{take-append-add}
use Rattle.model.specs.Octets.{filled}
use Rattle.model.specs.Limits.{last_number, fresh_bytes, least_records, least_answer, least_mark, store_bytes}
use Rattle.model.specs.Base.{all, every, flat}
use Rattle.model.specs.Schema.{Schema, Database}
use Rattle.model.specs.Value.{meets}
use Rattle.model.specs.Rows.{Row}
use Rattle.model.specs.Commit.{lawful}
use Rattle.model.proofs.Order.{Sorted, Good}
use Rattle.model.specs.Sane.{sane}
use Rattle.model.specs.Records.{Change, diff, mark, number_from, encode, pieces}
use Rattle.model.specs.Refusals.{is_refusal}
use Rattle.model.specs.Replies.{Reply}
use Rattle.model.specs.Areas.{Store, encode_store, store_of, rows_pass, store_good}
use Rattle.model.specs.Calls.{zeroed, lengths_good, Transacted, transact_refused, transact_replied, reply_of, transact_on, store_transact, Marked, mark_on, store_mark}
use Rattle.model.specs.Histories.{StoreCall, transact, ask_mark, are_bytes, of_bytes, area_after, records_in, sent_in}
use Rattle.model.proofs.StateHistory as History
use Rattle.model.proofs.StateDemand.{Keeps}
use Rattle.model.proofs.StateHistory.{State, Call, room, changes_of, rows_after, state_after, records_of}
use Rattle.model.specs.declared.Status.TheVariants.{WrongLength}
use Rattle.model.proofs.Tests.{split, clash, and_l, and_r, parts}
use Rattle.model.proofs.Lists.{all_head, all_tail}
use Rattle.model.proofs.TextUtf8.{by_test}
use Rattle.model.proofs.Bytes.{pieces_of}
use Rattle.model.proofs.Past.{call_room}
use Rattle.model.proofs.Same.{diff_self}
use Rattle.model.proofs.GoodOrder.{good_of, meets_pass, meet_of, of_meet}
use Rattle.model.proofs.Accepted.{narrow, sane_kept}
use Rattle.model.proofs.Lengths.{commit_length, commit_pieces}
use Rattle.model.proofs.Areas.{store_of_encode, store_of_length}
use Rattle.model.proofs.States.{StoreFine, store_parts, store_whole}
use Rattle.model.proofs.TransactKeeps.{InOrder}
use Rattle.model.proofs.ReplyLaws.{reply_rows, AsCall, reply_call, rows_keep}

-- ── a store in good order, and its rows ──
abbrev in_order : Schema → List Row → Bool
in_order s rows = rows_pass meets s rows && lawful s rows

stored_of : (s : Schema) (rows : List Row) → in_order s rows ≡ true → InOrder s rows
stored_of s rows h =
    let p = and_l (rows_pass meets s rows) (lawful s rows) h in
    record { good = good_of s rows (meets_pass s rows p); meet = meet_of s rows p; laws = and_r (rows_pass meets s rows) (lawful s rows) h }

of_stored : (s : Schema) (rows : List Row) → InOrder s rows → in_order s rows ≡ true
of_stored s rows h = rw (of_meet s rows h.good h.meet, h.laws)

-- ── a call, by what it makes of rows in good order ──
-- refusal 2, of all but the area
abbrev fit_lengths : List ℕ → List ℕ → List ℕ → Bool
fit_lengths fresh records text = every (eqb (length fresh) fresh_bytes ∷ leb least_records (length records) ∷ leb least_answer (length text) ∷ [])

abbrev makes : Database → List ℕ → List ℕ → List ℕ → List ℕ → List Row → List Row
makes d q f r t rows = elim (fit_lengths f r t && in_order d.tables rows) [ true ↦ reply_rows d q f (length t) rows | false ↦ rows ]

-- a mark that is refused is a call that changes nothing
abbrev pub call_of : Database → StoreCall → Call
call_of d (transact q f r t) = History.transact (makes d q f r t)
call_of d (ask_mark o) = elim (leb least_mark (length o)) [ true ↦ History.ask_mark | false ↦ History.transact (λ (rows : List Row). rows) ]

fresh_bytes_lem : (q f r t : List ℕ) → of_bytes (transact q f r t) ≡ true → are_bytes f ≡ true
fresh_bytes_lem q f r t b = and_r (are_bytes q) (are_bytes f) (and_l (are_bytes q && are_bytes f) (are_bytes r) (and_l (are_bytes q && are_bytes f && are_bytes r) (are_bytes t) b))

module _ (d : Database) (h : sane d ≡ true) (q f r t : List ℕ) (b : are_bytes f ≡ true) where
  fresh_sized : (rows : List Row) → (fit_lengths f r t && in_order d.tables rows) ≡ true → length f ≡ fresh_bytes
  fresh_sized rows e =
      eqb-true (length f) fresh_bytes (parts (eqb (length f) fresh_bytes ∷ leb least_records (length r) ∷ leb least_answer (length t) ∷ []) (and_l (fit_lengths f r t) (in_order d.tables rows) e)).0

  makes_stored : (rows : List Row) → InOrder d.tables rows → InOrder d.tables (makes d q f r t rows)
  makes_stored rows w =
      by_test (InOrder d.tables) (fit_lengths f r t && in_order d.tables rows)
      (λ e. rows_keep d q f (length t) rows h (fresh_sized rows e) b w) (λ e. w)

  makes_good : (rows : List Row) → Good d.tables rows → Good d.tables (makes d q f r t rows)
  makes_good rows g =
      by_test (Good d.tables) (fit_lengths f r t && in_order d.tables rows)
      (λ e. (rows_keep d q f (length t) rows h (fresh_sized rows e) b (stored_of d.tables rows (and_r (fit_lengths f r t) (in_order d.tables rows) e))).good) (λ e. g)

-- ── a history's call on a state ──
module _ (s : Schema) (run : ℕ) (st : State) (f : List Row → List Row) where
  -- one that leaves the rows leaves the state
  same_changes : Sorted st.rows → f st.rows ≡ st.rows → changes_of s run st (History.transact f) ≡ []
  same_changes o e = split (room s run st f) (λ h. rw (h, e, diff_self s st.rows o)) (λ h. rw h)

  same_rows : f st.rows ≡ st.rows → rows_after s run st (History.transact f) ≡ st.rows
  same_rows e = split (room s run st f) (λ h. rw (h, e)) (λ h. rw h)

  -- rows in good order stay so
  after_stored : InOrder s st.rows → InOrder s (f st.rows) → InOrder s (rows_after s run st (History.transact f))
  after_stored w v = split (room s run st f) (λ h. rw h v) (λ h. rw h w)

-- a buffer that is long enough
pub filled_is : (n : ℕ) (b : List ℕ) → length b ≤ n → filled n b ≡ b ++ replicate (n - length b) 0
filled_is n b h =
    let e : n ≡ length b + (n - length b) = omega arith in
    ap (λ (k : ℕ). take k (b ++ replicate n 0)) e ∙ take-append-add b (replicate n 0) (n - length b) ∙ ap (λ (l : List ℕ). b ++ l) (take_zeros (n - length b) n (omega arith))
  where
    take_zeros : (k m : ℕ) → k ≤ m → take {A = ℕ} k (replicate m 0) ≡ replicate k 0
    take_zeros zero m l = refl
    take_zeros (suc k) zero l = absurd (omega arith)
    take_zeros (suc k) (suc m) l = ap (λ (x : List ℕ). 0 ∷ x) (take_zeros k m (omega arith))

-- nothing written leaves zeros
pub no_bytes : (n : ℕ) → filled n [] ≡ replicate n 0
no_bytes n = filled_is n [] (omega arith) ∙ ap (λ (k : ℕ). replicate k 0) (let e : n - 0 ≡ n = omega arith in e)

pub none_there : (n : ℕ) → pieces (replicate n 0) ≡ []
none_there n = pieces_of [] n tt

module _ (s : Schema) (run : ℕ) (n : ℕ) (before after : List Row) (k : ℕ) (g : Good s before) (h : Good s after) where
  pub commit_filled : narrow s ≡ true → run < 256 ^ 4 → k + length (diff s before after) ≤ last_number → least_records ≤ n
      → pieces (filled n (flat (map encode (number_from run k (diff s before after))))) ≡ map encode (number_from run k (diff s before after))
  commit_filled w u l e =
      let b : List ℕ = flat (map encode (number_from run k (diff s before after))) in
      ap pieces (filled_is n b (omega (arith, commit_length s run k before after g h w))) ∙ commit_pieces s run k before after g h u l (n - length b)

-- ── the calls, opened ──
module _ (area q f r t : List ℕ) where
  transact_short : lengths_good area f r t ≡ false → store_transact area q f r t ≡ transact_refused WrongLength area r t
  unfolding store_transact
  transact_short h =
      by_test (λ (z : Transacted). z ≡ transact_refused WrongLength area r t) (lengths_good area f r t) (λ e. absurd (clash (lengths_good area f r t) e h)) (λ e. refl)

  pub transact_there : (st : Store) → lengths_good area f r t ≡ true → store_of area ≡ Some st → store_transact area q f r t ≡ transact_replied area r t st (reply_of st q f (length t))
  unfolding store_transact
  transact_there st h e =
      by_test (λ (z : Transacted). z ≡ transact_replied area r t st (reply_of st q f (length t))) (lengths_good area f r t) (λ x. ap (transact_on area q f r t) e) (λ x. absurd (clash (lengths_good area f r t) h x))

module _ (area out : List ℕ) where
  abbrev mark_tests : List Bool
  mark_tests = eqb (length area) store_bytes ∷ leb least_mark (length out) ∷ []

  mark_short : every mark_tests ≡ false → (store_mark area out).mark ≡ zeroed out
  unfolding store_mark
  mark_short h = by_test (λ (z : Marked). z.mark ≡ zeroed out) (every mark_tests) (λ e. absurd (clash (every mark_tests) e h)) (λ e. refl)

  mark_there : (st : Store) → every mark_tests ≡ true → store_of area ≡ Some st → (store_mark area out).mark ≡ filled (length out) (encode (mark st.run st.number))
  unfolding store_mark
  mark_there st h e =
      by_test (λ (z : Marked). z.mark ≡ filled (length out) (encode (mark st.run st.number))) (every mark_tests) (λ x. ap (λ (o : Option Store). (mark_on out o).mark) e)
      (λ x. absurd (clash (every mark_tests) h x))

-- ── one call ──
-- the store that a history's state is
abbrev pub store_at : Database → ℕ → State → Store
store_at d run σ = record { run = run; number = σ.last; database = d; rows = σ.rows }

module _ (d : Database) (run : ℕ) where
  -- what a call on a state's area gives is what a history's call on the state gives
  pub record Called (σ : State) (c : StoreCall) (k : Call) : Type 0 where
    pub good : store_good (store_at d run (state_after d.tables run σ k)) ≡ true
    pub area : area_after (encode_store (store_at d run σ)) c ≡ encode_store (store_at d run (state_after d.tables run σ k))
    pub records : records_in (encode_store (store_at d run σ)) c ≡ map encode (number_from run σ.last (changes_of d.tables run σ k))
    pub sent : sent_in (encode_store (store_at d run σ)) c ≡ map encode (records_of d.tables run σ k)

  module _ (σ : State) (g : store_good (store_at d run σ) ≡ true) where
    abbrev s : Schema
    s = d.tables

    abbrev before : List ℕ
    before = encode_store (store_at d run σ)

    -- an area and a records buffer are those of a history's call
    abbrev Gives : Call → Transacted → Type 0
    Gives c z =
        (z.area ≡ encode_store (store_at d run (state_after s run σ c)))
        × (pieces z.records ≡ map encode (number_from run σ.last (changes_of s run σ c)))

    fine : StoreFine (store_at d run σ)
    fine = store_parts (store_at d run σ) g

    sound : sane d ≡ true
    sound = fine.accepted

    stored : InOrder s σ.rows
    stored = record { good = fine.rows; meet = fine.meets; laws = fine.lawful }

    there : store_of before ≡ Some (store_at d run σ)
    there = store_of_encode (store_at d run σ) g

    sized : length before ≡ store_bytes
    sized = store_of_length before (store_at d run σ) there

    -- the store after a call is in good order
    good_after : (c : Call) → InOrder s (rows_after s run σ c) → store_good (store_at d run (state_after s run σ c)) ≡ true
    good_after c w =
        store_whole (store_at d run (state_after s run σ c))
        (record {
          accepted = fine.accepted;
          run = fine.run;
          number = omega (arith, call_room s run σ c (omega (arith, fine.number)));
          rows = w.good;
          meets = w.meet;
          lawful = w.laws;
        })

    -- a call that leaves the state and sends nothing
    idle : (c : Call) → rows_after s run σ c ≡ σ.rows → changes_of s run σ c ≡ [] → (z : Transacted) → z.area ≡ before → pieces z.records ≡ [] → Gives c z
    idle c e n z p q = (
      p ∙ (λ i. encode_store (record { run = run; number = (sym (add-zero σ.last) ∙ ap (λ (l : List Change). σ.last + length l) (sym n)) i; database = d; rows = sym e i })),
      q ∙ ap (λ (l : List Change). map encode (number_from run σ.last l)) (sym n),
    )

    module _ (q f r t : List ℕ) where
      abbrev call : Call
      call = History.transact (makes d q f r t)

      lengths_are : lengths_good before f r t ≡ fit_lengths f r t
      lengths_are = rw (eq-eqb (length before) store_bytes sized)

      -- the reply on the state
      abbrev said : Reply
      said = reply_of (store_at d run σ) q f (length t)

      replied : AsCall s σ.last σ.rows said (reply_rows d q f (length t) σ.rows)
      replied = reply_call d σ.last σ.rows q f (length t) stored.good.sorted

      module _ (h : fit_lengths f r t ≡ true) where
        makes_is : makes d q f r t σ.rows ≡ reply_rows d q f (length t) σ.rows
        makes_is =
            let p : (fit_lengths f r t && in_order s σ.rows) ≡ true = rw (h, of_stored s σ.rows stored) in
            by_test (λ (z : List Row). z ≡ reply_rows d q f (length t) σ.rows) (fit_lengths f r t && in_order s σ.rows) (λ e. refl) (λ e. absurd (clash (fit_lengths f r t && in_order s σ.rows) p e))

        rows_are : said.rows ≡ rows_after s run σ call
        rows_are = replied.after ∙ rw makes_is

        changes_are : said.changes ≡ changes_of s run σ call
        changes_are = replied.written ∙ rw makes_is

        module _ (w : Good s (makes d q f r t σ.rows)) where
          written : pieces (filled (length r) (flat (map encode (number_from run σ.last (changes_of s run σ call))))) ≡ map encode (number_from run σ.last (changes_of s run σ call))
          written =
              let p = parts (eqb (length f) fresh_bytes ∷ leb least_records (length r) ∷ leb least_answer (length t) ∷ []) h in
              split (room s run σ (makes d q f r t))
              (λ e. rw e (commit_filled s run (length r) σ.rows (makes d q f r t σ.rows) σ.last stored.good w (sane_kept d sound).narrow fine.run
              (leb-true (σ.last + length (diff s σ.rows (makes d q f r t σ.rows))) last_number e) (leb-true least_records (length r) p.1.0)))
              (λ e. rw e (ap pieces (no_bytes (length r)) ∙ none_there (length r)))

          gives : Gives call (transact_replied before r t (store_at d run σ) said)
          gives =
              by_test (Gives call) (is_refusal said.status)
              (λ e. idle call (sym rows_are ∙ (replied.refuses e).0) (sym changes_are ∙ (replied.refuses e).1) (transact_refused said.status before r t) refl (none_there (length r)))
              (λ e. (
                λ i. encode_store (record { run = run; number = σ.last + length (changes_are i); database = d; rows = rows_are i }),
                ap (λ (l : List Change). pieces (filled (length r) (flat (map encode (number_from run σ.last l))))) changes_are ∙ written,
              ))

    -- a transact
    module _ (q f r t : List ℕ) (b : are_bytes f ≡ true) where
      transact_gives : Gives (History.transact (makes d q f r t)) (store_transact before q f r t)
      transact_gives = split (fit_lengths f r t)
          (λ h. rw (transact_there before q f r t (store_at d run σ) (lengths_are q f r t ∙ h) there) (gives q f r t h (makes_stored d sound q f r t b σ.rows stored).good))
          (λ h.
          let n : makes d q f r t σ.rows ≡ σ.rows =
          by_test (λ (z : List Row). z ≡ σ.rows) (fit_lengths f r t && in_order s σ.rows) (λ e. absurd (clash (fit_lengths f r t) (and_l (fit_lengths f r t) (in_order s σ.rows) e) h)) (λ e. refl) in
          rw (transact_short before q f r t (lengths_are q f r t ∙ h))
          (idle (History.transact (makes d q f r t)) (same_rows s run σ (makes d q f r t) n) (same_changes s run σ (makes d q f r t) stored.good.sorted n) (transact_refused WrongLength before r t) refl (none_there (length r))))

      transact_called : Called σ (transact q f r t) (call_of d (transact q f r t))
      transact_called = record {
        good = good_after (History.transact (makes d q f r t)) (after_stored s run σ (makes d q f r t) stored (makes_stored d sound q f r t b σ.rows stored));
        area = transact_gives.0;
        records = transact_gives.1;
        sent = transact_gives.1;
      }

    -- a mark, given or refused
    mark_called : (o : List ℕ) → Called σ (ask_mark o) (call_of d (ask_mark o))
    mark_called o =
        let tests : every (mark_tests before o) ≡ leb least_mark (length o) = rw (eq-eqb (length before) store_bytes sized) (and_true (leb least_mark (length o))) in
        by_test (Called σ (ask_mark o)) (leb least_mark (length o))
        (λ h.
        let b : List ℕ = encode (mark run σ.last) in
        let e : pieces (filled (length o) b) ≡ b ∷ [] =
        ap pieces (filled_is (length o) b (omega (arith, leb-true least_mark (length o) h)) ∙ ap (λ (l : List ℕ). l ++ replicate (length o - length b) 0) (sym (append-nil b)))
        ∙ pieces_of (mark run σ.last ∷ []) (length o - length b) ((fine.run, fine.number), tt) in
        record {
          good = good_after History.ask_mark stored;
          area = λ i. encode_store (record { run = run; number = sym (add-zero σ.last) i; database = d; rows = σ.rows });
          records = refl;
          sent = ap pieces (mark_there before o (store_at d run σ) (tests ∙ h) there) ∙ e;
        })
        (λ h.
        let idly = idle (History.transact (λ (rows : List Row). rows)) (same_rows s run σ (λ (rows : List Row). rows) refl) (same_changes s run σ (λ (rows : List Row). rows) stored.good.sorted refl) (transact_refused WrongLength before [] []) refl refl in
        record {
          good = good_after (History.transact (λ (rows : List Row). rows)) (after_stored s run σ (λ (rows : List Row). rows) stored stored);
          area = idly.0;
          records = idly.1;
          sent = ap pieces (mark_short before o (tests ∙ h)) ∙ none_there (length o) ∙ idly.1;
        })
      where
        and_true : (b : Bool) → (b && true) ≡ b
        and_true true = refl
        and_true false = refl

    pub called : (c : StoreCall) → of_bytes c ≡ true → Called σ c (call_of d c)
    called (transact q f r t) b = transact_called q f r t (fresh_bytes_lem q f r t b)
    called (ask_mark o) b = mark_called o

-- each call keeps what holds of a store's rows
pub calls_keep : (d : Database) → sane d ≡ true → (cs : List StoreCall) → all of_bytes cs ≡ true → Keeps d.tables (map (call_of d) cs)
calls_keep d h [] b = tt
calls_keep d h (transact q f r t ∷ cs) b =
    ((λ rows g. makes_good d h q f r t (fresh_bytes_lem q f r t (all_head of_bytes (transact q f r t) cs b)) rows g), calls_keep d h cs (all_tail of_bytes (transact q f r t) cs b))
calls_keep d h (ask_mark o ∷ cs) b =
    let rest = calls_keep d h cs (all_tail of_bytes (ask_mark o) cs b) in
    by_test (λ (k : Call). Keeps d.tables (k ∷ map (call_of d) cs)) (leb least_mark (length o)) (λ e. rest) (λ e. ((λ rows g. g), rest))
