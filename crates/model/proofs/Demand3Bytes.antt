-- Demand 3 from bytes to bytes: one claim about a whole history of calls on a store's area and a whole list of arrivals at a mirror's. Assumes nothing.
use Rattle.std.specs.Prelude.{Option, Some}
use mathlib.Core.Path.{◌≡◌, refl, sym, ◌∙◌, ap, subst}
use mathlib.Core.Bool.{true, false}
use mathlib.Core.List.{List, [], ◌∷◌, map, Memᴰ}
use Prim.Native.Nat.{ℕ, zero, suc, ◌^◌, ◌≤◌, ◌<◌}
use native.Mathlib.Omega.{arith}
use lib.ListN.{length, get_or, take, length-map}
use Rattle.model.specs.Sane.{sane}
use Rattle.model.specs.Base.{all}
use Rattle.model.specs.Octets.{value}
use Rattle.model.specs.Rows.{key_of, has}
use Rattle.model.specs.Schema.{Schema, Database}
use Rattle.model.specs.SchemaText.{read_schema}
use Rattle.model.specs.Records.{Change, end, acts, Record, numbered, mark, number_from, encode, decode}
use Rattle.model.specs.Mirror.{Mirror, fresh, level, Step, on_read, step, number_carried, column_answer}
use Rattle.model.proofs.StateDemand.{through, heard_of}
use Rattle.model.specs.Refusals.{number_of, is_refusal}
use Rattle.model.specs.Areas.{Store, encode_store, store_of, encode_mirror, store_good}
use Rattle.model.specs.Limits.{store_bytes, mirror_bytes}
use Rattle.model.specs.Calls.{start_as, store_start, mirror_start, mirror_hear, Progress, mirror_progress}
use Rattle.model.specs.Histories.{StoreCall, of_bytes, area_after_all, records_of, sent_of, change_in, made, ends_commit, heard_all, Arrivals, heard_numbers}
use Rattle.model.proofs.StateHistory.{State, empty, Call, finally, changes, records, written}
use Rattle.model.proofs.StateDemand as OnStates
use Rattle.model.specs.FirstRefusal.{given, record_conditions, heard_as}
use Rattle.model.specs.Demands as claimed
use Rattle.model.specs.Demands.{left_by, Follows, Keeps, Demand3}
use Rattle.model.specs.declared.Status.{Status}
use Rattle.model.specs.declared.Status.TheVariants.{Accepted, Applied}
use Rattle.model.proofs.Lists.{all_take}
use Rattle.model.proofs.Bytes.{Fits, Wide, decode_encode}
use Rattle.model.proofs.Past.{past_chain, past_room, Issued, tell_mark, tell, issued, unmap}
use Rattle.model.proofs.Commits.{last_is}
use Rattle.model.proofs.Demand3 as OfStates
use Rattle.model.proofs.Demand3.{good_empty}
use Rattle.model.proofs.SchemaLaws.{read_sane}
use Rattle.model.proofs.Lengths.{AllFit, chain_fit, fit_wide}
use Rattle.model.proofs.Areas.{store_of_encode, mirror_of_encode}
use Rattle.model.proofs.Arrivals.{Said, unread, strange_mark, marked, unfit, strange, again, next, early, said}
use Rattle.model.proofs.Demand1.{starts_accepted, step_first}
use Rattle.model.proofs.States.{MirrorFine, mirror_whole, hear_answer, hear_area, fresh_fine, store_whole, start_fine}
use Rattle.model.proofs.StoreCalls.{store_at, call_of, calls_keep}
use Rattle.model.proofs.StoreHistory.{Lifted, lifted, said_changes, said_length, record_at, ends_same, map_take}
use Rattle.model.proofs.MirrorArrivals.{mirror_at, progress_is, has_row_is, column_is, arrivals_take, answer_at, area_at, good_at, came}

-- ── a started store and a started mirror ──
not_refused : (a : Status) → a ≡ Accepted → is_refusal a ≡ false
not_refused a e = ap is_refusal e

same_some : {A : Type 0} (x y : A) (o : Option A) → o ≡ Some x → o ≡ Some y → x ≡ y
same_some x y o p q = cc

start_is : (bytes : ℕ) (area schema : List ℕ) (made : Database → List ℕ) (d : Database) → read_schema schema ≡ Some d → (start_as bytes area schema made).status ≡ Accepted → (start_as bytes area schema made).area ≡ made d
start_is bytes area schema made d e h =
    let r = starts_accepted bytes area schema made (not_refused (start_as bytes area schema made).status h) in
    r.2 ∙ ap made (same_some r.0 d (read_schema schema) r.1 e)

store_start_lem : (old schema : List ℕ) (run : ℕ) (d : Database) → read_schema schema ≡ Some d → (store_start old schema run).status ≡ Accepted → (store_start old schema run).area ≡ encode_store (store_at d run empty)
unfolding store_start
store_start_lem old schema run d e h = start_is store_bytes old schema (λ (x : Database). encode_store (store_at x run empty)) d e h

mirror_start_lem : (old schema : List ℕ) (run : ℕ) (d : Database) → read_schema schema ≡ Some d → (mirror_start old schema run).status ≡ Accepted → (mirror_start old schema run).area ≡ encode_mirror (mirror_at d run fresh)
unfolding mirror_start
mirror_start_lem old schema run d e h = start_is mirror_bytes old schema (λ (x : Database). encode_mirror (mirror_at x run fresh)) d e h

fit_at : (es : List Change) (j : ℕ) → AllFit es → j < length es → Fits (get_or es j end)
fit_at [] j f h = absurd (omega arith)
fit_at (e ∷ es) zero f h = f.0
fit_at (e ∷ es) (suc j) f h = fit_at es j f.1 (omega arith)

carried : (l : Record) → Wide l → number_carried (Some l) < 256 ^ 4 → number_carried (decode (encode l)) < 256 ^ 4
carried l w h = rw (decode_encode l w) h

-- a step leaves what its answer's number says
left_by_lem : (s : Schema) (run : ℕ) (m : Mirror) (o : Option Record) → (on_read s run m o).next ≡ left_by s (number_of (on_read s run m o).status) m o
left_by_lem s run m o = go (said s run m o)
  where
    go : {o : Option Record} {x : Step} → Said s run m o x → x.next ≡ left_by s (number_of x.status) m o
    go unread = refl
    go (strange_mark u k p) = refl
    go (marked u k r) = refl
    go (unfit u k e p) = refl
    go (strange u k e p) = refl
    go (again u k e r z p) = refl
    go (next u k e b r p) = refl
    go (early u k e r p) = refl

-- ── the history ──
module _ (d : Database) (run : ℕ) (sound : sane d ≡ true) (short : run < 256 ^ 4) (calls : List StoreCall) (bytes : all of_bytes calls ≡ true) where
  abbrev s : Schema
  s = d.tables

  abbrev area : List ℕ
  area = encode_store (store_at d run empty)

  abbrev history : List Call
  history = map (call_of d) calls

  abbrev R : List Change
  R = changes s run empty history

  abbrev recs : List (List ℕ)
  recs = records_of area calls

  start : store_good (store_at d run empty) ≡ true
  start = store_whole (store_at d run empty) (start_fine run d short sound)

  keeps : OnStates.Keeps s history
  keeps = calls_keep d sound calls bytes

  all_fit : AllFit R
  all_fit = chain_fit s R [] (finally s run empty history).rows (past_chain s run empty history keeps (good_empty s))

  few : length R ≤ 4294967295
  few = omega (arith, past_room s run empty history (omega arith))

  up_to : (j : ℕ) → Lifted d run empty (take j calls)
  up_to j = lifted d run empty (start) (take j calls) (all_take of_bytes j calls bytes)

  all_calls : Lifted d run empty calls
  all_calls = lifted d run empty (start) calls bytes

  records_are_lem : recs ≡ map encode (number_from run 0 R)
  records_are_lem = all_calls.records

  changes_are : map change_in recs ≡ R
  changes_are = ap (map change_in) records_are_lem ∙ said_changes run 0 R (fit_wide run 0 R short (omega (arith, few)) all_fit)

  count : length recs ≡ length R
  count = ap length records_are_lem ∙ said_length run 0 R

  -- the store after so many calls
  abbrev after : ℕ → State
  after j = finally s run empty (map (call_of d) (take j calls))

  after_is : (j : ℕ) → finally s run empty (take j history) ≡ after j
  after_is j = ap (finally s run empty) (sym (map_take (call_of d) j calls))

  store_after_lem : (j : ℕ) → store_of (area_after_all area (take j calls)) ≡ Some (store_at d run (after j))
  store_after_lem j = ap store_of (up_to j).area ∙ store_of_encode (store_at d run (after j)) (up_to j).good

  history_keeps : Keeps d run area calls
  history_keeps = record {
    in_order = λ j. (
      store_at d run (after j),
      store_after_lem j,
      refl,
      refl,
      last_is s run empty (map (call_of d) (take j calls)) ∙ omega (arith, said_length run 0 (changes s run empty (map (call_of d) (take j calls))), ap length (up_to j).records),
    );
    laid = records_are_lem ∙ ap (λ (es : List Change). map encode (number_from run 0 es)) (sym changes_are);
  }

  -- ── what is sent carries numbers of their width ──
  issued_wide : (l : Record) → Issued run 0 R l → number_carried (decode (encode l)) < 256 ^ 4
  issued_wide l (tell_mark k h) = let n : k < 256 ^ 4 = omega (arith, few) in carried (mark run k) (short, n) n
  issued_wide l (tell j k e h p q) =
      let n : k < 256 ^ 4 = omega (arith, few) in
      let f : Fits e = rw q (fit_at R j all_fit h) in
      carried (numbered run k e) (short, n, f) n

  sent_wide : (x : List ℕ) → Memᴰ x (sent_of area calls) → number_carried (decode x) < 256 ^ 4
  sent_wide x b =
      let u = unmap (records s run empty history) x (rw all_calls.sent at b) in
      rw u.2 (issued_wide u.0 (issued s run empty history u.0 u.1))

  -- ── a mirror that follows the state's history follows the area's ──
  module _ (m : Mirror) (ks : List ℕ) (g : MirrorFine (mirror_at d run m)) (f : OnStates.Follows s run history m ks) where
    abbrev shown : List ℕ
    shown = encode_mirror (mirror_at d run m)

    next_is : m.n < length recs → get_or recs m.n [] ≡ encode (numbered run (suc m.n) (get_or R m.n end))
    next_is h = ap (λ (l : List (List ℕ)). get_or l m.n []) records_are_lem ∙ record_at run 0 R m.n (omega (arith, count)) ∙ ap (λ (k : ℕ). encode (numbered run (suc k) (get_or R m.n end))) (omega arith)

    next_wide : (h : m.n < length recs) → number_carried (decode (get_or recs m.n [])) < 256 ^ 4
    next_wide h =
        let l : m.n < length R = omega (arith, count) in
        let n : suc m.n < 256 ^ 4 = omega (arith, few) in
        subst (λ (x : List ℕ). number_carried (decode x) < 256 ^ 4) (sym (next_is h)) (carried (numbered run (suc m.n) (get_or R m.n end)) (short, n, fit_at R m.n all_fit l) n)

    next_moves : (h : m.n < length recs)
        → ((step s run m (get_or recs m.n [])).status ≡ Applied) × ((step s run m (get_or recs m.n [])).next.n ≡ suc m.n)
    next_moves h = f.moves (get_or recs m.n []) (omega (arith, count)) (next_is h)

    rows_made : made s (take m.n recs) ≡ acts s (take m.n R) []
    rows_made = λ i. acts s ((map_take change_in m.n recs ∙ ap (take m.n) changes_are) i) []

    ends_are : m.whole ≡ ends_commit recs m.n
    ends_are = f.whole ∙ sym (ap (λ (l : List (List ℕ)). ends_commit l m.n) records_are_lem ∙ ends_same run R m.n f.within)

    -- the mirror is just what its number and what it heard make
    abbrev M : Mirror
    M = claimed.mirror_at d run area calls m.n ks

    mirror_is : m ≡ M
    mirror_is i = record { rows = (f.rows ∙ sym rows_made) i; n = m.n; top = f.top i; heard = f.loud i; whole = ends_are i }

    answer_is : (x : List ℕ) → number_of (mirror_hear shown x).status ≡ number_of (step s run m x).status
    answer_is x = ap number_of (hear_answer (mirror_at d run m) g x)

    left_is : (x : List ℕ) → (mirror_hear shown x).area ≡ encode_mirror (mirror_at d run (left_by s (number_of (mirror_hear shown x).status) M (decode x)))
    left_is x =
        hear_area (mirror_at d run m) g x
        ∙ ap (λ (y : Mirror). encode_mirror (mirror_at d run y)) (left_by_lem s run m (decode x) ∙ (λ i. left_by s (sym (answer_is x) i) (mirror_is i) (decode x)))

    history_follows : Follows d run area calls shown ks
    history_follows = record {
      n = m.n;
      within = omega (arith, count, f.within);
      bytes = ap (λ (y : Mirror). encode_mirror (mirror_at d run y)) mirror_is;
      state = mirror_of_encode (mirror_at d run m) (mirror_whole (mirror_at d run m) g) ∙ ap (λ (y : Mirror). Some (mirror_at d run y)) mirror_is;
      tells = progress_is (mirror_at d run m) g ∙ ap (λ (y : Mirror). record { status = Accepted; n = m.n; level = level y }) mirror_is;
      tells_row = λ t id. has_row_is (mirror_at d run m) g t id ∙ ap (λ (y : Mirror). record { status = Accepted; there = has (key_of t (value id)) y.rows }) mirror_is;
      tells_column = λ t id c out l. column_is (mirror_at d run m) g t id c out l ∙ ap (λ (y : Mirror). record { status = Accepted; out = column_answer y t (value id) c }) mirror_is;
      answers = λ x. answer_is x ∙ step_first s run m (decode x) ∙ ap (λ (y : Mirror). given (record_conditions s run y (decode x)) (heard_as m.n (decode x))) mirror_is;
      leaves = left_is;
      moved = λ h. answer_at d run m g (get_or recs m.n []) ∙ (next_moves h).0;
      moves = λ h.
          let x : List ℕ = get_or recs m.n [] in
          ap (λ (a : List ℕ). (mirror_progress a).n) (area_at d run m g x)
          ∙ ap (λ (p : Progress). p.n) (progress_is (mirror_at d run (step s run m x).next) (good_at d run m g x (next_wide h))) ∙ (next_moves h).1;
      refuses_none = λ x b. ap is_refusal (answer_at d run m g x) ∙ f.refuses_none x (rw all_calls.sent at b);
      store = λ v j st e q.
          let p : store_at d run (after j) ≡ st = same_some (store_at d run (after j)) st (store_of (area_after_all area (take j calls))) (store_after_lem j) e in
          ap (λ (y : Mirror). y.rows) (sym mirror_is) ∙ f.store (sym level_shown ∙ v) j (ap (λ (z : State). z.last) (after_is j) ∙ ap (λ (z : Store). z.number) p ∙ q) ∙ ap (λ (z : State). z.rows) (after_is j) ∙ ap (λ (z : Store). z.rows) p;
      commit = λ v.
          let c = f.commit (sym level_shown ∙ v) in
          (c.0, store_at d run (after c.0), omega (arith, c.1, length-map calls (call_of d)), store_after_lem c.0, sym (ap (λ (z : State). z.last) (after_is c.0)) ∙ c.2);
    }
      where
        level_shown : (mirror_progress shown).level ≡ level m
        level_shown = ap (λ (p : Progress). p.level) (progress_is (mirror_at d run m) g)

  -- ── the claim, of areas as they were started ──
  abbrev begun : List ℕ
  begun = encode_mirror (mirror_at d run fresh)

  arrivals_follow : (xs : List (List ℕ)) → Arrivals (sent_of area calls) begun xs → (i : ℕ) → Follows d run area calls (heard_all begun (take i xs)) (heard_numbers begun (take i xs))
  arrivals_follow xs a i =
      let sent : List (List ℕ) = sent_of area calls in
      let new = fresh_fine run d short sound in
      let c = came d run sent sent_wide fresh new (take i xs) (arrivals_take sent begun xs i a) in
      let w : OnStates.Arrive s run (written s run empty history) fresh xs = subst (λ (l : List (List ℕ)). OnStates.Arrive s run l fresh xs) all_calls.sent (came d run sent sent_wide fresh new xs a).arrive in
      let f = history_follows (through s run fresh (take i xs)) (heard_of s run fresh (take i xs)) c.good (OfStates.demand3 s run short history keeps xs w i) in
      subst (λ (y : List ℕ). Follows d run area calls y (heard_numbers begun (take i xs))) (sym c.area)
      (subst (Follows d run area calls (encode_mirror (mirror_at d run (through s run fresh (take i xs))))) (sym c.numbers) f)

-- of a store's and a mirror's area that were started
abbrev Claim : Database → ℕ → List StoreCall → List ℕ → List ℕ → Type 0
Claim d run calls area shown =
    Keeps d run area calls
    × ((xs : List (List ℕ)) → Arrivals (sent_of area calls) shown xs → (i : ℕ) → Follows d run area calls (heard_all shown (take i xs)) (heard_numbers shown (take i xs)))

pub demand3 : Demand3
demand3 schema text d run old oldShown short e f a b calls bytes =
    let sound = read_sane schema d e in
    subst (λ (x : List ℕ). Claim d run calls x (mirror_start oldShown text run).area) (sym (store_start_lem old schema run d e a))
    (subst (Claim d run calls (encode_store (store_at d run empty))) (sym (mirror_start_lem oldShown text run d f b))
    (history_keeps d run sound short calls bytes, arrivals_follow d run sound short calls bytes))
