-- Demand 1: every call ends with its answer or with the first refusal that applies, exactly when it applies; a refused call leaves its area and zeroes the rest. Assumes nothing.
use Rattle.std.specs.Prelude.{Option, Some, None}
use mathlib.Core.Path.{◌≡◌, refl, ◌∙◌, ap}
use mathlib.Core.Bool.{Bool, true, false, not, ◌&&◌}
use mathlib.Core.List.{List, [], ◌∷◌}
use Prim.Native.Nat.{ℕ, suc, ◌+◌}
use lib.Dec.{eqb, leb}
use lib.ListN.{length}
use Rattle.model.specs.Sane.{sane}
use Rattle.model.specs.Octets.{eq_bytes}
use Rattle.model.specs.Limits.{least_mark, last_number, store_bytes, mirror_bytes}
use Rattle.model.specs.Base.{every, is_some}
use Rattle.model.specs.Schema.{Schema, Database}
use Rattle.model.specs.SchemaText.{read_schema}
use Rattle.model.specs.Rows.{Row}
use Rattle.model.specs.Transact.{Request, read_request, fresh_ids, ids_good, transact_rows}
use Rattle.model.specs.Refusals.{number_of, is_refusal}
use Rattle.model.specs.Replies.{Reply, reply, changes_of, refused, reply_to, named, freshly, concluded}
use Rattle.model.specs.Replies as Replies
use Rattle.model.specs.Records.{Change, Record, numbered, mark, decode}
use Rattle.model.specs.Mirror.{Mirror, bad, Step, on_read, step}
use Rattle.model.specs.Value.{meets}
use Rattle.model.specs.Commit.{lawful}
use Rattle.model.specs.Areas.{rows_pass, Store, store_of, MirrorState, mirror_of, store_good, head_tests}
use Rattle.model.specs.Calls.{Transacted, transact_refused, Marked, Arrived, start_as, store_start, mirror_start, zeroed, lengths_good, reply_of, store_transact, transact_on, transact_replied, store_mark, mark_on, mirror_hear, hear_on, hear_step}
use Rattle.model.specs.Laid.{store_or, request_or, mirror_or}
use Rattle.model.specs.FirstRefusal.{Condition, given, start_conditions, store_start_number, mirror_start_number, transact_conditions, transact_number, mark_conditions, mark_number, record_conditions, hear_conditions, heard_as, hear_number}
use Rattle.model.specs.Demands.{StoreStartEnds, MirrorStartEnds, HearEnds}
use Rattle.model.specs.declared.Status.TheVariants.{Accepted, WrongLength, OtherDatabase, BadFreshIds, AnswerTooLong, NumbersSpent}
use Rattle.model.proofs.Tests.{split, clash, and_l, parts}
use Rattle.model.proofs.Areas.{store_of_is}
use Rattle.model.proofs.Laid.{laid_text, laid_changes}

-- by what there is, with its equation
pub look : {A P : Type 0} (o : Option A) → (o ≡ None → P) → ((a : A) → o ≡ Some a → P) → P
look None f g = f refl
look (Some a) f g = g a refl

-- the number of the first condition that applies, of those in a list that is in the paper's order
abbrev first : ℕ → List Condition → ℕ
first d [] = d
first d (c ∷ cs) = elim c.applies [ true ↦ c.number | false ↦ first d cs ]

-- one condition more in front of those of what comes where it does not apply
chosen : {A : Type 0} (number : A → ℕ) (d : ℕ) (b : Bool) (k : ℕ) (cs : List Condition) (x y : A) → number x ≡ k → number y ≡ first d cs
    → number (elim b [ true ↦ y | false ↦ x ]) ≡ first d (record { number = k; applies = not b } ∷ cs)
chosen number d true k cs x y p q = q
chosen number d false k cs x y p q = p

-- ── starting ──
starts : (bytes : ℕ) (area schema : List ℕ) (made : Database → List ℕ) → number_of (start_as bytes area schema made).status ≡ given (start_conditions bytes area schema) 0
starts bytes area schema made = split (eqb (length area) bytes)
    (λ e. look (read_schema schema) (λ f. rw (start_as, e, f)) (λ d f. rw (start_as, e, f)))
    (λ e. rw (start_as, e))

starts_refused : (bytes : ℕ) (area schema : List ℕ) (made : Database → List ℕ) → is_refusal (start_as bytes area schema made).status ≡ true → (start_as bytes area schema made).area ≡ area
starts_refused bytes area schema made = split (eqb (length area) bytes)
    (λ e. look (read_schema schema) (λ f. rw (start_as, e, f) (λ h. refl)) (λ d f. rw (start_as, e, f) (λ h. absurd (clash false h refl))))
    (λ e. rw (start_as, e) (λ h. refl))

pub starts_accepted : (bytes : ℕ) (area schema : List ℕ) (made : Database → List ℕ) → is_refusal (start_as bytes area schema made).status ≡ false
    → (d : Database) × (read_schema schema ≡ Some d) × ((start_as bytes area schema made).area ≡ made d)
starts_accepted bytes area schema made h = split (eqb (length area) bytes)
    (λ e. look (read_schema schema)
    (λ f. absurd (clash true refl (rw (start_as, e, f) at h)))
    (λ d f. (d, f, rw (start_as, e, f))))
    (λ e. absurd (clash true refl (rw (start_as, e) at h)))

pub store_start_first : (area schema : List ℕ) (run : ℕ) → number_of (store_start area schema run).status ≡ store_start_number area schema
unfolding store_start store_start_number
store_start_first area schema run = starts store_bytes area schema _

pub store_start_ends : (area schema : List ℕ) (run : ℕ) → StoreStartEnds area schema run
unfolding store_start
store_start_ends area schema run = (
  record { first = store_start_first area schema run; refused = λ h. (starts_refused store_bytes area schema _ h, tt); accepted = λ h. tt },
  λ h. starts_accepted store_bytes area schema _ h,
)

pub mirror_start_first : (area schema : List ℕ) (run : ℕ) → number_of (mirror_start area schema run).status ≡ mirror_start_number area schema
unfolding mirror_start mirror_start_number
mirror_start_first area schema run = starts mirror_bytes area schema _

pub mirror_start_ends : (area schema : List ℕ) (run : ℕ) → MirrorStartEnds area schema run
unfolding mirror_start
mirror_start_ends area schema run = (
  record { first = mirror_start_first area schema run; refused = λ h. (starts_refused mirror_bytes area schema _ h, tt); accepted = λ h. tt },
  λ h. starts_accepted mirror_bytes area schema _ h,
)

-- ── transact ──
-- the schema of a store in good order keeps every rule
pub holds_schema : (area : List ℕ) (st : Store) → store_of area ≡ Some st → sane st.database ≡ true
unfolding store_good
holds_schema area st e =
    let g = (store_of_is area st e).1 in
    let p = and_l (every (head_tests st) && rows_pass meets st.database.tables st.rows) (lawful st.database.tables st.rows) g in
    (parts (head_tests st) (and_l (every (head_tests st)) (rows_pass meets st.database.tables st.rows) p)).0

abbrev behind : List Condition → List Condition
behind [] = []
behind (c ∷ cs) = cs

-- the refusals that a reply has, by the text and the changes that there are to be
abbrev reply_conditions : Database → ℕ → List Row → List ℕ → ℕ → Request → List ℕ → List Change → List Condition
reply_conditions d number rows ids room q text es =
    record { number = 5; applies = not (eq_bytes q.name d.name) }
    ∷ record { number = 6; applies = not (ids_good ids rows) }
    ∷ record { number = 7; applies = not (leb (length text) room) }
    ∷ record { number = 10; applies = not (leb (number + length es) last_number) }
    ∷ []

reply_number : Reply → ℕ
reply_number r = number_of r.status

named_first : (d : Database) (number : ℕ) (rows : List Row) (ids : List ℕ) (room : ℕ) (q : Request)
    → let t = transact_rows d.tables ids rows q.operations in
    number_of (named d number rows ids room q).status ≡ first 0 (reply_conditions d number rows ids room q t.text (changes_of d.tables rows t))
unfolding reply_number
named_first d number rows ids room q =
    let t = transact_rows d.tables ids rows q.operations in
    let es = changes_of d.tables rows t in
    let cs = reply_conditions d number rows ids room q t.text es in
    chosen reply_number 0 (eq_bytes q.name d.name) 5 (behind cs) (refused OtherDatabase rows) (freshly d.tables number rows ids room q) refl
    (chosen reply_number 0 (ids_good ids rows) 6 (behind (behind cs)) (refused BadFreshIds rows) (concluded d.tables number rows room t) refl
    (chosen reply_number 0 (leb (length t.text) room) 7 (behind (behind (behind cs))) (refused AnswerTooLong rows) (Replies.numbered number rows t es) refl
    (chosen reply_number 0 (leb (number + length es) last_number) 10 [] (refused NumbersSpent rows) (record { status = Accepted; rows = t.rows; changes = es; text = t.text }) refl refl)))

reply_first : (d : Database) (number : ℕ) (rows : List Row) (request fresh : List ℕ) (room : ℕ)
    → let q = request_or (read_request request) in
    let t = transact_rows d.tables (fresh_ids fresh) rows q.operations in
    number_of (reply d number rows request fresh room).status
    ≡ first 0 (record { number = 4; applies = not (is_some (read_request request)) } ∷ reply_conditions d number rows (fresh_ids fresh) room q t.text (changes_of d.tables rows t))
reply_first d number rows request fresh room = go (read_request request)
  where
    go : (o : Option Request)
        → let q = request_or o in
        let t = transact_rows d.tables (fresh_ids fresh) rows q.operations in
        number_of (reply_to d number rows (fresh_ids fresh) room o).status
        ≡ first 0 (record { number = 4; applies = not (is_some o) } ∷ reply_conditions d number rows (fresh_ids fresh) room q t.text (changes_of d.tables rows t))
    go None = refl
    go (Some q) = named_first d number rows (fresh_ids fresh) room q

replied : (area records text : List ℕ) (st : Store) (r : Reply) → (transact_replied area records text st r).status ≡ r.status
replied area records text st r = split (is_refusal r.status) (λ e. rw (transact_replied, e)) (λ e. rw (transact_replied, e))

transact_as : Transacted → ℕ
transact_as t = number_of t.status

-- what comes once the lengths are right, by the area
abbrev store_conditions : List ℕ → List ℕ → ℕ → Option Store → List ℕ → List Change → List Condition
store_conditions request fresh room o text es =
    let st = store_or o in
    record { number = 1; applies = not (is_some o) }
    ∷ record { number = 3; applies = not (sane st.database) }
    ∷ record { number = 4; applies = not (is_some (read_request request)) }
    ∷ reply_conditions st.database st.number st.rows (fresh_ids fresh) room (request_or (read_request request)) text es

on_first : (area request fresh records text : List ℕ) (o : Option Store) → store_of area ≡ o
    → let st = store_or o in
    let d = st.database in
    let t = transact_rows d.tables (fresh_ids fresh) st.rows (request_or (read_request request)).operations in
    number_of (transact_on area request fresh records text o).status ≡ first 0 (store_conditions request fresh (length text) o t.text (changes_of d.tables st.rows t))
on_first area request fresh records text None e = refl
on_first area request fresh records text (Some st) e =
    rw (holds_schema area st e) (ap number_of (replied area records text st (reply_of st request fresh (length text))) ∙ reply_first st.database st.number st.rows request fresh (length text))

pub transact_first : (area request fresh records text : List ℕ)
    → number_of (store_transact area request fresh records text).status ≡ transact_number area request fresh records text
unfolding store_transact transact_as transact_number
transact_first area request fresh records text =
    let cs = transact_conditions area request fresh records text in
    chosen transact_as 0 (lengths_good area fresh records text) 2 (behind cs) (transact_refused WrongLength area records text) (transact_on area request fresh records text (store_of area)) refl
    (on_first area request fresh records text (store_of area) refl
    ∙ (λ i. first 0 (store_conditions request fresh (length text) (store_of area) (laid_text area request fresh i) (laid_changes area request fresh i))))

-- a refused transact leaves the area, and every other buffer is zero over its whole length
abbrev Untouched : List ℕ → List ℕ → List ℕ → Transacted → Type 0
Untouched area records text t = (t.area ≡ area) × (t.records ≡ zeroed records) × (t.text ≡ zeroed text)

pub transact_refused_lem : (area request fresh records text : List ℕ) → is_refusal (store_transact area request fresh records text).status ≡ true
    → Untouched area records text (store_transact area request fresh records text)
unfolding store_transact
transact_refused_lem area request fresh records text = split (lengths_good area fresh records text)
    (λ e. rw (store_transact, e) (go (store_of area)))
    (λ e. rw (store_transact, e) (λ h. (refl, refl, refl)))
  where
    on : (st : Store) (r : Reply) → is_refusal (transact_replied area records text st r).status ≡ true → Untouched area records text (transact_replied area records text st r)
    on st r = split (is_refusal r.status)
        (λ e. rw (transact_replied, e) (λ h. (refl, refl, refl)))
        (λ e. rw (transact_replied, e) (λ h. absurd (clash (is_refusal r.status) h e)))

    go : (o : Option Store) → is_refusal (transact_on area request fresh records text o).status ≡ true → Untouched area records text (transact_on area request fresh records text o)
    go None h = (refl, refl, refl)
    go (Some st) h = on st (reply_of st request fresh (length text)) h

-- ── mark ──
mark_as : Marked → ℕ
mark_as m = number_of m.status

pub mark_first : (area out : List ℕ) → number_of (store_mark area out).status ≡ mark_number area out
unfolding store_mark mark_as mark_number
mark_first area out =
    chosen mark_as 0 (every (eqb (length area) store_bytes ∷ leb least_mark (length out) ∷ [])) 2 (behind (mark_conditions area out)) (record { status = WrongLength; mark = zeroed out }) (mark_on out (store_of area)) refl
    (go (store_of area))
  where
    go : (o : Option Store) → number_of (mark_on out o).status ≡ first 0 (record { number = 1; applies = not (is_some o) } ∷ [])
    go None = refl
    go (Some st) = refl

pub mark_refused : (area out : List ℕ) → is_refusal (store_mark area out).status ≡ true → (store_mark area out).mark ≡ zeroed out
unfolding store_mark
mark_refused area out = split (every (eqb (length area) store_bytes ∷ leb least_mark (length out) ∷ []))
    (λ e. rw (store_mark, e) (go (store_of area)))
    (λ e. rw (store_mark, e) (λ h. refl))
  where
    go : (o : Option Store) → is_refusal (mark_on out o).status ≡ true → (mark_on out o).mark ≡ zeroed out
    go None h = refl
    go (Some st) h = absurd (clash false h refl)

-- ── arrivals ──
pub step_first : (s : Schema) (run : ℕ) (m : Mirror) (o : Option Record)
    → number_of (on_read s run m o).status ≡ given (record_conditions s run m o) (heard_as m.n o)
step_first s run m None = refl
step_first s run m (Some (mark u k)) = split (eqb u run) (λ e. rw e) (λ e. rw e)
step_first s run m (Some (numbered u k e)) = split (bad s m k e)
    (λ p. rw p)
    (λ p. split (eqb u run)
    (λ q. split (leb k m.n) (λ x. rw (p, q, x)) (λ x. split (eqb k (suc m.n)) (λ y. rw (p, q, x, y)) (λ y. rw (p, q, x, y))))
    (λ q. rw (p, q)))

heard_answer : (area : List ℕ) (m : MirrorState) (x : Step) → (hear_step area m x).status ≡ x.status
heard_answer area m x = split (is_refusal x.status) (λ e. rw (hear_step, e)) (λ e. rw (hear_step, e))

hear_as : Arrived → ℕ
hear_as a = number_of a.status

pub hear_first : (area x : List ℕ) → number_of (mirror_hear area x).status ≡ hear_number area x
unfolding mirror_hear hear_as hear_number
hear_first area x =
    chosen hear_as (heard_as (mirror_or (mirror_of area)).mirror.n (decode x)) (eqb (length area) mirror_bytes) 2 (behind (hear_conditions area x)) (record { status = WrongLength; area = area }) (hear_on area x (mirror_of area)) refl
    (go (mirror_of area))
  where
    go : (o : Option MirrorState)
        → let m = mirror_or o in
        number_of (hear_on area x o).status
        ≡ first (heard_as m.mirror.n (decode x)) (record { number = 1; applies = not (is_some o) } ∷ record_conditions m.database.tables m.run m.mirror (decode x))
    go None = refl
    go (Some m) = ap number_of (heard_answer area m (step m.database.tables m.run m.mirror x)) ∙ step_first m.database.tables m.run m.mirror (decode x)

pub hear_refused : (area x : List ℕ) → is_refusal (mirror_hear area x).status ≡ true → (mirror_hear area x).area ≡ area
unfolding mirror_hear
hear_refused area x = split (eqb (length area) mirror_bytes)
    (λ e. rw (mirror_hear, e) (go (mirror_of area)))
    (λ e. rw (mirror_hear, e) (λ h. refl))
  where
    on : (m : MirrorState) (y : Step) → is_refusal (hear_step area m y).status ≡ true → (hear_step area m y).area ≡ area
    on m y = split (is_refusal y.status)
        (λ e. rw (hear_step, e) (λ h. refl))
        (λ e. rw (hear_step, e) (λ h. absurd (clash (is_refusal y.status) h e)))

    go : (o : Option MirrorState) → is_refusal (hear_on area x o).status ≡ true → (hear_on area x o).area ≡ area
    go None h = refl
    go (Some m) h = on m (step m.database.tables m.run m.mirror x) h

pub hear_ends : (area x : List ℕ) → HearEnds area x
hear_ends area x = record { first = hear_first area x; refused = λ h. (hear_refused area x h, tt); accepted = λ h. tt }
