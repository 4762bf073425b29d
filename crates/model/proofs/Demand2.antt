-- Demand 2, of a transact on any bytes. Assumes nothing.
use Rattle.std.specs.Prelude.{Option, Some}
use mathlib.Core.Path.{◌≡◌, refl, sym, ◌∙◌, ap, subst}
use mathlib.Core.Logic.{◌↔◌}
use mathlib.Core.Bool.{Bool, true, false, not, ◌&&◌}
use mathlib.Core.List.{List, [], ◌∷◌, map}
use Prim.Native.Nat.{ℕ, suc, ◌+◌, ◌≤◌}
use native.Mathlib.Nat.{add-zero}
use native.Mathlib.Omega.{arith}
use lib.ListN.{length}
use Rattle.model.specs.Octets.{filled}
use Rattle.model.specs.Limits.{last_number}
use Rattle.model.specs.Base.{all, flat}
use Rattle.model.specs.Rows.{Row}
use Rattle.model.specs.Refusals.{is_refusal}
use Rattle.model.specs.Records.{Change, diff, number_from, encode, pieces}
use Rattle.model.specs.Areas.{Store, encode_store, store_good, store_of}
use Rattle.model.specs.Calls.{zeroed, reply_of, store_after, Transacted}
use Rattle.model.specs.Laid.{store_or, held, tables, kept, succeeds, rows_laid, changes_laid, records_laid, text_laid, store_laid}
use Rattle.model.specs.Demands.{call, commits, Transacts, Demand2}
use Rattle.model.proofs.Tests.{split, clash, and_l}
use Rattle.model.proofs.Order.{Good}
use Rattle.model.proofs.Octets.{octet}
use Rattle.model.proofs.Areas.{store_of_encode, store_of_is}
use Rattle.model.proofs.Same.{diff_self, diff_none}
use Rattle.model.proofs.StoreCalls.{filled_is, no_bytes, none_there, commit_filled}
use Rattle.model.proofs.Demand1.{transact_refused_lem}
use Rattle.model.proofs.Accepting.{fine_at, in_order, narrow_at, order_after, changes_between, reply_room, after_good, Given, given_is, records_fit_laid}

no_changes : (run k : ℕ) (es : List Change) → map encode (number_from run k es) ≡ [] → es ≡ []
no_changes run k [] h = refl
no_changes run k (e ∷ es) h = absurd (let y : ◌≡◌ {A = ℕ} 0 (suc (length (map encode (number_from run (suc k) es)))) = sym (ap length h) in omega arith)

-- a test that is not met for another reason
not_l : (b : Bool) → not b ≡ true → b ≡ false
not_l true h = absurd (clash false h refl)
not_l false h = refl

other : (b c : Bool) → (not b && c) ≡ false → b ≡ false → c ≡ false
other b c h e = rw e at h

module _ (area request fresh records text : List ℕ) where
  abbrev it : Transacted
  it = call area request fresh records text

  abbrev st : Store
  st = held area request fresh

  abbrev after : Store
  after = store_laid area request fresh

  abbrev es : List Change
  es = changes_laid area request fresh

  abbrev G : Type 0
  G = Given area request fresh records text

  -- no record is written exactly where nothing is laid down
  silent : (g : G) → es ≡ [] → it.records ≡ zeroed records
  silent g e = g.records_are ∙ ap (λ (l : List Change). filled (length records) (flat (map encode (number_from st.run st.number l)))) e ∙ no_bytes (length records)

  -- where an operation or a rule fails, nothing is
  failed : succeeds area request fresh ≡ false → (es ≡ []) × (rows_laid area request fresh ≡ st.rows)
  failed h = (
    ap (λ (b : Bool). elim b [ true ↦ diff (tables area request fresh) st.rows (kept area request fresh) | false ↦ [] ]) h,
    ap (λ (b : Bool). elim b [ true ↦ kept area request fresh | false ↦ st.rows ]) h,
  )

  same_area : (g : G) → es ≡ [] → rows_laid area request fresh ≡ st.rows → it.area ≡ area
  same_area g e p =
      g.area_is
      ∙ (λ i. encode_store (record { run = st.run; number = (ap (λ (l : List Change). st.number + length l) e ∙ add-zero st.number) i; database = st.database; rows = p i }))
      ∙ (store_of_is area st g.here).0

  stay : commits area request fresh records text ≡ false → (it.area ≡ area) × (it.records ≡ zeroed records)
  stay h = split (is_refusal it.status)
      (λ r. let u = transact_refused_lem area request fresh records text r in (u.0, u.1))
      (λ r.
      let g = given_is area request fresh records text r in
      let f = failed (other (is_refusal it.status) (succeeds area request fresh) h r) in
      (same_area g f.0 f.1, silent g f.0))

  module _ (b : all octet fresh ≡ true) (g : G) where
    -- the area after it is in good order, and holds the rows laid down
    holds : store_of it.area ≡ Some after
    holds =
        let e : store_after st (reply_of st request fresh (length text)) ≡ after =
        (λ i. record { run = st.run; number = st.number + length (g.changes i); database = st.database; rows = g.rows i }) in
        ap store_of g.area_is ∙ store_of_encode after (subst (λ (x : Store). store_good x ≡ true) e (after_good area st g.here request fresh (length text) g.sized b))

    -- the changes are those between the rows
    between : es ≡ diff (tables area request fresh) st.rows (rows_laid area request fresh)
    between = sym g.changes ∙ changes_between area st g.here request fresh (length text) g.sized b ∙ ap (diff (tables area request fresh) st.rows) g.rows

    abbrev Grown : List Row → Type 0
    Grown rows = Good (tables area request fresh) rows

    grown : Grown (rows_laid area request fresh)
    grown = subst Grown g.rows (order_after area st g.here request fresh (length text) g.sized b).good

    room : st.number + length (diff (tables area request fresh) st.rows (rows_laid area request fresh)) ≤ last_number
    room =
        let r = (reply_room st.number (length text) (omega (arith, (fine_at area st g.here).number)) st.database st.rows request fresh).last in
        subst (λ (l : List Change). st.number + length l ≤ last_number) (g.changes ∙ between) r

    quiet : it.records ≡ zeroed records → rows_laid area request fresh ≡ st.rows
    quiet z =
        let s = tables area request fresh in
        let o = (in_order area st g.here).good in
        let p : pieces it.records ≡ map encode (number_from st.run st.number (diff s st.rows (rows_laid area request fresh))) =
        ap pieces (g.records_are ∙ ap (λ (l : List Change). filled (length records) (flat (map encode (number_from st.run st.number l)))) between)
        ∙ commit_filled s st.run (length records) st.rows (rows_laid area request fresh) st.number o grown (narrow_at area st g.here) (fine_at area st g.here).run room g.wide in
        let n = no_changes st.run st.number (diff s st.rows (rows_laid area request fresh)) (sym p ∙ ap pieces z ∙ none_there (length records)) in
        sym (diff_none s st.rows (rows_laid area request fresh) o grown n)

    loud : rows_laid area request fresh ≡ st.rows → it.records ≡ zeroed records
    loud e = silent g (between ∙ ap (diff (tables area request fresh) st.rows) e ∙ diff_self (tables area request fresh) st.rows (in_order area st g.here).good.sorted)

  both_ways : all octet fresh ≡ true → ((store_or (store_of it.area)).rows ≡ (store_or (store_of area)).rows) ↔ (it.records ≡ zeroed records)
  both_ways b = split (is_refusal it.status)
      (λ r. let u = transact_refused_lem area request fresh records text r in ((λ _. u.1), (λ _. ap (λ (a : List ℕ). (store_or (store_of a)).rows) u.0)))
      (λ r.
      let g = given_is area request fresh records text r in
      let e : (store_or (store_of it.area)).rows ≡ rows_laid area request fresh = ap (λ (o : Option Store). (store_or o).rows) (holds b g) in
      ((λ p. loud b g (sym e ∙ p)), (λ z. e ∙ quiet b g z)))

  pub transacts : all octet fresh ≡ true → Transacts area request fresh records text
  transacts b = record {
    committed = λ h.
        let g = given_is area request fresh records text (not_l (is_refusal it.status) (and_l (not (is_refusal it.status)) (succeeds area request fresh) h)) in
        (g.area_is, g.records_are ∙ filled_is (length records) (records_laid area request fresh) (records_fit_laid area request fresh records text g b));
    stays = stay;
    answered = λ r. let g = given_is area request fresh records text r in g.text_is ∙ filled_is (length text) (text_laid area request fresh) g.text_fits;
    both = both_ways b;
  }

pub demand2 : Demand2
demand2 area request fresh records text b = transacts area request fresh records text b
