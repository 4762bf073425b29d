-- Rows mutated, mutation by mutation, and what the model makes of them, row by row. Assumes nothing.
use mathlib.Core.Path.{◌≡◌, refl, sym, ap, subst, ◌∙◌}
use mathlib.Core.Bool.{Bool, true, false}
use mathlib.Core.List.{List, [], ◌∷◌}
use mathlib.Core.Logic.{◌⊎◌, ⊎_elim, inl, inr}
use Prim.Native.Nat.{ℕ, zero, suc, ◌+◌, ◌-◌, ◌≤◌, ◌<◌}
use native.Mathlib.Omega.{arith}
use borrow.Author.Tests.{eqb-true, ltb-true, ltb-false}
use lib.Dec.{eqb, ltb}
use lib.ListN.{length, get_or, take, drop, set, length-set, length-drop}
use lib.Seq.{ext_get_or, set-get_or, get_or-set_same, get_or-set_other, get_or-take, get_or-drop, length-take-le}
use Rattle.model.specs.Base.{all}
use Rattle.model.specs.Schema.{Column, Schema, columns_of}
use Rattle.model.specs.Rows.{Row}
use Rattle.model.specs.Faults.{is_fine, Judged}
use Rattle.model.specs.Areas.{row_from}
use Rattle.inner.specs.Working.{working, table_in, TidyRow, Tidy}
use Rattle.model.specs.Conditions.{Test, holds, matches}
use Rattle.model.specs.Mutations.{Mutation, steps}
use Rattle.model.specs.Operations.{mutate_row, mutate_rows}
use Rattle.model.specs.declared.Fault.{Fault}
use Rattle.model.specs.declared.Fault.TheVariants.{Fine}
use Rattle.model.proofs.Tests.{split, clash, and_l}
use Rattle.model.proofs.FaultLaws.{fine_is}
use Rattle.inner.proofs.Working.{row_table, working_length, working_at}
use Rattle.inner.proofs.Places.{tidy_at}
use Rattle.marks.specs.Marks.{MarkedRows}
use Rattle.mutations.specs.Mutating.{fault_or}
use Rattle.mutations.specs.Rows.{RowStepped, SteppedTo, FailsAt, MarkedStepped, MarkedMutated}
use Rattle.mutations.specs.declared.Stop.{Stop}
use Rattle.mutations.proofs.Rowing.{Going, going_none, going_on, going_stop}

-- ── one mutation on the marked rows, one after another ──
module _ (cs : List Column) (m : Mutation) (marks : List Bool) (entry : List (List (List ℕ))) where
  pub stepped_none : SteppedTo cs m marks 0 entry entry
  stepped_none = record { size = refl; done = λ k h. absurd (omega arith); still = λ k h. refl }

  module _ {i : ℕ} {now : List (List (List ℕ))} (g : SteppedTo cs m marks i entry now) where
    -- the row at i is as it was
    here : get_or now i [] ≡ get_or entry i []
    here = g.still i (λ h. absurd (omega arith))

    pub stepped_by : get_or marks i false ≡ false → SteppedTo cs m marks (i + 1) entry now
    stepped_by e = record {
      size = g.size;
      done = λ k h t. split (ltb k i)
          (λ q. g.done k (ltb-true k i q) t)
          (λ q. let z : k ≡ i = omega (arith, h, ltb-false k i q) in absurd (clash (get_or marks i false) (ap (λ (j : ℕ). get_or marks j false) (sym z) ∙ t) e));
      still = λ k h. g.still k (λ l. h (omega (arith, l)));
    }

    module _ (t : get_or marks i false ≡ true) {r : Fault} {row : List (List ℕ)} (p : RowStepped cs m r (get_or now i []) row) where
      pub stepped_on : i < length now → is_fine r ≡ true → SteppedTo cs m marks (i + 1) entry (set now i row)
      stepped_on l y = record {
        size = length-set now i row ∙ g.size;
        done = λ k h b. split (ltb k i)
            (λ q. subst (RowStepped cs m Fine (get_or entry k [])) (sym (get_or-set_other now i k row [] (λ z. omega (arith, z, ltb-true k i q)))) (g.done k (ltb-true k i q) b))
            (λ q. let z : k ≡ i = omega (arith, h, ltb-false k i q) in rw (z, get_or-set_same now i row [] l, ← here, ← fine_is r y) p);
        still = λ k h. get_or-set_other now i k row [] (λ z. clash (get_or marks i false) t (ap (λ (j : ℕ). get_or marks j false) (sym z) ∙ h (omega (arith, z)))) ∙ g.still k (λ b. h (omega (arith, b)));
      }

      pub marked_stop : i < length marks → is_fine r ≡ false → MarkedStepped cs m marks (record { fault = r; end = i }) entry (set now i row)
      marked_stop l f =
          let e : row ≡ get_or now i [] = p.unchanged f in
          record {
            rows = subst (SteppedTo cs m marks i entry) (sym (ap (set now i) e ∙ set-get_or now i [])) g;
            stops = inr (record { bad = f; before = l; mark = t; step = subst (λ (x : List (List ℕ)). RowStepped cs m r x x) here (subst (RowStepped cs m r (get_or now i [])) e p) });
          }

    pub marked_end : i ≡ length marks → MarkedStepped cs m marks (record { fault = Fine; end = length marks }) entry now
    marked_end e = record { rows = subst (λ (j : ℕ). SteppedTo cs m marks j entry now) e g; stops = inl refl }

-- ── mutations on the marked rows of the first n, one after another ──
module _ (cs : List Column) (marks : List Bool) (n : ℕ) (entry : List (List (List ℕ))) where
  -- what holds of the rows at any time
  pub record Sound (stop : Stop) (now : List (List (List ℕ))) : Type 0 where
    pub size : length now ≡ length entry
    pub few : stop.end ≤ n
    pub still : (k : ℕ) → (k < n → get_or marks k false ≡ false) → get_or now k [] ≡ get_or entry k []
    pub tidy : (k : ℕ) (s : Schema) → columns_of s (table_in (get_or entry k [])) ≡ cs → TidyRow s (get_or entry k []) → TidyRow s (get_or now k [])

  -- all mutations fail on the row at the stop
  abbrev Failing : List Mutation → Stop → Type 0
  Failing ms t = (t.end < n) × (get_or marks t.end false ≡ true) × ((s : Schema) → columns_of s (table_in (get_or entry t.end [])) ≡ cs → (steps ms (row_from s (get_or entry t.end []))).fault ≡ t.fault)

  -- and while no mutation has a fault: the marked rows before the stop go on
  pub record Goes (ms rest : List Mutation) (stop : Stop) (now : List (List (List ℕ))) : Type 0 where
    pub done : (k : ℕ) → k < stop.end → get_or marks k false ≡ true → Going cs ms rest (get_or entry k []) (get_or now k [])
    pub whole : is_fine stop.fault ≡ true → stop.end ≡ n
    pub fails : is_fine stop.fault ≡ false → Failing ms stop

  sound_none : Sound (record { fault = Fine; end = n }) entry
  sound_none = record { size = refl; few = omega arith; still = λ k h. refl; tidy = λ k s h t. t }

  goes_none : (ms : List Mutation) → Goes ms ms (record { fault = Fine; end = n }) entry
  goes_none ms = record { done = λ k h t. going_none cs ms (get_or entry k []); whole = λ y. refl; fails = λ f. absurd (clash true refl f) }

  module _ (room : n ≤ length marks) {ms : List Mutation} {m : Mutation} {rest : List Mutation} {stop : Stop} {now after : List (List (List ℕ))}
      (b : Sound stop now) (g : Goes ms (m ∷ rest) stop now) {s : Stop} (p : MarkedStepped cs m (take stop.end marks) s now after) where
    abbrev next : Stop
    next = record { fault = fault_or s.fault stop.fault; end = s.end }

    size : length (take stop.end marks) ≡ stop.end
    size = length-take-le stop.end marks (omega (arith, b.few, room))

    same : (k : ℕ) → k < stop.end → get_or (take stop.end marks) k false ≡ get_or marks k false
    same k l = get_or-take stop.end marks k false l

    -- the stop stays, or there is a step that fails before it
    moves : (next ≡ stop) ⊎ ((s.end < stop.end) × (is_fine s.fault ≡ false) × (next ≡ s) × FailsAt cs m (take stop.end marks) now s)
    unfolding fault_or
    moves = ⊎_elim
        (λ e. inl (λ i. record { fault = fault_or (e i).fault stop.fault; end = (ap (λ (t : Stop). t.end) e ∙ size) i }))
        (λ f. inr (omega (arith, f.before, size), f.bad, (λ i. record { fault = elim (f.bad i) [ true ↦ stop.fault | false ↦ s.fault ]; end = s.end }), f))
        p.stops

    within : s.end ≤ stop.end
    within = ⊎_elim (λ e. omega (arith, ap (λ (t : Stop). t.end) e)) (λ f. omega (arith, f.0)) moves

    stepped : (k : ℕ) → k < s.end → get_or marks k false ≡ true → RowStepped cs m Fine (get_or now k []) (get_or after k [])
    stepped k l t = p.rows.done k l (same k (omega (arith, l, within)) ∙ t)

    left : (k : ℕ) → (k < s.end → get_or marks k false ≡ false) → get_or after k [] ≡ get_or now k []
    left k f = p.rows.still k (λ l. same k (omega (arith, l, within)) ∙ f l)

    sound_on : Sound next after
    sound_on = record {
      size = p.rows.size ∙ b.size;
      few = omega (arith, within, b.few);
      still = λ k h. left k (λ l. h (omega (arith, l, within, b.few))) ∙ b.still k h;
      tidy = λ k c h t.
          let u : TidyRow c (get_or now k []) = b.tidy k c h t in
          let stays : (k < s.end → get_or marks k false ≡ false) → TidyRow c (get_or after k []) = λ f. subst (TidyRow c) (sym (left k f)) u in
          split (ltb k s.end)
          (λ l. split (get_or marks k false)
          (λ y. (stepped k (ltb-true k s.end l) y).tidy c ((g.done k (omega (arith, ltb-true k s.end l, within)) y).table c h) u)
          (λ f. stays (λ x. f)))
          (λ l. stays (λ x. absurd (omega (arith, x, ltb-false k s.end l))));
    }

    goes_on : Goes ms rest next after
    goes_on = record {
      done = λ k l t. going_on (g.done k (omega (arith, l, within)) t) (stepped k l t);
      whole = λ y. ⊎_elim
          (λ e. ap (λ (t : Stop). t.end) e ∙ g.whole (ap (λ (t : Stop). is_fine t.fault) (sym e) ∙ y))
          (λ f. absurd (clash (is_fine s.fault) (ap (λ (t : Stop). is_fine t.fault) (sym f.2) ∙ y) f.1))
          moves;
      fails = λ f. ⊎_elim
          (λ e. subst (Failing ms) (sym e) (g.fails (ap (λ (t : Stop). is_fine t.fault) (sym e) ∙ f)))
          (λ q.
          let t = sym (same s.end q.0) ∙ q.3.mark in
          subst (Failing ms) (sym q.2) (omega (arith, q.0, b.few), t, going_stop (g.done s.end q.0 t) q.3.step q.1))
          moves;
    }

  -- both, where w is the earliest fault of the mutations so far
  pub record Walked (ms rest : List Mutation) (w : Fault) (stop : Stop) (now : List (List (List ℕ))) : Type 0 where
    pub sound : Sound stop now
    pub goes : is_fine w ≡ true → Goes ms rest stop now

  pub walked_none : (ms : List Mutation) {w : Fault} → Walked ms ms w (record { fault = Fine; end = n }) entry
  walked_none ms = record { sound = sound_none; goes = λ _. goes_none ms }

  pub walked_on : n ≤ length marks → {ms left : List Mutation} {m x : Mutation} {rest : List Mutation} {w v : Fault} {stop s : Stop} {now after rows : List (List (List ℕ))} {e : ℕ} {f : Fault}
      → Walked ms left w stop now → is_fine w ≡ true → left ≡ m ∷ rest → MarkedStepped cs x (take stop.end marks) s now after → x ≡ m
      → rows ≡ after → e ≡ s.end → f ≡ fault_or s.fault stop.fault → Walked ms rest v (record { fault = f; end = e }) rows
  walked_on room {ms} {stop = stop} {s} {now} {after} b y el p em er ee ef =
      let h = subst (λ (l : List Mutation). Goes ms l stop now) el (b.goes y) in
      let q = subst (λ (z : Mutation). MarkedStepped cs z (take stop.end marks) s now after) em p in
      rw (er, ee, ef) (record { sound = sound_on room b.sound h q; goes = λ _. goes_on room b.sound h q })

  pub walked_by : {ms left rest : List Mutation} {w v : Fault} {stop : Stop} {now rows : List (List (List ℕ))} {e : ℕ} {f : Fault}
      → Walked ms left w stop now → is_fine v ≡ false → rows ≡ now → e ≡ stop.end → f ≡ stop.fault → Walked ms rest v (record { fault = f; end = e }) rows
  walked_by {v = v} b y er ee ef = rw (er, ee, ef) (record { sound = b.sound; goes = λ t. absurd (clash (is_fine v) t y) })

-- ── the model's rows, row by row ──
none_row : Row
none_row = record { table = 0; id = 0; columns = [] }

module _ (fits : Row → Bool) (ms : List Mutation) where
  abbrev by_fit : Row → Bool → Judged Row
  by_fit r b = elim b [ true ↦ steps ms r | false ↦ record { fault = Fine; got = r } ]

  abbrev by_fine : Row → List Row → Bool → Fault
  by_fine r l b = elim b [ true ↦ (mutate_rows fits ms l).fault | false ↦ (mutate_row fits ms r).fault ]

  rows_all : (l m : List Row) → length m ≡ length l → ((i : ℕ) → i < length l → mutate_row fits ms (get_or l i none_row) ≡ record { fault = Fine; got = get_or m i none_row }) → mutate_rows fits ms l ≡ record { fault = Fine; got = m }
  rows_all [] [] e h = refl
  rows_all [] (x ∷ m) e h = absurd (omega (arith, e))
  rows_all (r ∷ l) [] e h = absurd (omega (arith, e))
  rows_all (r ∷ l) (x ∷ m) e h =
      let q = h 0 (omega arith) in
      let z = rows_all l m (omega (arith, e)) (λ i k. h (suc i) (omega (arith, k))) in
      λ j. record { fault = elim (is_fine (q j).fault) [ true ↦ (z j).fault | false ↦ (q j).fault ]; got = (q j).got ∷ (z j).got }

  rows_stop : (l : List Row) (i : ℕ) → i < length l → ((k : ℕ) → k < i → is_fine (mutate_row fits ms (get_or l k none_row)).fault ≡ true)
      → is_fine (mutate_row fits ms (get_or l i none_row)).fault ≡ false → (mutate_rows fits ms l).fault ≡ (mutate_row fits ms (get_or l i none_row)).fault
  rows_stop [] i h d f = absurd (omega (arith, h))
  rows_stop (r ∷ l) zero h d f = ap (by_fine r l) f
  rows_stop (r ∷ l) (suc i) h d f = ap (by_fine r l) (d 0 (omega arith)) ∙ rows_stop l i (omega (arith, h)) (λ k q. d (suc k) (omega (arith, q))) f

-- a row that meets the conditions is of their table
own : (table : ℕ) (tests : List Test) (r : Row) → matches table tests r ≡ true → r.table ≡ table
own table tests r e = sym (eqb-true table r.table (and_l (eqb table r.table) (all (holds r) tests) e))

-- rows that are tidy one by one
tidy_each : (s : Schema) (l : List (List (List ℕ))) → ((i : ℕ) → i < length l → TidyRow s (get_or l i [])) → Tidy s l
tidy_each s [] h = tt
tidy_each s (r ∷ l) h = (h 0 (omega arith), tidy_each s l (λ i q. h (suc i) (omega (arith, q))))

-- ── all mutations on the marked rows ──
module _ (cs : List Column) (marks : List Bool) (n : ℕ) (entry : List (List (List ℕ))) (fit : n ≤ length entry) {stop : Stop} {exit : List (List (List ℕ))} (b : Sound cs marks n entry stop exit) where
  long : n ≤ length exit
  long = omega (arith, b.size, fit)

  behind : drop n exit ≡ drop n entry
  behind = ext_get_or [] (drop n exit) (drop n entry) (length-drop n exit ∙ ap (λ (i : ℕ). i - n) b.size ∙ sym (length-drop n entry))
      (λ i h. get_or-drop n exit i [] ∙ b.still (n + i) (λ l. absurd (omega (arith, l))) ∙ sym (get_or-drop n entry i []))

  module _ (tests : List Test) (table : ℕ) (k : MarkedRows cs tests table n entry marks) (s : Schema) (h : columns_of s table ≡ cs) where
    marked : (i : ℕ) → i < n → {t : Bool} → get_or marks i false ≡ t → matches table tests (row_from s (get_or entry i [])) ≡ t
    unfolding MarkedRows
    marked i l e = sym (k s h i l) ∙ e

    columns : (i : ℕ) → i < n → get_or marks i false ≡ true → columns_of s (table_in (get_or entry i [])) ≡ cs
    columns i l e = ap (columns_of s) (sym (row_table s (get_or entry i [])) ∙ own table tests (row_from s (get_or entry i [])) (marked i l e)) ∙ h

    all_tidy : Tidy s (take n entry) → Tidy s (take n exit)
    all_tidy t = tidy_each s (take n exit) (λ i l.
        let j : i < n = omega (arith, l, length-take-le n exit long) in
        let u : TidyRow s (get_or entry i []) = subst (TidyRow s) (get_or-take n entry i [] j) (tidy_at s (take n entry) i [] t (omega (arith, j, length-take-le n entry fit))) in
        subst (TidyRow s) (sym (get_or-take n exit i [] j))
        (split (get_or marks i false) (λ y. b.tidy i s (columns i j y) u) (λ f. subst (TidyRow s) (sym (b.still i (λ x. f))) u)))

    module _ (ms : List Mutation) (g : Goes cs marks n entry ms [] stop exit) where
      abbrev fits : Row → Bool
      fits = matches table tests

      at : (i : ℕ) → i < n → get_or (working s n entry) i none_row ≡ row_from s (get_or entry i [])
      at i l = working_at s entry n fit i none_row l

      row_done : (i : ℕ) → i < stop.end → mutate_row fits ms (get_or (working s n entry) i none_row) ≡ record { fault = Fine; got = row_from s (get_or exit i []) }
      row_done i l =
          let j : i < n = omega (arith, l, b.few) in
          ap (mutate_row fits ms) (at i j)
          ∙ split (get_or marks i false)
          (λ y. ap (by_fit fits ms (row_from s (get_or entry i []))) (marked i j y) ∙ (g.done i l y).same s (columns i j y))
          (λ f. ap (by_fit fits ms (row_from s (get_or entry i []))) (marked i j f) ∙ ap (λ (r : List (List ℕ)). record { fault = Fine; got = row_from s r }) (sym (b.still i (λ x. f))))

      all_done : is_fine stop.fault ≡ true → mutate_rows fits ms (working s n entry) ≡ record { fault = Fine; got = working s n exit }
      all_done y =
          rows_all fits ms (working s n entry) (working s n exit) (working_length s exit n long ∙ sym (working_length s entry n fit))
          (λ i l. let j : i < n = omega (arith, l, working_length s entry n fit) in row_done i (omega (arith, j, g.whole y)) ∙ ap (λ (r : Row). record { fault = Fine; got = r }) (sym (working_at s exit n long i none_row j)))

      one_fails : is_fine stop.fault ≡ false → (mutate_rows fits ms (working s n entry)).fault ≡ stop.fault
      one_fails f =
          let q = g.fails f in
          let e = stop.end in
          let r : (mutate_row fits ms (get_or (working s n entry) e none_row)).fault ≡ stop.fault =
          ap (λ (x : Row). (mutate_row fits ms x).fault) (at e q.0) ∙ ap (λ (t : Bool). (by_fit fits ms (row_from s (get_or entry e [])) t).fault) (marked e q.0 q.1) ∙ q.2 s (columns e q.0 q.1) in
          rows_stop fits ms (working s n entry) e (omega (arith, q.0, working_length s entry n fit)) (λ i l. ap (λ (x : Judged Row). is_fine x.fault) (row_done i l)) (ap is_fine r ∙ f) ∙ r

      row_fault_lem : stop.fault ≡ (mutate_rows fits ms (working s n entry)).fault
      row_fault_lem = split (is_fine stop.fault) (λ y. fine_is stop.fault y ∙ sym (ap (λ (x : Judged (List Row)). x.fault) (all_done y))) (λ f. sym (one_fails f))

  module _ (ms : Judged (List Mutation)) where
    mutated_all : is_fine ms.fault ≡ true → Goes cs marks n entry ms.got [] stop exit → MarkedMutated cs ms n marks stop.fault entry exit
    mutated_all y g = record {
      behind = behind;
      each = λ tests table k. record {
        fault = λ s h. row_fault_lem tests table k s h ms.got g ∙ sym (ap (λ (t : Bool). elim t [ true ↦ (mutate_rows (matches table tests) ms.got (working s n entry)).fault | false ↦ ms.fault ]) y);
        rows = λ s h f. sym (ap (λ (x : Judged (List Row)). x.got) (all_done tests table k s h ms.got g f));
        tidy = all_tidy tests table k;
      };
    }

    mutated_none : is_fine ms.fault ≡ false → MarkedMutated cs ms n marks ms.fault entry exit
    mutated_none f = record {
      behind = behind;
      each = λ tests table k. record {
        fault = λ s h. sym (ap (λ (t : Bool). elim t [ true ↦ (mutate_rows (matches table tests) ms.got (working s n entry)).fault | false ↦ ms.fault ]) f);
        rows = λ s h y. absurd (clash (is_fine ms.fault) y f);
        tidy = all_tidy tests table k;
      };
    }

-- what all of them come to
pub mutated : (cs : List Column) (marks : List Bool) (n : ℕ) (entry : List (List (List ℕ))) → n ≤ length entry → {stop : Stop} {exit : List (List (List ℕ))} (ms : Judged (List Mutation)) {w r : Fault} {rest : List Mutation}
    → Walked cs marks n entry ms.got rest w stop exit → rest ≡ [] → ms.fault ≡ w → r ≡ fault_or w stop.fault → MarkedMutated cs ms n marks r entry exit
unfolding fault_or
mutated cs marks n entry fit {stop} {exit} ms {w} b el e q = split (is_fine w)
    (λ y. subst (λ (f : Fault). MarkedMutated cs ms n marks f entry exit) (sym (q ∙ ap (λ (t : Bool). elim t [ true ↦ stop.fault | false ↦ w ]) y))
    (mutated_all cs marks n entry fit b.sound ms (ap is_fine e ∙ y) (subst (λ (l : List Mutation). Goes cs marks n entry ms.got l stop exit) el (b.goes y))))
    (λ y. subst (λ (f : Fault). MarkedMutated cs ms n marks f entry exit) (sym (q ∙ ap (λ (t : Bool). elim t [ true ↦ stop.fault | false ↦ w ]) y ∙ sym e)) (mutated_none cs marks n entry fit b.sound ms (ap is_fine e ∙ y)))
