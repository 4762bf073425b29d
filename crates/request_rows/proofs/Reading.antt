-- A row as written read into a row and its flags: one column, then one after another, then the row. Assumes nothing.
use Rattle.std.specs.Prelude.{Option, Some, None}
use mathlib.Core.Path.{◌≡◌, refl, sym, ap, subst, ◌∙◌}
use mathlib.Core.Bool.{Bool, true, false}
use mathlib.Core.List.{List, [], map}
use Prim.Native.Nat.{ℕ, ◌+◌, ◌≤◌, ◌<◌}
use native.Mathlib.Omega.{arith}
use borrow.Author.Tests.{ltb-true, ltb-false}
use lib.Dec.{ltb}
use lib.ListN.{length, get_or, drop, set, length-set}
use lib.Seq.{get_or-set_same, get_or-set_other}
use Rattle.model.specs.declared.Fault.{Fault}
use Rattle.model.specs.declared.Fault.TheVariants.{Fine, Syntax}
use Rattle.inner.specs.Positions.{tree_at}
use Rattle.model.specs.Json.{Json, Named}
use Rattle.model.specs.Members.{members_in}
use Rattle.model.specs.Schema.{Column}
use Rattle.model.specs.Value.{Value}
use Rattle.model.specs.Faults.{is_fine, earlier}
use Rattle.model.specs.Written.{Names, member_named}
use Rattle.model.specs.Operations.{value_written, known_names}
use Rattle.model.specs.Catalog.{column_from}
use Rattle.model.proofs.Tests.{split, clash}
use Rattle.model.proofs.FaultLaws.{earlier_fine}
use Rattle.inner.specs.Working.{value_in}
use Rattle.rows.specs.Post.{ColumnSet}
use Rattle.uuids.specs.Named.{names_at}
use Rattle.request_values.specs.Values.{RowGiven}
use Rattle.request_rows.specs.Assigned.{absent_by, named_by, written_row, faults_of, values_for, flagged, TemplateTo, Template, ColumnAssigned, ColumnPut, Puts, ColumnRead, ColumnsRead, RowRead}
use Rattle.request_rows.proofs.Cells.{put_there}
use Rattle.request_rows.proofs.Faults.{fault_named, fault_absent, faults_start, faults_on, faults_end, row_known, row_unknown}
use Rattle.request_rows.proofs.Values.{value_there, value_missing, values_length, values_at, row_got}
use Rattle.request_rows.proofs.Rows.{column_set, column_kept, Assigning, assigning_none, assigning_on, assigning_end}

-- ── one column ──
module _ (insert : Bool) (names : Names) (ms : List Named) (column : Column) (c : ℕ) (entry : List (List ℕ)) where
  pub read_absent : member_named column.name ms ≡ None → {r : Fault} → r ≡ absent_by insert column → ColumnRead insert names ms column c r false entry entry
  read_absent e f =
      let n = value_missing names ms column e in
      record {
        fault = fault_absent insert names ms column e f;
        assigned = λ h. column_kept c entry n;
        there = λ h. n;
        before = λ h d l. refl;
      }

  module _ {j : Json} (e : member_named column.name ms ≡ Some j) {v w r : Fault} (n : ℕ) (fits : Bool) (atoms exit : List (List ℕ)) (g : RowGiven names column j v n fits atoms)
      (b : w ≡ named_by insert column) (d : r ≡ earlier v w) (p : Puts fits c (record { count = n; atoms = atoms }) entry exit) where
    fine : is_fine r ≡ true → is_fine (value_written names column j).fault ≡ true
    fine h = ap is_fine (sym g.fault) ∙ (earlier_fine v w (ap is_fine (sym d) ∙ h)).0

    put : is_fine r ≡ true → ColumnPut c (record { count = n; atoms = atoms }) entry exit
    put h = put_there c (record { count = n; atoms = atoms }) entry exit (g.fit (fine h)) p

    pub read_there : ColumnRead insert names ms column c r true entry exit
    read_there = record {
      fault = fault_named insert names ms column e g.fault b d;
      assigned = λ h. column_set c entry (put h).column (sym (g.got (fine h))) (value_there names ms column e);
      there = λ h. value_there names ms column e ∙ ap Some (g.got (fine h) ∙ sym (put h).there);
      before = λ h. (put h).before;
    }

-- ── one column after another ──
module _ (os : List (Option Value)) (c : ℕ) (row next : List (List ℕ)) (given : List Bool) (g : Bool) (l : c < length given) (e : get_or os c None ≡ flagged g c next)
    (b : (d : ℕ) → d < c → value_in d next ≡ value_in d row) (t : TemplateTo c os row given) where
  abbrev Says : ℕ → Type 0
  Says d = get_or os d None ≡ flagged (get_or (set given c g) d false) d next

  before_on : (d : ℕ) → d < c → Says d
  unfolding TemplateTo
  before_on d h =
      t d h ∙ ap (λ (x : Bool). flagged x d row) (sym (get_or-set_other given c d g false (λ q. omega arith)))
      ∙ flagged_as (get_or (set given c g) d false) (sym (b d h))
    where
      flagged_as : (x : Bool) → value_in d row ≡ value_in d next → flagged x d row ≡ flagged x d next
      flagged_as true f = ap Some f
      flagged_as false f = refl

  here_on : Says c
  here_on = e ∙ ap (λ (x : Bool). flagged x c next) (sym (get_or-set_same given c g false l))

  template_on : TemplateTo (c + 1) os next (set given c g)
  unfolding TemplateTo
  template_on d h = split (ltb d c) (λ x. before_on d (ltb-true d c x)) (λ x. let q : c ≡ d = omega (arith, ltb-false d c x) in subst Says q here_on)

module _ (insert : Bool) (names : Names) (ms : List Named) (cells : List (List ℕ)) (entry : List (List ℕ)) where
  abbrev values : List (Option Value)
  values = values_for names ms (map column_from cells)

  -- the columns before c are read
  pub record Reading (c : ℕ) (f : Fault) (row : List (List ℕ)) (given : List Bool) : Type 0 where
    pub faults : faults_of insert names (map column_from cells) ms ≡ earlier f (faults_of insert names (map column_from (drop c cells)) ms)
    pub size : length given ≡ 6
    pub done : is_fine f ≡ true → Assigning values entry c row
    pub templated : is_fine f ≡ true → TemplateTo c values row given

  pub reading_none : (given : List Bool) → length given ≡ 6 → Reading 0 Fine entry given
  unfolding TemplateTo
  reading_none given z = record {
    faults = faults_start insert names ms cells;
    size = z;
    done = λ h. assigning_none values entry;
    templated = λ h d l. absurd (omega arith);
  }

  module _ (c : ℕ) {f : Fault} {row : List (List ℕ)} {given : List Bool} (so : Reading c f row given) where
    pub reading_on : length cells ≤ 6 → c < length cells → {r k : Fault} {g : Bool} {next : List (List ℕ)} → ColumnRead insert names ms (column_from (get_or cells c [])) c r g row next → k ≡ earlier f r → Reading (c + 1) k next (set given c g)
    reading_on few l {r} {k} {g} {next} q e =
        let both : is_fine k ≡ true → (is_fine f ≡ true) × (is_fine r ≡ true) = λ h. earlier_fine f r (ap is_fine (sym e) ∙ h) in
        let z = values_length names ms cells in
        let v = values_at names ms cells c l in
        record {
          faults = faults_on insert names ms cells c (faults_of insert names (map column_from cells) ms) f so.faults l q.fault e;
          size = length-set given c g ∙ so.size;
          done = λ h. assigning_on values entry c (omega arith) (omega arith) v (q.assigned (both h).1) (so.done (both h).0);
          templated = λ h. template_on values c row next given g (omega (arith, so.size)) (v ∙ q.there (both h).1) (q.before (both h).1) (so.templated (both h).0);
        }

    pub reading_end : length cells ≤ c → ColumnsRead insert names ms (map column_from cells) f entry row given
    unfolding TemplateTo
    reading_end l =
        let z = values_length names ms cells in
        record {
          fault = faults_end insert names ms cells c (faults_of insert names (map column_from cells) ms) f so.faults l;
          assigned = λ h. assigning_end values entry c row (omega arith) (so.done h);
          template = λ h d k. so.templated h d (omega arith);
        }

-- ── the row ──
module _ (insert : Bool) (text : List ℕ) (names : List ℕ) (columns : List (List ℕ)) (at : ℕ) {entry exit : List (List ℕ)} {given : List Bool} {k : Bool}
    (h : k ≡ known_names (map column_from columns) (members_in (tree_at text at))) where
  pub read_unknown : k ≡ false → RowRead (written_row insert text names columns at) Syntax entry exit given
  read_unknown e =
      let f = row_unknown insert text names columns at h e in
      record { fault = f; assigned = λ x. absurd (clash false (ap is_fine f ∙ x) refl); template = λ x. absurd (clash false (ap is_fine f ∙ x) refl) }

  pub read_known : k ≡ true → {r : Fault} → ColumnsRead insert (names_at text names) (members_in (tree_at text at)) (map column_from columns) r entry exit given
      → RowRead (written_row insert text names columns at) r entry exit given
  read_known e {r} q =
      let f = row_known insert text names columns at h e q.fault in
      let g = row_got insert text names columns at in
      record {
        fault = f;
        assigned = λ x. rw g (q.assigned (ap is_fine f ∙ x));
        template = λ x. rw g (q.template (ap is_fine f ∙ x));
      }

-- ── a row and its flags put over another ──
module _ (os : List (Option Value)) (c : ℕ) (h : c < length os) (row to : List (List ℕ)) (given : List Bool) (t : Template os row given) where
  flag_here : {b : Bool} → get_or given c false ≡ b → get_or os c None ≡ flagged b c row
  unfolding TemplateTo
  flag_here e = t c h ∙ ap (λ (b : Bool). flagged b c row) e

  pub put_flagged : {n : ℕ} {atoms next : List (List ℕ)} → get_or given c false ≡ true → n ≡ (value_in c row).count → atoms ≡ (value_in c row).atoms → ColumnSet c (record { count = n; atoms = atoms }) to next
      → ColumnAssigned c (get_or os c None) to next
  put_flagged g e f s = column_set c to s (λ i. record { count = e i; atoms = f i }) (flag_here g)

  pub put_unflagged : get_or given c false ≡ false → ColumnAssigned c (get_or os c None) to to
  put_unflagged g = column_kept c to (flag_here g)
