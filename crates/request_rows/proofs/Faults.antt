-- How a row as written is judged: a member found, one column, all columns, names. Assumes nothing.
use Rattle.std.specs.Prelude.{Option, Some, None}
use mathlib.Core.Path.{◌≡◌, refl, sym, ap, subst, ◌∙◌}
use mathlib.Core.Bool.{Bool, true, false, ◌&&◌}
use mathlib.Core.List.{List, [], ◌∷◌, map}
use Prim.Native.Nat.{ℕ, ◌+◌, ◌≤◌, ◌<◌}
use native.Mathlib.Numerals.{add-one}
use lib.ListN.{length, get_or, drop, drop_of_length-le}
use lib.Seq.{drop-cons}
use Rattle.model.specs.declared.Fault.{Fault}
use Rattle.model.specs.declared.Fault.TheVariants.{Fine, Syntax, Resources, Duplicate, Constraint, Domain, Range, Aborted, Integrity}
use Rattle.model.specs.Base.{is_some}
use Rattle.model.specs.Json.{Json, Named, member_at, value_at}
use Rattle.inner.specs.Positions.{tree_at, well_at, first_of, next_member, members_from, members_fine}
use Rattle.model.specs.Members.{members_in, has_member, member_value as last_of}
use Rattle.inner.specs.Positions.{Means}
use Rattle.model.specs.Schema.{Column, column_named}
use Rattle.model.specs.Faults.{earlier, check}
use Rattle.model.specs.Written.{Names, member_named, row_fault, written}
use Rattle.model.specs.Operations.{known_names, column_written, columns_written}
use Rattle.model.specs.Catalog.{column_from}
use Rattle.nav.proofs.Walk.{members_in_lem, pass_end, pass_rest, pass_fine, pass_name}
use Rattle.conditions.specs.Lookup.{column_in}
use Rattle.uuids.specs.Named.{names_at}
use Rattle.model.proofs.FaultLaws.{earlier_first, earlier_last, earlier_assoc}
use Rattle.request_rows.specs.Assigned.{absent_by, named_by, written_row, fault_of, faults_of}

earlier_syntax : (f : Fault) → earlier Syntax f ≡ Syntax
earlier_syntax Fine = refl
earlier_syntax Syntax = refl
earlier_syntax Resources = refl
earlier_syntax Duplicate = refl
earlier_syntax Constraint = refl
earlier_syntax Domain = refl
earlier_syntax Range = refl
earlier_syntax Aborted = refl
earlier_syntax Integrity = refl

-- ── a member by the name of a column ──
module _ (s : List ℕ) (ms : List Named) where
  pub find_there : {w v : List ℕ} {f : Option ℕ} {p : ℕ} → Means s f (has_member w ms) (last_of w ms) → w ≡ v → f ≡ Some p → (member_named v ms ≡ Some (tree_at s p)) × (well_at s p ≡ true)
  unfolding Means
  find_there {w} {v} {f} {p} m e g =
      let n = subst (λ y. Means s f (has_member y ms) (last_of y ms)) e m in
      let k = subst (λ x. Means s x (has_member v ms) (last_of v ms)) g n in
      (ap (λ (b : Bool). elim b [ true ↦ Some (last_of v ms) | false ↦ None ]) k.0 ∙ ap Some k.1, k.2)

  pub find_missing : {w v : List ℕ} {f : Option ℕ} → Means s f (has_member w ms) (last_of w ms) → w ≡ v → f ≡ None → member_named v ms ≡ None
  unfolding Means
  find_missing {w} {v} {f} m e g =
      let n = subst (λ y. Means s f (has_member y ms) (last_of y ms)) e m in
      let k : has_member v ms ≡ false = subst (λ x. Means s x (has_member v ms) (last_of v ms)) g n in
      ap (λ (b : Bool). elim b [ true ↦ Some (last_of v ms) | false ↦ None ]) k

-- ── one column, and all ──
module _ (insert : Bool) (names : Names) (ms : List Named) where
  module _ (c : Column) where
    pub fault_named : {j : Json} → member_named c.name ms ≡ Some j → {v w r : Fault} → v ≡ (written names c.base (row_fault c) j).fault → w ≡ named_by insert c → r ≡ earlier v w → r ≡ fault_of insert names c ms
    unfolding fault_of
    fault_named {j} e {v} {w} {r} a b d = d ∙ (λ i. earlier (a i) (b i)) ∙ sym (ap (λ (o : Option Json). (column_written names (absent_by insert) (named_by insert) c o).fault) e)

    pub fault_absent : member_named c.name ms ≡ None → {r : Fault} → r ≡ absent_by insert c → r ≡ fault_of insert names c ms
    unfolding fault_of
    fault_absent e a = a ∙ sym (ap (λ (o : Option Json). (column_written names (absent_by insert) (named_by insert) c o).fault) e)

  -- from the first column to the last: the fault of those before c, and of the others
  pub faults_start : (cells : List (List ℕ)) → faults_of insert names (map column_from cells) ms ≡ earlier Fine (faults_of insert names (map column_from cells) ms)
  faults_start cells = sym (earlier_first (faults_of insert names (map column_from cells) ms))

  module _ (cells : List (List ℕ)) (c : ℕ) (all f : Fault) (so : all ≡ earlier f (faults_of insert names (map column_from (drop c cells)) ms)) where
    pub faults_end : length cells ≤ c → f ≡ all
    unfolding faults_of
    faults_end h =
        sym (so ∙ ap (λ (l : List (List ℕ)). earlier f (columns_written names (absent_by insert) (named_by insert) (map column_from l) ms).fault) (drop_of_length-le cells {i = c} h) ∙ earlier_last f)

    pub faults_on : c < length cells → {g r : Fault} → g ≡ fault_of insert names (column_from (get_or cells c [])) ms → r ≡ earlier f g → all ≡ earlier r (faults_of insert names (map column_from (drop (c + 1) cells)) ms)
    unfolding faults_of fault_of
    faults_on h {g} {r} eg er =
        let rest = (columns_written names (absent_by insert) (named_by insert) (map column_from (drop (c + 1) cells)) ms).fault in
        let e : drop c cells ≡ get_or cells c [] ∷ drop (c + 1) cells = drop-cons cells c [] h ∙ ap (λ (k : ℕ). get_or cells c [] ∷ drop k cells) (sym (add-one c)) in
        so ∙ ap (λ (l : List (List ℕ)). earlier f (columns_written names (absent_by insert) (named_by insert) (map column_from l) ms).fault) e
        ∙ ap (λ (x : Fault). earlier f (earlier x rest)) (sym eg) ∙ earlier_assoc f g rest ∙ ap (λ (x : Fault). earlier x rest) (sym er)

-- ── names ──
found_some : (o : Option ℕ) (k : ℕ) → o ≡ Some k → is_some o ≡ true
found_some None k e = cc
found_some (Some i) k e = refl

found_none : (o : Option ℕ) → o ≡ None → is_some o ≡ false
found_none None e = refl
found_none (Some i) e = cc

module _ (s : List ℕ) (cs : List Column) where
  -- what the walk knows at the place g
  pub record Knows (all : List Named) (g : Option ℕ) : Type 0 where
    pub rest : known_names cs all ≡ known_names cs (members_from s g)
    pub fine : members_fine s g ≡ true

  pub knows_start : (at : ℕ) → well_at s at ≡ true → {g : Option ℕ} → g ≡ first_of s 123 125 at → Knows (members_in (tree_at s at)) g
  knows_start at h {g} e =
      let q = members_in_lem s at h in
      record { rest = ap (known_names cs) (q.0 ∙ ap (members_from s) (sym e)); fine = rw e q.1 }

  module _ {all : List Named} {g : Option ℕ} (so : Knows all g) where
    pub knows_end : g ≡ None → true ≡ known_names cs all
    knows_end e = sym (so.rest ∙ ap (known_names cs) (pass_end s e))

    module _ {p : ℕ} (h : g ≡ Some p) {r : Option ℕ} (t : r ≡ (column_in cs (tree_at s p))) where
      named : (column_named cs (member_at (value_at 12 s) s p).tree.name) ≡ r
      named = sym (t ∙ ap (λ j. (column_in cs j)) (pass_name s h so.fine))

      here : {b : Bool} → is_some (column_named cs (member_at (value_at 12 s) s p).tree.name) ≡ b → known_names cs all ≡ (b && known_names cs (members_from s (next_member s p)))
      here e = so.rest ∙ ap (known_names cs) (pass_rest s h) ∙ ap (λ (b : Bool). b && known_names cs (members_from s (next_member s p))) e

      pub knows_not : r ≡ None → false ≡ known_names cs all
      knows_not e = sym (here (found_none (column_named cs (member_at (value_at 12 s) s p).tree.name) (named ∙ e)))

      pub knows_on : {k : ℕ} {n : Option ℕ} → r ≡ Some k → n ≡ next_member s p → Knows all n
      knows_on {k} {n} e en = record {
        rest = here (found_some (column_named cs (member_at (value_at 12 s) s p).tree.name) k (named ∙ e)) ∙ ap (λ (f : Option ℕ). known_names cs (members_from s f)) (sym en);
        fine = rw en (pass_fine s h so.fine);
      }

-- ── the row ──
module _ (insert : Bool) (text : List ℕ) (names : List ℕ) (columns : List (List ℕ)) (at : ℕ) {k : Bool} (h : k ≡ known_names (map column_from columns) (members_in (tree_at text at))) where
  row_by : {b : Bool} → k ≡ b → (written_row insert text names columns at).fault ≡ earlier (check b Syntax Fine) (faults_of insert (names_at text names) (map column_from columns) (members_in (tree_at text at)))
  unfolding written_row faults_of
  row_by e = ap (λ (b : Bool). earlier (check b Syntax Fine) (faults_of insert (names_at text names) (map column_from columns) (members_in (tree_at text at)))) (sym h ∙ e)

  pub row_known : k ≡ true → {r : Fault} → r ≡ faults_of insert (names_at text names) (map column_from columns) (members_in (tree_at text at)) → r ≡ (written_row insert text names columns at).fault
  row_known e f = f ∙ sym (row_by e ∙ earlier_first (faults_of insert (names_at text names) (map column_from columns) (members_in (tree_at text at))))

  pub row_unknown : k ≡ false → Syntax ≡ (written_row insert text names columns at).fault
  row_unknown e = sym (row_by e ∙ earlier_syntax (faults_of insert (names_at text names) (map column_from columns) (members_in (tree_at text at))))
