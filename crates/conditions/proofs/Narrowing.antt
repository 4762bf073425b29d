-- What conditions come to: their faults, and the marks that they leave. Assumes nothing.
use Rattle.std.specs.Prelude.{Option}
use Rattle.std.specs.Prelude.{Some}
use mathlib.Core.Path.{◌≡◌, refl, sym, ap, subst, ◌∙◌}
use mathlib.Core.Bool.{Bool, true, false, ◌&&◌}
use mathlib.Core.List.{List, [], ◌∷◌, map}
use Prim.Native.Nat.{ℕ, zero, suc, ◌≤◌, ◌<◌}
use native.Mathlib.Omega.{arith}
use lib.Dec.{eqb}
use lib.ListN.{length, get_or, take}
use borrow.Author.Tests.{eqb-true}
use Rattle.model.specs.declared.Fault.{Fault}
use Rattle.model.specs.declared.Fault.TheVariants.{Syntax}
use Rattle.model.specs.declared.Function.{Function}
use Rattle.model.specs.declared.Function.TheVariants.{Less, AtMost, Equal, Unequal, AtLeast, Greater, Includes, Excludes}
use Rattle.model.specs.Base.{all}
use Rattle.model.specs.Json.{Json}
use Rattle.model.specs.Schema.{Base, Column, Schema, columns_of}
use Rattle.model.specs.Faults.{Judged, is_fine}
use Rattle.model.specs.Written.{Names, test_fault, written}
use Rattle.model.specs.Areas.{row_from}
use Rattle.model.specs.Catalog.{column_from}
use Rattle.inner.specs.Working.{table_in}
use Rattle.model.specs.Conditions.{id_column, orders, allowed, compare, Test, no_test, holds, matches}
use Rattle.model.proofs.Tests.{split, clash, and_l}
use Rattle.model.proofs.Sets.{sorted_length}
use Rattle.model.proofs.WrittenLaws.{fitting_parts}
use Rattle.inner.proofs.Working.{row_table}
use Rattle.request_values.specs.Values.{atoms_as, TestGiven}
use Rattle.request_values.proofs.Fits.{fine_got}
use Rattle.marks.specs.declared.Place.{Place}
use Rattle.marks.specs.declared.Place.TheVariants as place
use Rattle.marks.specs.Marks.{kept_as, met, atoms_at, OfTable, Narrowed, MarkedRows}
use Rattle.marks.proofs.Atoms.{and_true}
use Rattle.marks.proofs.Meeting.{three, narrowed_as, met_kept}
use Rattle.conditions.specs.Tests.{About, subject_in, column_fault, test_as, fits, KeptAs, Beyond, ValueNarrowed, TestNarrowed}
use Rattle.conditions.proofs.Faulty.{fault_allowed, fault_not, column_judged, id_judged}
use Rattle.conditions.proofs.Holding.{ordered, column_says, id_says}
use Rattle.conditions.proofs.Beyond.{order_fits}

kept_length : (f : Function) (k : Base) (l : List (List ℕ)) → length (kept_as f k l) ≡ length l
unfolding kept_as
kept_length Less k l = refl
kept_length AtMost k l = refl
kept_length Equal k l = sorted_length k l
kept_length Unequal k l = sorted_length k l
kept_length AtLeast k l = refl
kept_length Greater k l = refl
kept_length Includes k l = refl
kept_length Excludes k l = refl

take_within : (n : ℕ) (l : List (List ℕ)) → n ≡ length (take n l) → n ≤ length l
take_within zero l h = omega arith
take_within (suc n) [] h = omega (arith, h)
take_within (suc n) (a ∷ l) h = let z = take_within n l (omega (arith, h)) in omega (arith, z)

-- ── a condition on a column ──
module _ (names : Names) (c : Column) (place : Place) (f : Function) (j : Json) (rows : List (List (List ℕ))) (before : List Bool) where
  pub narrowed_not : allowed c f ≡ false → ValueNarrowed names c place f j Syntax rows before before
  narrowed_not e = record {
    fault = sym (fault_not names c f j e);
    marks = λ h. absurd (clash (is_fine (column_fault names c f j)) h (ap is_fine (fault_not names c f j e)));
    still = λ h. refl;
  }

  module _ (ok : allowed c f ≡ true) {r : Fault} {n : ℕ} {fit : Bool} {atoms : List (List ℕ)} (g : TestGiven names c f j r n fit atoms) where
    judged : r ≡ column_fault names c f j
    judged = g.fault ∙ sym (fault_allowed names c f j ok)

    pub narrowed_fault : is_fine r ≡ false → ValueNarrowed names c place f j r rows before before
    narrowed_fault e = record { fault = judged; marks = λ h. absurd (clash (is_fine (column_fault names c f j)) h (ap is_fine (sym judged) ∙ e)); still = λ h. refl }

    module _ (fine : is_fine r ≡ true) where
      good : is_fine (column_fault names c f j) ≡ true
      good = ap is_fine (sym judged) ∙ fine

      right : is_fine (written names c.base (test_fault c f) j).fault ≡ true
      right = ap is_fine (sym g.fault) ∙ fine

      abbrev got : List (List ℕ)
      got = (written names c.base (test_fault c f) j).got

      same : got ≡ atoms_as names c.base j
      same = fine_got names c.base (test_fault c f) j right

      narrowed_by : {after : List Bool} → Narrowed (λ row. compare f c.base (atoms_at place row) (atoms_as names c.base j)) rows before after → ValueNarrowed names c place f j r rows before after
      narrowed_by w = record { fault = judged; marks = λ h. w; still = λ h. absurd (clash (is_fine (column_fault names c f j)) good h) }

      pub few : fit ≡ true → n ≤ 4
      few t = let p = fitting_parts c got (sym (g.fit right) ∙ t) in omega (arith, p.0, g.count right)

      module _ (k : Base) (b : k ≡ c.base) (l : List (List ℕ)) (q : KeptAs f k n atoms l) (t : fit ≡ true) where
        kept_is : take n l ≡ kept_as f k got
        unfolding KeptAs
        kept_is = q got (g.count right) (g.gathered right t)

        pub kept_count : n ≡ length (take n l)
        kept_count = g.count right ∙ sym (ap length kept_is ∙ kept_length f k got)

        pub kept_within : n ≤ length l
        kept_within = take_within n l kept_count

        pub narrowed_fit : {after : List Bool} → Narrowed (λ row. met f (atoms_at place row) (take n l)) rows before after → ValueNarrowed names c place f j r rows before after
        narrowed_fit w = narrowed_by (narrowed_as (λ (row : List (List ℕ)). ap (met f (atoms_at place row)) kept_is ∙ met_kept f k (atoms_at place row) got ∙ ap (λ k. compare f k (atoms_at place row) got) b ∙ ap (compare f c.base (atoms_at place row)) same) w)

      module _ (k : Base) (b : k ≡ c.base) (t : fit ≡ false) where
        unfit : fits c.base (atoms_as names c.base j) ≡ false
        unfolding fits
        unfit = sym (ap (λ l. fits c.base l) same) ∙ sym (g.fit right) ∙ t

        pub beyond : Beyond names k f j
        beyond = record {
          unordered = split (orders f) (λ o. absurd (clash (fits c.base (atoms_as names c.base j)) (order_fits names c f j o (ordered names c f j good o).0 (ordered names c f j good o).1 right) unfit)) (λ o. o);
          unfit = ap (λ k. fits k (atoms_as names k j)) b ∙ unfit;
        }

        pub narrowed_beyond : {after : List Bool} → Narrowed (λ row. compare f k (atoms_at place row) (atoms_as names k j)) rows before after → ValueNarrowed names c place f j r rows before after
        narrowed_beyond w = narrowed_by (narrowed_as (λ (row : List (List ℕ)). ap (λ k. compare f k (atoms_at place row) (atoms_as names k j)) b) w)

-- ── a condition ──
module _ (cs : List Column) {t : Judged Test} (rows : List (List (List ℕ))) (before : List Bool) where
  pub narrowed_none : t ≡ no_test → TestNarrowed cs t Syntax rows before before
  narrowed_none e = record { fault = sym (ap (λ (x : Judged Test). x.fault) e); marks = λ h. absurd (clash (is_fine t.fault) h (ap (λ (x : Judged Test). is_fine x.fault) e)); still = λ h. refl }

module _ (names : Names) (cells : List (List ℕ)) (a v : Json) (f : Function) {t : Judged Test} (e : t ≡ test_as names (map column_from cells) a (Some f) v) where
  abbrev of : Judged Test
  of = test_as names (map column_from cells) a (Some f) v

  fine_of : is_fine t.fault ≡ true → is_fine of.fault ≡ true
  fine_of h = ap (λ (x : Judged Test). is_fine x.fault) (sym e) ∙ h

  got_of : (s : Schema) (row : List (List ℕ)) → holds (row_from s row) of.got ≡ holds (row_from s row) t.got
  got_of s row = ap (λ (x : Judged Test). holds (row_from s row) x.got) (sym e)

  pub narrowed_column : {n : Option Place} {k : ℕ} {r : Fault} {rows : List (List (List ℕ))} {before after : List Bool} → About cells n (subject_in (map column_from cells) a) → n ≡ Some (place.Column k)
      → ValueNarrowed names (column_from (get_or cells k [])) (place.Column k) f v r rows before after → TestNarrowed (map column_from cells) t r rows before after
  unfolding atoms_at
  narrowed_column {k = k} p q g =
      let w : of.fault ≡ column_fault names (column_from (get_or cells k [])) f v = column_judged names cells a v f p q in
      let z : t.fault ≡ column_fault names (column_from (get_or cells k [])) f v = ap (λ (x : Judged Test). x.fault) e ∙ w in
      record {
        fault = g.fault ∙ sym z;
        marks = λ h. (_, g.marks (ap is_fine (sym z) ∙ h), λ s row u. column_says names cells a f v (fine_of h) p q row refl refl s u ∙ got_of s row);
        still = λ h. g.still (ap is_fine (sym z) ∙ h);
      }

  pub narrowed_id : {n : Option Place} {d : Column} {r : Fault} {rows : List (List (List ℕ))} {before after : List Bool} → About cells n (subject_in (map column_from cells) a) → n ≡ Some place.Id
      → d ≡ id_column → ValueNarrowed names d place.Id f v r rows before after → TestNarrowed (map column_from cells) t r rows before after
  unfolding atoms_at
  narrowed_id {r = r} {rows = rows} {before = before} {after = after} p q d h =
      let g = subst (λ (z : Column). ValueNarrowed names z place.Id f v r rows before after) d h in
      let w : of.fault ≡ column_fault names id_column f v = id_judged names cells a v f p q in
      let z : t.fault ≡ column_fault names id_column f v = ap (λ (x : Judged Test). x.fault) e ∙ w in
      record {
        fault = g.fault ∙ sym z;
        marks = λ h. (_, g.marks (ap is_fine (sym z) ∙ h), λ s row u. id_says names cells a f v (fine_of h) p q row refl s u ∙ got_of s row);
        still = λ h. g.still (ap is_fine (sym z) ∙ h);
      }

-- ── conditions one after another: `rest` are those that are left ──
pub record Going (cs : List Column) (table : ℕ) (ts rest : List Test) (rows : List (List (List ℕ))) (marks : List Bool) : Type 0 where
  pub here : (s : Schema) → columns_of s table ≡ cs → (i : ℕ) → i < length rows → matches table ts (row_from s (get_or rows i [])) ≡ (get_or marks i false && all (holds (row_from s (get_or rows i []))) rest)
  pub tabled : (i : ℕ) → i < length rows → get_or marks i false ≡ true → table ≡ table_in (get_or rows i [])

module _ (cs : List Column) (table : ℕ) (ts : List Test) (rows : List (List (List ℕ))) where
  pub going_none : {marks : List Bool} → OfTable table rows marks → Going cs table ts ts rows marks
  unfolding OfTable
  going_none {marks} o = record {
    here = λ s w i l. ap (λ n. eqb table n && all (holds (row_from s (get_or rows i []))) ts) (row_table s (get_or rows i [])) ∙ ap (λ b. b && all (holds (row_from s (get_or rows i []))) ts) (sym (o i l));
    tabled = λ i l h. eqb-true table (table_in (get_or rows i [])) (sym (o i l) ∙ h);
  }

  pub going_on : {marks next : List Bool} {t : Test} {rest : List Test} → Going cs table ts (t ∷ rest) rows marks
      → (q : List (List ℕ) → Bool) → Narrowed q rows marks next → ((s : Schema) (row : List (List ℕ)) → columns_of s (table_in row) ≡ cs → q row ≡ holds (row_from s row) t)
      → Going cs table ts rest rows next
  going_on {marks} {next} {t} {rest} g q n h = record {
    here = λ s w i l.
        let row = get_or rows i [] in
        g.here s w i l
        ∙ three (get_or marks i false) (q row) (holds (row_from s row) t && all (holds (row_from s row)) rest) (all (holds (row_from s row)) rest)
        (λ e. ap (λ b. b && all (holds (row_from s row)) rest) (sym (h s row (ap (columns_of s) (sym (g.tabled i l e)) ∙ w))))
        ∙ ap (λ b. b && all (holds (row_from s row)) rest) (sym (n.here i l));
    tabled = λ i l e. g.tabled i l (and_l (get_or marks i false) (q (get_or rows i [])) (sym (n.here i l) ∙ e));
  }

  pub going_end : {marks : List Bool} → Going cs table ts [] rows marks → MarkedRows cs ts table (length rows) rows marks
  unfolding MarkedRows
  going_end {marks} g s w i l = sym (g.here s w i l ∙ and_true (get_or marks i false))
