-- What conditions without a fault say of a row. Assumes nothing.
use Rattle.std.specs.Prelude.{Option}
use Rattle.marks.specs.declared.Place.TheVariants as place
use Rattle.marks.specs.declared.Place.{Place}
use mathlib.Core.Path.{◌≡◌, refl, sym, ap, subst, ◌∙◌}
use mathlib.Core.Bool.{Bool, true, false, not, ◌&&◌, ◌||◌}
use mathlib.Core.List.{List, [], ◌∷◌, map}
use Prim.Native.Nat.{ℕ, ◌<◌}
use native.Mathlib.Omega.{arith}
use lib.ListN.{length, get_or, length-map}
use Rattle.model.specs.declared.Function.{Function}
use Rattle.std.specs.Prelude.{if◌then◌else◌, Some, None}
use Rattle.model.specs.Json.{Json}
use Rattle.model.specs.Schema.{Base, integer, boolean, text, uuid, Column, scalar, Schema, columns_of}
use Rattle.model.specs.Catalog.{base_numbered}
use Rattle.model.specs.Value.{uuid_atom, elements}
use Rattle.model.specs.Faults.{Judged, is_fine}
use Rattle.model.specs.Written.{Names, test_fault, written}
use Rattle.model.specs.Conditions.{Subject, id_column, is_integer_base, orders, allowed, no_test, test_by, test_of, compare, holds}
use Rattle.model.specs.Areas.{row_from}
use Rattle.model.specs.Catalog.{column_from}
use Rattle.inner.specs.Working.{table_in, id_in, value_in}
use Rattle.model.proofs.Tests.{split, clash, and_l, and_r}
use Rattle.inner.proofs.Columns.{column_value_lem}
use Rattle.inner.proofs.Working.{row_id}
use Rattle.request_values.specs.Values.{atoms_as}
use Rattle.request_values.proofs.Fits.{fine_got}
use Rattle.conditions.specs.Tests.{About, subject_in, column_fault, test_as}
use Rattle.conditions.proofs.Faulty.{fault_allowed, fault_not, test_by_lem}

-- ── a test without a fault ──
is_integer_lem : (k : Base) → is_integer_base k ≡ true → k ≡ integer
is_integer_lem integer h = refl
is_integer_lem boolean h = cc
is_integer_lem text h = cc
is_integer_lem uuid h = cc

module _ (names : Names) (c : Column) (f : Function) (j : Json) (h : is_fine (column_fault names c f j) ≡ true) where
  pub takes : allowed c f ≡ true
  takes = split (allowed c f) (λ e. e) (λ e. absurd (clash false (sym (ap is_fine (fault_not names c f j e)) ∙ h) refl))

  pub written_fine : is_fine (written names c.base (test_fault c f) j).fault ≡ true
  written_fine = ap is_fine (sym (fault_allowed names c f j takes)) ∙ h

  -- a function of order takes integers, one of them
  pub ordered : orders f ≡ true → (c.base ≡ integer) × (scalar c ≡ true)
  ordered o =
      let e = ap (λ b. not b || (is_integer_base c.base && scalar c)) (sym o) ∙ takes in
      (is_integer_lem c.base (and_l (is_integer_base c.base) (scalar c) e), and_r (is_integer_base c.base) (scalar c) e)

  -- what is read of it
  test_got : (s : Subject) → s.column ≡ c → (test_by names j s f).got ≡ record { place = s.place; base = c.base; function = f; atoms = atoms_as names c.base j }
  test_got s e =
      let of : Column → Judged (List (List ℕ)) = λ d. written names d.base (test_fault d f) j in
      ap (λ (b : Bool). (if b then record { fault = (of s.column).fault; got = record { place = s.place; base = s.column.base; function = f; atoms = (of s.column).got } } else no_test).got) (ap (λ d. allowed d f) e ∙ takes)
      ∙ ap (λ d. record { place = s.place; base = d.base; function = f; atoms = (of d).got }) e
      ∙ ap (λ l. record { place = s.place; base = c.base; function = f; atoms = l }) (fine_got names c.base (test_fault c f) j written_fine)

-- ── by its subject ──
module _ (names : Names) (cells : List (List ℕ)) (a : Json) (f : Function) (v : Json) (h : is_fine (test_as names (map column_from cells) a (Some f) v).fault ≡ true) where
  fine_of : {s : Subject} → subject_in (map column_from cells) a ≡ Some s → is_fine (column_fault names s.column f v) ≡ true
  unfolding test_as
  fine_of {s} e = ap is_fine (sym (ap (λ o. (test_of names v o (Some f)).fault) e ∙ test_by_lem names v s f)) ∙ h

  got_of : {s : Subject} (e : subject_in (map column_from cells) a ≡ Some s)
      → (test_as names (map column_from cells) a (Some f) v).got ≡ record { place = s.place; base = s.column.base; function = f; atoms = atoms_as names s.column.base v }
  unfolding test_as
  got_of {s} e = ap (λ o. (test_of names v o (Some f)).got) e ∙ test_got names s.column f v (fine_of e) s refl

  module _ {n : Option Place} (p : About cells n (subject_in (map column_from cells) a)) where
    module _ {k : ℕ} (e : n ≡ Some (place.Column k)) where
      about : (k < length cells) × (subject_in (map column_from cells) a ≡ Some (record { place = Some k; column = column_from (get_or cells k []) }))
      unfolding About
      about = subst (λ n. About cells n (subject_in (map column_from cells) a)) e p

      pub column_within : k < length cells
      column_within = about.0

      pub column_says : (row : List (List ℕ)) {r : Bool} {kind : ℕ} → kind ≡ get_or (get_or cells k []) 25 0 → r ≡ compare f (base_numbered kind) (elements (value_in k row)) (atoms_as names (base_numbered kind) v)
          → (s : Schema) → columns_of s (table_in row) ≡ map column_from cells → r ≡ holds (row_from s row) (test_as names (map column_from cells) a (Some f) v).got
      column_says row {r} {kind} same q = λ s w.
          let b = base_numbered (get_or (get_or cells k []) 25 0) in
          let l : k < length (columns_of s (table_in row)) = omega (arith, about.0, ap length w, length-map cells column_from) in
          q ∙ ap (λ (i : ℕ). compare f (base_numbered i) (elements (value_in k row)) (atoms_as names (base_numbered i) v)) same ∙ ap (λ x. compare f b (elements x) (atoms_as names b v)) (sym (column_value_lem s row k l)) ∙ ap (holds (row_from s row)) (sym (got_of about.1))

    module _ (e : n ≡ Some place.Id) where
      own : subject_in (map column_from cells) a ≡ Some (record { place = None; column = id_column })
      unfolding About
      own = subst (λ n. About cells n (subject_in (map column_from cells) a)) e p

      pub id_says : (row : List (List ℕ)) {r : Bool} → r ≡ compare f uuid (uuid_atom (id_in row) ∷ []) (atoms_as names uuid v)
          → (s : Schema) → columns_of s (table_in row) ≡ map column_from cells → r ≡ holds (row_from s row) (test_as names (map column_from cells) a (Some f) v).got
      id_says row {r} q = λ s w. q ∙ ap (λ i. compare f uuid (uuid_atom i ∷ []) (atoms_as names uuid v)) (sym (row_id s row)) ∙ ap (holds (row_from s row)) (sym (got_of own))
