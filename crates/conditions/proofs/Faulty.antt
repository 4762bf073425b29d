-- How conditions are judged, one after another. Assumes nothing.
use Rattle.marks.specs.declared.Place.TheVariants as place
use Rattle.marks.specs.declared.Place.{Place}
use Rattle.std.specs.Prelude.{Option, Some, None}
use mathlib.Core.Path.{◌≡◌, refl, sym, ap, subst, ◌∙◌}
use mathlib.Core.Bool.{true, false, not, ◌&&◌, ◌||◌}
use mathlib.Core.List.{List, [], ◌∷◌, map}
use Prim.Native.Nat.{ℕ, ◌<◌}
use lib.Dec.{eqb}
use lib.ListN.{length, get_or}
use Rattle.model.specs.declared.Fault.{Fault}
use Rattle.model.specs.declared.Fault.TheVariants.{Fine, Syntax}
use Rattle.model.specs.declared.Function.{Function}
use Rattle.model.specs.Json.{Json}
use Rattle.inner.specs.Positions.{tree_at, well_at, next_item}
use Rattle.inner.specs.Positions as Text
use Rattle.model.specs.Catalog.{base_numbered}
use Rattle.model.specs.Schema.{Column, scalar}
use Rattle.model.specs.Faults.{earlier}
use Rattle.model.specs.Written.{Names, test_fault, written}
use Rattle.model.specs.Conditions.{Subject, id_column, is_integer_base, orders, allowed, no_test, test_by, test_of, subject_named, function_named, read_tests}
use Rattle.model.specs.Catalog.{column_from}
use Rattle.model.proofs.Tests.{split}
use Rattle.model.proofs.FaultLaws.{earlier_last, earlier_assoc}
use Rattle.nav.proofs.Walk.{walk_rest, walk_end}
use Rattle.uuids.specs.Named.{names_at}
use Rattle.conditions.specs.Lookup.{Thrice, Triples}
use Rattle.conditions.specs.Tests.{function_in, About, subject_in, column_fault, test_as, test_at, tests_at}

-- ── what a column takes ──
base_integer : (k : ℕ) → is_integer_base (base_numbered k) ≡ eqb k 0
unfolding base_numbered
base_integer k = split (eqb k 0)
    (λ a. rw (base_numbered, a))
    (λ a. split (eqb k 1) (λ b. rw (base_numbered, a, b)) (λ b. split (eqb k 2) (λ d. rw (base_numbered, a, b, d)) (λ d. rw (base_numbered, a, b, d))))

module _ (cell : List ℕ) (f : Function) where
  pub allowed_order : orders f ≡ true → (eqb (get_or cell 25 0) 0 && (eqb (get_or cell 28 0) 1 && eqb (get_or cell 29 0) 1)) ≡ allowed (column_from cell) f
  allowed_order h = sym (ap (λ b. not b || (is_integer_base (base_numbered (get_or cell 25 0)) && scalar (column_from cell))) h ∙ ap (λ b. b && scalar (column_from cell)) (base_integer (get_or cell 25 0)))

-- ── a condition ──
module _ (names : Names) (c : Column) (f : Function) (j : Json) where
  pub fault_allowed : allowed c f ≡ true → column_fault names c f j ≡ (written names c.base (test_fault c f) j).fault
  unfolding column_fault
  fault_allowed h = rw (column_fault, h)

  pub fault_not : allowed c f ≡ false → column_fault names c f j ≡ Syntax
  unfolding column_fault
  fault_not h = rw (column_fault, h)

pub test_by_lem : (names : Names) (j : Json) (s : Subject) (f : Function) → (test_by names j s f).fault ≡ column_fault names s.column f j
unfolding column_fault
test_by_lem names j s f = split (allowed s.column f) (λ h. rw (h, column_fault)) (λ h. rw (h, column_fault))

no_function : (names : Names) (j : Json) (o : Option Subject) → test_of names j o None ≡ no_test
no_function names j None = refl
no_function names j (Some s) = refl

module _ (names : Names) (cells : List (List ℕ)) (a v : Json) where
  abbrev cs : List Column
  cs = map column_from cells

  pub function_none : {c : Option Function} → c ≡ None → test_as names cs a c v ≡ no_test
  unfolding test_as
  function_none e = ap (test_of names v (subject_in cs a)) e ∙ no_function names v (subject_in cs a)

  module _ (f : Function) where
    by_subject : {s : Subject} → subject_in cs a ≡ Some s → (test_as names cs a (Some f) v).fault ≡ column_fault names s.column f v
    unfolding test_as
    by_subject {s} e = ap (λ o. (test_of names v o (Some f)).fault) e ∙ test_by_lem names v s f

    pub column_judged : {n : Option Place} {k : ℕ} → About cells n (subject_in cs a) → n ≡ Some (place.Column k) → (test_as names cs a (Some f) v).fault ≡ column_fault names (column_from (get_or cells k [])) f v
    unfolding About
    column_judged p e = by_subject (subst (λ n. About cells n (subject_in cs a)) e p).1

    pub column_place_lem : {n : Option Place} {k : ℕ} → About cells n (subject_in cs a) → n ≡ Some (place.Column k) → k < length cells
    unfolding About
    column_place_lem p e = (subst (λ n. About cells n (subject_in cs a)) e p).0

    pub id_judged : {n : Option Place} → About cells n (subject_in cs a) → n ≡ Some place.Id → (test_as names cs a (Some f) v).fault ≡ column_fault names id_column f v
    unfolding About
    id_judged p e = by_subject (subst (λ n. About cells n (subject_in cs a)) e p)

    pub subject_none : {n : Option Place} → About cells n (subject_in cs a) → n ≡ None → test_as names cs a (Some f) v ≡ no_test
    unfolding About test_as
    subject_none p e = ap (λ o. test_of names v o (Some f)) (subst (λ n. About cells n (subject_in cs a)) e p)

-- the condition at a position, by its three items
module _ (s : List ℕ) (names : List ℕ) (cells : List (List ℕ)) (at : ℕ) {t : Option (ℕ × ℕ × ℕ)} (p : Triples s t (tree_at s at)) where
  pub test_triple : {a b v : ℕ} → t ≡ Some (a, b, v) → test_at s names cells at ≡ test_as (names_at s names) (map column_from cells) (tree_at s a) (function_in (tree_at s b)) (tree_at s v)
  unfolding Triples test_at test_as function_in subject_in
  test_triple {a} {b} {v} e =
      let q : Thrice s a b v (tree_at s at) = subst (λ t. Triples s t (tree_at s at)) e p in
      let n = names_at s names in
      let cs = map column_from cells in
      ap (λ o. elim o [ None ↦ no_test | Some t ↦ test_of n t.value (subject_named cs t.name) (function_named t.word) ]) q.all
      ∙ ap (λ o. test_of n (tree_at s v) o (function_named (Text.word_in (tree_at s b)))) (sym (ap (λ o. elim o [ None ↦ None | Some w ↦ subject_named cs w ]) q.name))
      ∙ ap (test_of n (tree_at s v) (subject_in cs (tree_at s a))) (sym (ap (λ o. elim o [ None ↦ None | Some w ↦ function_named w ]) q.word))

  pub value_well : {a b v : ℕ} → t ≡ Some (a, b, v) → well_at s v ≡ true
  unfolding Triples
  value_well {a} {b} {v} e = let q : Thrice s a b v (tree_at s at) = subst (λ t. Triples s t (tree_at s at)) e p in q.well

  pub test_other : t ≡ None → test_at s names cells at ≡ no_test
  unfolding Triples test_at
  test_other e =
      let n = names_at s names in
      let cs = map column_from cells in
      ap (λ o. elim o [ None ↦ no_test | Some t ↦ test_of n t.value (subject_named cs t.name) (function_named t.word) ]) (subst (λ t. Triples s t (tree_at s at)) e p)

-- ── conditions from a place on ──
module _ (s : List ℕ) (names : List ℕ) (cells : List (List ℕ)) {g : Option ℕ} where
  tests_on : {p : ℕ} → g ≡ Some p
      → tests_at s names cells g ≡ record { fault = earlier (test_at s names cells p).fault (tests_at s names cells (next_item s p)).fault; got = (test_at s names cells p).got ∷ (tests_at s names cells (next_item s p)).got }
  unfolding tests_at test_at
  tests_on h = ap (read_tests (names_at s names) (map column_from cells)) (walk_rest s h)

  pub fault_on : {p : ℕ} → g ≡ Some p → (tests_at s names cells g).fault ≡ earlier (test_at s names cells p).fault (tests_at s names cells (next_item s p)).fault
  fault_on h = ap (λ t. t.fault) (tests_on h)

  pub got_on : {p : ℕ} → g ≡ Some p → (tests_at s names cells g).got ≡ (test_at s names cells p).got ∷ (tests_at s names cells (next_item s p)).got
  got_on h = ap (λ t. t.got) (tests_on h)

  pub tests_end : g ≡ None → tests_at s names cells g ≡ record { fault = Fine; got = [] }
  unfolding tests_at
  tests_end h = ap (read_tests (names_at s names) (map column_from cells)) (walk_end s h)

  -- a turn that keeps the earliest fault so far
  pub worst_on : (all w t : Fault) {p : ℕ} → all ≡ earlier w (tests_at s names cells g).fault → g ≡ Some p → t ≡ (test_at s names cells p).fault → {v : Fault} → v ≡ earlier w t
      → all ≡ earlier v (tests_at s names cells (next_item s p)).fault
  worst_on all w t {p} e h q {v} r =
      let rest = (tests_at s names cells (next_item s p)).fault in
      e ∙ ap (earlier w) (fault_on h) ∙ ap (λ x. earlier w (earlier x rest)) (sym q) ∙ earlier_assoc w t rest ∙ ap (λ x. earlier x rest) (sym r)

  pub worst_end : (all w : Fault) → all ≡ earlier w (tests_at s names cells g).fault → g ≡ None → all ≡ w
  worst_end all w e h = e ∙ ap (λ t. earlier w t.fault) (tests_end h) ∙ earlier_last w
