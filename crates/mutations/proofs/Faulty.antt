-- How mutations are read and judged, one after another. Assumes nothing.
use Rattle.std.specs.Prelude.{Option, Some, None}
use mathlib.Core.Path.{◌≡◌, refl, sym, ap, subst, ◌∙◌}
use mathlib.Core.Bool.{Bool, true, false}
use mathlib.Core.List.{List, [], ◌∷◌, map}
use Prim.Native.Nat.{ℕ, ◌-◌}
use native.Mathlib.Omega.{arith}
use lib.Dec.{eqb}
use lib.ListN.{length, get_or, take, replicate}
use lib.Seq.{take-append_seam}
use Rattle.model.specs.declared.Fault.{Fault}
use Rattle.model.specs.declared.Fault.TheVariants.{Fine, Syntax, Constraint}
use Rattle.model.specs.declared.Mutator.{Mutator}
use Rattle.model.specs.Json.{Json}
use Rattle.inner.specs.Positions.{tree_at, next_item}
use Rattle.inner.specs.Positions as Text
use Rattle.model.specs.Catalog.{base_numbered}
use Rattle.model.specs.Schema.{Column, column_named}
use Rattle.model.specs.Value.{blank, int_of}
use Rattle.model.specs.Faults.{is_fine, earlier, check, Judged}
use Rattle.model.specs.Written.{Names, fitting, written}
use Rattle.model.specs.Conditions.{is_integer_base, first_int}
use Rattle.model.specs.Mutations.{Mutation, suits, mutation_fault, no_mutation, mutation_by, mutation_of, mutator_named, read_mutation, read_mutations}
use Rattle.model.specs.Catalog.{column_from}
use Rattle.model.proofs.Tests.{split, clash}
use Rattle.model.proofs.FaultLaws.{earlier_fine}
use Rattle.model.proofs.WrittenLaws.{fitting_parts}
use Rattle.value.proofs.Fours.{padded}
use Rattle.request_values.specs.Values.{atoms_as, ValueGiven}
use Rattle.request_values.proofs.Fits.{fine_got, beyond_deletes}
use Rattle.nav.proofs.Walk.{walk_rest, walk_end}
use Rattle.uuids.specs.Named.{names_at}
use Rattle.model.proofs.FaultLaws.{earlier_last, earlier_assoc}
use Rattle.conditions.specs.Lookup.{column_in, Thrice, Triples}
use Rattle.mutations.specs.Mutating.{mutator_in, column_fault, Parted, PartsOf, mutation_at, mutations_at, elements_read, mutation_from, Ready, MutationRead}
use Rattle.mutations.specs.declared.read.Mutation.{Mutation as Read}
use Rattle.mutations.proofs.Naming.{nth_cells, column_some, column_none, column_place_lem}

-- ── what a column takes ──
pub base_integer : (k : ℕ) → is_integer_base (base_numbered k) ≡ eqb k 0
unfolding base_numbered
base_integer k = split (eqb k 0)
    (λ a. rw (base_numbered, a))
    (λ a. split (eqb k 1) (λ b. rw (base_numbered, a, b)) (λ b. split (eqb k 2) (λ d. rw (base_numbered, a, b, d)) (λ d. rw (base_numbered, a, b, d))))

-- ── a mutation on a column ──
module _ (c : Column) (m : Mutator) (v : Fault) where
  pub fault_suited : suits c m ≡ true → column_fault c m v ≡ earlier v (check c.mutable Constraint Fine)
  unfolding column_fault
  fault_suited h = rw (column_fault, h)

  pub fault_not : suits c m ≡ false → column_fault c m v ≡ Syntax
  unfolding column_fault
  fault_not h = rw (column_fault, h)

  -- one without a fault suits its column, and what is written has none
  fine_parts : is_fine (column_fault c m v) ≡ true → (suits c m ≡ true) × (is_fine v ≡ true)
  fine_parts h = split (suits c m)
      (λ e. (e, (earlier_fine v (check c.mutable Constraint Fine) (ap is_fine (sym (fault_suited e)) ∙ h)).0))
      (λ e. absurd (clash false (ap is_fine (sym (fault_not e)) ∙ h) refl))

module _ (names : Names) (c : Column) (m : Mutator) (j : Json) where
  abbrev value_read : Judged (List (List ℕ))
  value_read = written names c.base (mutation_fault c m) j

  by_fault : (k : ℕ) → (mutation_by names j k m c).fault ≡ column_fault c m value_read.fault
  unfolding column_fault
  by_fault k = split (suits c m) (λ h. rw (h, column_fault)) (λ h. rw (h, column_fault))

  by_got : (k : ℕ) → suits c m ≡ true → (mutation_by names j k m c).got ≡ record { place = k; column = c; mutator = m; atoms = value_read.got }
  by_got k h = rw h

-- ── by its three items ──
no_mutator : (names : Names) (cs : List Column) (j : Json) (o : Option ℕ) → mutation_of names cs j o None ≡ no_mutation
no_mutator names cs j None = refl
no_mutator names cs j (Some k) = refl

module _ (s : List ℕ) (cells : List (List ℕ)) (at : ℕ) {t : Option (ℕ × ℕ × ℕ)} (p : Triples s t (tree_at s at)) where
  pub parts_other : t ≡ None → PartsOf s cells at None
  unfolding Triples PartsOf
  parts_other e names = ap (λ o. elim o [ None ↦ no_mutation | Some t ↦ mutation_of names (map column_from cells) t.value (column_named (map column_from cells) t.name) (mutator_named t.word) ]) (subst (λ t. Triples s t (tree_at s at)) e p)

  module _ {a b v : ℕ} (e : t ≡ Some (a, b, v)) where
    thrice : Thrice s a b v (tree_at s at)
    unfolding Triples
    thrice = subst (λ t. Triples s t (tree_at s at)) e p

    by_items : (names : Names) → read_mutation names (map column_from cells) (tree_at s at) ≡ mutation_of names (map column_from cells) (tree_at s v) (column_in (map column_from cells) (tree_at s a)) (mutator_in (tree_at s b))
    unfolding mutator_in
    by_items names =
        ap (λ o. elim o [ None ↦ no_mutation | Some t ↦ mutation_of names (map column_from cells) t.value (column_named (map column_from cells) t.name) (mutator_named t.word) ]) thrice.all
        ∙ ap (λ o. mutation_of names (map column_from cells) (tree_at s v) o (mutator_named (Text.word_in (tree_at s b)))) (sym (ap (λ o. elim o [ None ↦ None | Some w ↦ column_named (map column_from cells) w ]) thrice.name))
        ∙ ap (mutation_of names (map column_from cells) (tree_at s v) (column_in (map column_from cells) (tree_at s a))) (sym (ap (λ o. elim o [ None ↦ None | Some w ↦ mutator_named w ]) thrice.word))

    pub parts_mutator : mutator_in (tree_at s b) ≡ None → PartsOf s cells at None
    unfolding PartsOf
    parts_mutator h names = by_items names ∙ ap (mutation_of names (map column_from cells) (tree_at s v) (column_in (map column_from cells) (tree_at s a))) h ∙ no_mutator names (map column_from cells) (tree_at s v) (column_in (map column_from cells) (tree_at s a))

    module _ {f : Option ℕ} (ef : f ≡ (column_in (map column_from cells) (tree_at s a))) where
      pub parts_column : f ≡ None → PartsOf s cells at None
      unfolding PartsOf
      parts_column h names = by_items names ∙ ap (λ k. mutation_of names (map column_from cells) (tree_at s v) k (mutator_in (tree_at s b))) (column_none cells (tree_at s a) ef h)

      pub parts_all : {i : ℕ} {m : Mutator} → f ≡ Some i → mutator_in (tree_at s b) ≡ Some m → PartsOf s cells at (Some (i, m, v))
      unfolding PartsOf
      parts_all {i} {m} h q = record {
        place = column_place_lem cells (tree_at s a) ef h;
        well = thrice.well;
        all = λ names.
            by_items names
            ∙ (λ j. mutation_of names (map column_from cells) (tree_at s v) (column_some cells (tree_at s a) ef h j) (q j))
            ∙ ap (λ o. elim o [ None ↦ no_mutation | Some c ↦ mutation_by names (tree_at s v) i m c ]) (nth_cells cells i (column_place_lem cells (tree_at s a) ef h));
      }

-- ── by its parts ──
first_padded : (l : List (List ℕ)) → first_int l ≡ int_of (get_or (padded l) 0 [])
first_padded [] = refl
first_padded (a ∷ l) = refl

module _ (s : List ℕ) (names : List ℕ) (cells : List (List ℕ)) (at : ℕ) {t : Option (ℕ × Mutator × ℕ)} (p : PartsOf s cells at t) where
  parts_none : t ≡ None → mutation_at s names cells at ≡ no_mutation
  unfolding PartsOf mutation_at
  parts_none e =
      let q : PartsOf s cells at None = subst (PartsOf s cells at) e p in
      q (names_at s names)

  pub none_is : (m : Read) (held : List (List ℕ)) → t ≡ None → m.fault ≡ Syntax → MutationRead s names cells (mutation_at s names cells at) m held
  none_is m held e f =
      let q : (mutation_at s names cells at).fault ≡ Syntax = ap (λ (j : Judged Mutation). j.fault) (parts_none e) in
      let never : is_fine (mutation_at s names cells at).fault ≡ true → ⊥ = λ h. clash false (ap is_fine (sym q) ∙ h) refl in
      record { fault = f ∙ sym q; got = λ h. absurd (never h); place = λ h. absurd (never h); ready = λ h. absurd (never h) }

  module _ {i : ℕ} {m : Mutator} {v : ℕ} (e : t ≡ Some (i, m, v)) where
    pub parted : Parted s cells at i m v
    unfolding PartsOf
    parted = subst (PartsOf s cells at) e p

    abbrev column : Column
    column = column_from (get_or cells i [])

    abbrev value : Judged (List (List ℕ))
    value = value_read (names_at s names) column m (tree_at s v)

    parts_fault : (mutation_at s names cells at).fault ≡ column_fault column m value.fault
    unfolding mutation_at
    parts_fault = ap (λ q. q.fault) (parted.all (names_at s names)) ∙ by_fault (names_at s names) column m (tree_at s v) i

    parts_got : suits column m ≡ true → (mutation_at s names cells at).got ≡ record { place = i; column = column; mutator = m; atoms = value.got }
    unfolding mutation_at
    parts_got h = ap (λ q. q.got) (parted.all (names_at s names)) ∙ by_got (names_at s names) column m (tree_at s v) i h

    module _ {w : Fault} {n : ℕ} {fits : Bool} {atoms : List (List ℕ)} (g : ValueGiven (names_at s names) column (mutation_fault column m) (tree_at s v) w n fits atoms) (h : is_fine (mutation_at s names cells at).fault ≡ true) where
      suited : (suits column m ≡ true) × (is_fine value.fault ≡ true)
      suited = fine_parts column m value.fault (ap is_fine (sym parts_fault) ∙ h)

      held : fits ≡ true → take n atoms ≡ value.got
      held y = ap (take n) (g.gathered suited.1 y) ∙ ap (λ (k : ℕ). take k (padded value.got)) (g.count suited.1) ∙ take-append_seam value.got (replicate (4 - length value.got) blank)

      stood : atoms_as (names_at s names) column.base (tree_at s v) ≡ value.got
      stood = sym (fine_got (names_at s names) column.base (mutation_fault column m) (tree_at s v) suited.1)

      read_ready : (f : Fault) → Ready s (record { fault = f; place = i; mutator = m; at = v; count = n; fits = fits }) atoms
      read_ready f = record {
        few = λ y. omega (arith, g.count suited.1, (fitting_parts column value.got (sym (g.fit suited.1) ∙ y)).0);
        first = λ y. ap first_int (held y) ∙ first_padded value.got ∙ ap (λ (l : List (List ℕ)). int_of (get_or l 0 [])) (sym (g.gathered suited.1 y));
        deletes = λ y. beyond_deletes (names_at s names) column (tree_at s v) m suited.0 suited.1 (ap (fitting column) stood ∙ sym (g.fit suited.1) ∙ y);
        well = λ y. parted.well;
      }

      read_got : (f : Fault) → mutation_from s names cells (record { fault = f; place = i; mutator = m; at = v; count = n; fits = fits }) atoms ≡ (mutation_at s names cells at).got
      unfolding mutation_from elements_read
      read_got f =
          let l : List (List ℕ) = elim fits [ true ↦ take n atoms | false ↦ atoms_as (names_at s names) column.base (tree_at s v) ] in
          let q : l ≡ value.got = split fits (λ y. rw y (held y)) (λ y. rw y stood) in
          ap (λ (k : List (List ℕ)). record { place = i; column = column; mutator = m; atoms = k }) q ∙ sym (parts_got suited.0)

    pub read_is : {w f : Fault} {n : ℕ} {fits : Bool} {atoms : List (List ℕ)} → ValueGiven (names_at s names) column (mutation_fault column m) (tree_at s v) w n fits atoms → f ≡ column_fault column m w
        → MutationRead s names cells (mutation_at s names cells at) (record { fault = f; place = i; mutator = m; at = v; count = n; fits = fits }) atoms
    read_is {w} {f} g ef = record {
      fault = ef ∙ ap (column_fault column m) g.fault ∙ sym parts_fault;
      got = λ h. read_got g h f;
      place = λ h. parted.place;
      ready = λ h. read_ready g h f;
    }

-- ── those from a place on ──
module _ (s : List ℕ) (names : List ℕ) (cells : List (List ℕ)) {g : Option ℕ} where
  mutations_on : {p : ℕ} → g ≡ Some p
      → mutations_at s names cells g ≡ record { fault = earlier (mutation_at s names cells p).fault (mutations_at s names cells (next_item s p)).fault; got = (mutation_at s names cells p).got ∷ (mutations_at s names cells (next_item s p)).got }
  unfolding mutations_at mutation_at
  mutations_on h = ap (read_mutations (names_at s names) (map column_from cells)) (walk_rest s h)

  pub fault_on : {p : ℕ} → g ≡ Some p → (mutations_at s names cells g).fault ≡ earlier (mutation_at s names cells p).fault (mutations_at s names cells (next_item s p)).fault
  fault_on h = ap (λ t. t.fault) (mutations_on h)

  pub got_on : {p : ℕ} → g ≡ Some p → (mutations_at s names cells g).got ≡ (mutation_at s names cells p).got ∷ (mutations_at s names cells (next_item s p)).got
  got_on h = ap (λ t. t.got) (mutations_on h)

  pub mutations_end : g ≡ None → mutations_at s names cells g ≡ record { fault = Fine; got = [] }
  unfolding mutations_at
  mutations_end h = ap (read_mutations (names_at s names) (map column_from cells)) (walk_end s h)

  -- a turn that keeps the earliest fault so far
  pub worst_on : (all w t : Fault) {p : ℕ} → all ≡ earlier w (mutations_at s names cells g).fault → g ≡ Some p → t ≡ (mutation_at s names cells p).fault → {v : Fault} → v ≡ earlier w t
      → all ≡ earlier v (mutations_at s names cells (next_item s p)).fault
  worst_on all w t {p} e h q {v} r =
      let rest = (mutations_at s names cells (next_item s p)).fault in
      e ∙ ap (earlier w) (fault_on h) ∙ ap (λ x. earlier w (earlier x rest)) (sym q) ∙ earlier_assoc w t rest ∙ ap (λ x. earlier x rest) (sym r)

  pub worst_end : (all w : Fault) → all ≡ earlier w (mutations_at s names cells g).fault → g ≡ None → all ≡ w
  worst_end all w e h = e ∙ ap (λ t. earlier w t.fault) (mutations_end h) ∙ earlier_last w
