-- What a slot stands for: arrays, objects and names. Assumes nothing.
use Rattle.std.specs.Prelude.{Option, Some, None}
use mathlib.Core.Path.{◌≡◌, refl, sym, ap, subst, ◌∙◌}
use mathlib.Core.Bool.{Bool, true, false, not}
use mathlib.Core.List.{List, [], map}
use Prim.Native.Nat.{ℕ, ◌<◌, ◌≤◌}
use borrow.Author.Tests.{eq-eqb, ne_eqb, lt-ltb, le-ltb, leb-false}
use lib.Dec.{eqb, leb}
use lib.ListN.{length, get_or}
use Rattle.model.specs.declared.Fault.{Fault}
use Rattle.model.specs.declared.Fault.TheVariants.{Fine, Syntax, Duplicate}
use Rattle.model.specs.Base.{member, ascii}
use Rattle.model.specs.Json.{Json, null, bool, num, str, arr, obj, Named}
use Rattle.inner.specs.Positions.{tree_at, well_at, first_of, items_from, items_fine}
use Rattle.model.specs.Nav.{kind_of, is_array, is_object, is_text, items_in}
use Rattle.model.specs.Members.{members_in, member_value}
use Rattle.inner.specs.Positions as Text
use Rattle.inner.specs.Working.{working}
use Rattle.model.specs.Schema.{Column}
use Rattle.model.specs.Value.{Value, text_of}
use Rattle.model.specs.Faults.{is_fine, check, Judged}
use Rattle.model.specs.SchemaText.{is_id}
use Rattle.model.specs.Written.{string_in, array_in, object_in, member_named}
use Rattle.model.specs.Conditions.{Test, read_tests, matches}
use Rattle.model.specs.Mutations.{Mutation, read_mutations}
use Rattle.model.specs.Operations.{row_of, read_row, read_where, read_mutation_list, mutate_rows, name_fault}
use Rattle.model.specs.Catalog.{column_from}
use Rattle.model.proofs.Tests.{split, clash}
use Rattle.model.proofs.Atoms.{text_of_text_atom}
use Rattle.nav.proofs.FirstByte.{items_in_lem}
use Rattle.names.specs.Names.{name_cell, short_cell}
use Rattle.catalog.proofs.Ids.{id_none, id_long}
use Rattle.members.specs.Fields.{slot_tree, Slots}
use Rattle.members.proofs.Kept.{slot_some}
use Rattle.uuids.specs.Named.{names_at, place_in}
use Rattle.uuids.proofs.Decoded.{no_string}
use Rattle.uuids.proofs.Names.{some_string}
use Rattle.conditions.specs.Tests.{tests_at, TestsNarrowed}
use Rattle.mutations.specs.Mutating.{mutations_at}
use Rattle.mutations.specs.Rows.{MarkedMutated}
use Rattle.request_rows.specs.Assigned.{slotted, absent_by, named_by, written_row, RowRead}
use Rattle.operations.specs.Clauses.{SlotFine, array_slot, object_slot, where_at, mutations_in, row_at, found_before, Earlier, taken_fault}

-- ── the member of a word ──
slotted_some : (s : List ℕ) (p : ℕ) → eqb p 0 ≡ false → slotted s p ≡ Some (tree_at s p)
unfolding slotted
slotted_some s p h = rw (slotted, h)

slotted_none : (s : List ℕ) (p : ℕ) → eqb p 0 ≡ true → slotted s p ≡ None
unfolding slotted
slotted_none s p h = rw (slotted, h)

module _ {s : List ℕ} {ws : List (List ℕ)} {ms : List Named} {slots : List ℕ} (k : Slots s ws ms slots) (i : ℕ) (h : i < length ws) where
  abbrev w : List ℕ
  w = get_or ws i []

  abbrev p : ℕ
  p = get_or slots i 0

  abbrev found : Bool → Option Json
  found b = elim b [ true ↦ Some (member_value w ms) | false ↦ None ]

  -- what the slot of a word stands for is the member of that name
  pub slot_find : member_named w ms ≡ slotted s p
  slot_find =
      split
      (eqb p 0)
      (λ e. ap found (k.here i h ∙ ap not e) ∙ sym (slotted_none s p e))
      (λ e. ap found (k.here i h ∙ ap not e) ∙ ap Some (k.value i h ∙ slot_some s p e) ∙ sym (slotted_some s p e))

  pub slot_fine_lem : SlotFine s p
  unfolding SlotFine
  slot_fine_lem = k.well i h

-- ── arrays and objects ──
abbrev array_or : Option Json → Option (List Json)
array_or o = elim o [ None ↦ None | Some j ↦ array_in j ]

array_by : (j : Json) → array_in j ≡ elim (is_array (kind_of j)) [ true ↦ Some (items_in j) | false ↦ None ]
unfolding kind_of items_in
array_by null = refl
array_by (bool b) = refl
array_by (num t) = refl
array_by (str t) = refl
array_by (arr xs) = refl
array_by (obj ms) = refl

abbrev object_or : Option Json → Option (List Named)
object_or o = elim o [ None ↦ None | Some j ↦ object_in j ]

object_by : (j : Json) → object_in j ≡ elim (is_object (kind_of j)) [ true ↦ Some (members_in j) | false ↦ None ]
unfolding kind_of members_in
object_by null = refl
object_by (bool b) = refl
object_by (num t) = refl
object_by (str t) = refl
object_by (arr xs) = refl
object_by (obj ms) = refl

module _ (s : List ℕ) (p : ℕ) where
  -- a slot for nothing is null
  here : (is : Json → Bool) → is null ≡ false → is (slot_tree s p) ≡ true → eqb p 0 ≡ false
  unfolding slot_tree
  here is n a = split (eqb p 0) (λ e. let q : slot_tree s p ≡ null = rw (slot_tree, e) in absurd (clash (is (slot_tree s p)) a (ap is q ∙ n))) (λ e. e)

  slot_array : array_or (slotted s p) ≡ elim (is_array (kind_of (slot_tree s p))) [ true ↦ Some (items_in (tree_at s p)) | false ↦ None ]
  unfolding slotted slot_tree kind_of
  slot_array = split (eqb p 0) (λ e. rw (slotted, slot_tree, e) refl) (λ e. rw (slotted, slot_tree, e) (array_by (tree_at s p)))

  array_slot_lem : {b : Bool} → is_array (kind_of (slot_tree s p)) ≡ b → array_slot s p ≡ elim b [ true ↦ Some (items_in (tree_at s p)) | false ↦ None ]
  array_slot_lem h = slot_array ∙ ap (λ (b : Bool). elim b [ true ↦ Some (items_in (tree_at s p)) | false ↦ None ]) h

  slot_object : object_or (slotted s p) ≡ elim (is_object (kind_of (slot_tree s p))) [ true ↦ Some (members_in (tree_at s p)) | false ↦ None ]
  unfolding slotted slot_tree kind_of
  slot_object = split (eqb p 0) (λ e. rw (slotted, slot_tree, e) refl) (λ e. rw (slotted, slot_tree, e) (object_by (tree_at s p)))

  object_slot_lem : {b : Bool} → is_object (kind_of (slot_tree s p)) ≡ b → object_slot s p ≡ elim b [ true ↦ Some (members_in (tree_at s p)) | false ↦ None ]
  object_slot_lem h = slot_object ∙ ap (λ (b : Bool). elim b [ true ↦ Some (members_in (tree_at s p)) | false ↦ None ]) h

  -- of an array, the items from its first place on
  module _ (fine : SlotFine s p) (a : is_array (kind_of (slot_tree s p)) ≡ true) where
    array_well : well_at s p ≡ true
    unfolding SlotFine kind_of
    array_well = fine (here (λ j. is_array (kind_of j)) refl a)

    pub array_fine : items_fine s (first_of s 91 93 p) ≡ true
    array_fine = (items_in_lem s p array_well).1

    pub array_here : array_slot s p ≡ Some (items_from s (first_of s 91 93 p))
    array_here = array_slot_lem a ∙ ap Some (items_in_lem s p array_well).0

  pub array_gone : is_array (kind_of (slot_tree s p)) ≡ false → array_slot s p ≡ None
  array_gone a = array_slot_lem a

  module _ (fine : SlotFine s p) (a : is_object (kind_of (slot_tree s p)) ≡ true) where
    pub object_well : well_at s p ≡ true
    unfolding SlotFine kind_of
    object_well = fine (here (λ j. is_object (kind_of j)) refl a)

-- ── "where", "mutations", "row" ──
module _ (s : List ℕ) (names : List ℕ) (columns : List (List ℕ)) (p : ℕ) where
  abbrev tests_or : Option (List Json) → Judged (List Test)
  tests_or o = elim o [ None ↦ record { fault = Syntax; got = [] } | Some l ↦ read_tests (names_at s names) (map column_from columns) l ]

  abbrev mutations_or : Option (List Json) → Judged (List Mutation)
  mutations_or o = elim o [ None ↦ record { fault = Syntax; got = [] } | Some l ↦ read_mutations (names_at s names) (map column_from columns) l ]

  abbrev row_or : Bool → Option (List Named) → Judged (List (Option Value))
  row_or insert o = elim o [ None ↦ record { fault = Syntax; got = [] } | Some ms ↦ row_of (names_at s names) (absent_by insert) (named_by insert) (map column_from columns) ms ]

  module _ (fine : SlotFine s p) (a : is_array (kind_of (slot_tree s p)) ≡ true) where
    pub where_is : where_at s names columns p ≡ tests_at s names columns (first_of s 91 93 p)
    unfolding where_at tests_at
    where_is = ap tests_or (array_here s p fine a)

    pub mutations_are : mutations_in s names columns p ≡ mutations_at s names columns (first_of s 91 93 p)
    unfolding mutations_in mutations_at
    mutations_are = ap mutations_or (array_here s p fine a)

  pub where_not : is_array (kind_of (slot_tree s p)) ≡ false → (where_at s names columns p).fault ≡ Syntax
  unfolding where_at
  where_not a = ap (λ (o : Option (List Json)). (tests_or o).fault) (array_gone s p a)

  pub mutations_not : is_array (kind_of (slot_tree s p)) ≡ false → (mutations_in s names columns p).fault ≡ Syntax
  unfolding mutations_in
  mutations_not a = ap (λ (o : Option (List Json)). (mutations_or o).fault) (array_gone s p a)

  pub row_is : (insert : Bool) → SlotFine s p → is_object (kind_of (slot_tree s p)) ≡ true → row_at insert s names columns p ≡ written_row insert s names columns p
  unfolding row_at written_row
  row_is insert fine a = ap (row_or insert) (object_slot_lem s p a)

  pub row_not : (insert : Bool) → is_object (kind_of (slot_tree s p)) ≡ false → (row_at insert s names columns p).fault ≡ Syntax
  unfolding row_at
  row_not insert a = ap (λ (o : Option (List Named)). (row_or insert o).fault) (object_slot_lem s p a)

  -- where they are fine they are there
  module _ (fine : SlotFine s p) where
    pub row_fine : (insert : Bool) → is_fine (row_at insert s names columns p).fault ≡ true
        → (well_at s p ≡ true) × (row_at insert s names columns p ≡ written_row insert s names columns p)
    row_fine insert g =
        split
        (is_object (kind_of (slot_tree s p)))
        (λ a. (object_well s p fine a, row_is insert fine a))
        (λ a. absurd (clash (is_fine (row_at insert s names columns p).fault) g (ap is_fine (row_not insert a))))

-- what conditions and a row come to, said of what they are
pub where_as : {cs : List Column} {t u : Judged (List Test)} {r : Fault} {rows : List (List (List ℕ))} {before after : List Bool} → t ≡ u → TestsNarrowed cs t r rows before after → TestsNarrowed cs u r rows before after
where_as {cs} {r = r} {rows = rows} {before = before} {after = after} e k = subst (λ (t : Judged (List Test)). TestsNarrowed cs t r rows before after) e k

pub where_missing : {cs : List Column} {u : Judged (List Test)} {rows : List (List (List ℕ))} {before after : List Bool} → u.fault ≡ Syntax → TestsNarrowed cs u Syntax rows before after
where_missing {u = u} e = record { fault = sym e; marks = λ h. absurd (clash (is_fine u.fault) h (ap is_fine e)) }

pub row_as : {w u : Judged (List (Option Value))} {r : Fault} {entry exit : List (List ℕ)} {given : List Bool} → w ≡ u → RowRead w r entry exit given → RowRead u r entry exit given
row_as {r = r} {entry = entry} {exit = exit} {given = given} e k = subst (λ (w : Judged (List (Option Value))). RowRead w r entry exit given) e k

pub row_missing : {u : Judged (List (Option Value))} {entry exit : List (List ℕ)} {given : List Bool} → u.fault ≡ Syntax → RowRead u Syntax entry exit given
row_missing {u = u} e = record { fault = sym e; assigned = λ h. absurd (clash (is_fine u.fault) h (ap is_fine e)); template = λ h. absurd (clash (is_fine u.fault) h (ap is_fine e)) }

pub mutated_as : {cs : List Column} {m u : Judged (List Mutation)} {n : ℕ} {marks : List Bool} {r : Fault} {entry exit : List (List (List ℕ))} → m ≡ u → MarkedMutated cs m n marks r entry exit → MarkedMutated cs u n marks r entry exit
mutated_as {cs} {n = n} {marks = marks} {r = r} {entry = entry} {exit = exit} e k = subst (λ (m : Judged (List Mutation)). MarkedMutated cs m n marks r entry exit) e k

pub mutated_missing : {cs : List Column} {u : Judged (List Mutation)} {n : ℕ} {marks : List Bool} {rows : List (List (List ℕ))} → u.fault ≡ Syntax → MarkedMutated cs u n marks Syntax rows rows
mutated_missing {u = u} {n = n} {rows = rows} e = record {
  behind = refl;
  each = λ tests table k. record {
    fault = λ s h. sym (ap (λ (f : Fault). elim (is_fine f) [ true ↦ (mutate_rows (matches table tests) u.got (working s n rows)).fault | false ↦ f ]) e);
    rows = λ s h y. absurd (clash false y refl);
    tidy = λ s h t. t;
  };
}

-- ── the model's readings of members, by slots ──
module _ (s : List ℕ) (names : List ℕ) (columns : List (List ℕ)) (ms : List Named) (p : ℕ) where
  pub where_by : member_named (ascii "where") ms ≡ slotted s p → read_where (names_at s names) (map column_from columns) ms ≡ where_at s names columns p
  unfolding where_at
  where_by e = ap (λ (o : Option Json). tests_or s names columns p (elim o [ None ↦ None | Some j ↦ array_in j ])) e

  pub mutations_by : member_named (ascii "mutations") ms ≡ slotted s p → read_mutation_list (names_at s names) (map column_from columns) ms ≡ mutations_in s names columns p
  unfolding mutations_in
  mutations_by e = ap (λ (o : Option Json). mutations_or s names columns p (elim o [ None ↦ None | Some j ↦ array_in j ])) e

  pub row_by : (insert : Bool) → member_named (ascii "row") ms ≡ slotted s p → read_row (names_at s names) (absent_by insert) (named_by insert) (map column_from columns) ms ≡ row_at insert s names columns p
  unfolding row_at
  row_by insert e = ap (λ (o : Option Json). row_or s names columns p insert (elim o [ None ↦ None | Some j ↦ object_in j ])) e

-- ── uuid-names ──
-- a name by its cell
cell_id : (t : List ℕ) → is_id (text_of (short_cell t)) ≡ is_id t
unfolding short_cell
cell_id t =
    split
    (leb (length t) 24)
    (λ e. rw (short_cell, e) (ap is_id (text_of_text_atom t)))
    (λ e. rw (short_cell, e) (id_none [] refl ∙ sym (id_long t (leb-false (length t) 24 e))))

module _ (s names : List ℕ) (i : ℕ) where
  module _ (w : List ℕ) {f : Option ℕ} (e : f ≡ place_in s names w) where
    taken_by : {b : Bool} → found_before i f ≡ b → taken_fault s names i w ≡ check (not b) Duplicate Fine
    unfolding taken_fault
    taken_by q = ap (λ (b : Bool). check (not b) Duplicate Fine) (ap (found_before i) (sym e) ∙ q)

    pub taken_before : {k : ℕ} → f ≡ Some k → k < i → Duplicate ≡ taken_fault s names i w
    unfolding found_before
    taken_before {k} g h = sym (taken_by (ap (found_before i) g ∙ lt-ltb k i h))

    pub taken_later : {k : ℕ} → f ≡ Some k → i ≤ k → Fine ≡ taken_fault s names i w
    unfolding found_before
    taken_later {k} g h = sym (taken_by (ap (found_before i) g ∙ le-ltb k i h))

    pub taken_never : f ≡ None → Fine ≡ taken_fault s names i w
    unfolding found_before
    taken_never g = sym (taken_by (ap (found_before i) g))

  module _ (given : List (List ℕ)) (before : Earlier s names i given) where
    taken_is : (w : List ℕ) → taken_fault s names i w ≡ check (not (member w given)) Duplicate Fine
    unfolding taken_fault Earlier
    taken_is w = ap (λ (b : Bool). check (not b) Duplicate Fine) (sym (before w))

    module _ (p : ℕ) where
      pub name_none : p ≡ 0 → Fine ≡ name_fault given (slotted s p)
      name_none h = sym (ap (name_fault given) (slotted_none s p (eq-eqb p 0 h)))

      module _ (h : p ≡ 0 → ⊥) where
        abbrev j : Json
        j = tree_at s p

        name_by : {o : Option (List ℕ)} → string_in j ≡ o
            → name_fault given (slotted s p) ≡ elim o [ None ↦ Syntax | Some w ↦ check (is_id w) Syntax (check (not (member w given)) Duplicate Fine) ]
        name_by q =
            ap (name_fault given) (slotted_some s p (ne_eqb p 0 h))
            ∙ ap (λ (o : Option (List ℕ)). elim o [ None ↦ Syntax | Some w ↦ check (is_id w) Syntax (check (not (member w given)) Duplicate Fine) ]) q

        pub name_other : is_text (kind_of j) ≡ false → Syntax ≡ name_fault given (slotted s p)
        name_other t = sym (name_by (no_string j t))

        module _ (t : is_text (kind_of j) ≡ true) {w : List ℕ} (q : w ≡ text_of (name_cell j)) where
          abbrev v : List ℕ
          v = Text.word_in j

          same_id : is_id w ≡ is_id v
          unfolding name_cell
          same_id = ap is_id q ∙ cell_id v

          pub name_bad : is_id w ≡ false → Syntax ≡ name_fault given (slotted s p)
          name_bad n = sym (name_by (some_string j t) ∙ ap (λ (b : Bool). check b Syntax (check (not (member v given)) Duplicate Fine)) (sym same_id ∙ n))

          pub name_good : is_id w ≡ true → {r : Fault} → r ≡ taken_fault s names i v → r ≡ name_fault given (slotted s p)
          name_good n {r} g =
              g
              ∙ taken_is v
              ∙ sym (name_by (some_string j t) ∙ ap (λ (b : Bool). check b Syntax (check (not (member v given)) Duplicate Fine)) (sym same_id ∙ n))
