-- A table by its slots is the table that the schema's definitions read. Assumes nothing.
use Rattle.std.specs.Prelude.{Some, None}
use mathlib.Core.Path.{◌≡◌, refl, sym, ap, subst, ◌∙◌}
use mathlib.Core.List.{List, [], ◌∷◌, ◌++◌, map}
use mathlib.Core.Bool.{Bool, true, false, not, ◌&&◌, ◌||◌}
use Prim.Native.Nat.{ℕ, ◌^◌, ◌<◌, ◌≤◌}
use native.Mathlib.Omega.{arith}
use borrow.Author.Tests.{eq-eqb, ne_eqb, le-leb, lt-leb}
use lib.Dec.{eqb, leb}
use lib.ListN.{get_or, take, drop}
use Rattle.catalog.proofs.Lookups.{cells_names}
use Rattle.model.specs.declared.Whole.{Whole}
use Rattle.model.specs.Base.{all, ascii}
use Rattle.model.specs.Json.{Json, null, Named}
use Rattle.inner.specs.Positions.{tree_at, well_at}
use Rattle.model.specs.Nav.{kind_of, is_truth, items_in}
use Rattle.model.specs.Members.{members_in, has_member, member_value, counting}
use Rattle.model.specs.Whole.{whole_of}
use Rattle.model.specs.Schema.{Column}
use Rattle.model.specs.Catalog.{entry_name, column_from, index_from, indexes_from, max_rows_from}
use Rattle.model.specs.SchemaText.{only, must, may, is_bool, is_within, size_or, truth_or, names, is_id, columns_fit, column_of, index_of, indexes_fit, table_fits, table_of, table_columns, max_rows_of}
use Rattle.model.proofs.Tests.{split, clash, and_l, and_r}
use Rattle.model.proofs.SchemaLaws.{within_size}
use Rattle.members.specs.Fields.{slot_tree, Slots}
use Rattle.members.proofs.Kept.{slot_none}
use Rattle.members.proofs.Slotted.{at_some, must_null, may_slot}
use Rattle.column_types.proofs.Keys.{both}
use Rattle.columns.specs.Columns.{ColumnsRead}
use Rattle.indexes.specs.Indexes.{Stored}
use Rattle.indexes.proofs.Shorts.{columns_ids}
use Rattle.catalog.specs.Writing.{head_bytes}
use Rattle.tables.specs.Tables.{rest_allowed, IndexesIn, NameOnly, table_with, TableRead}
use Rattle.tables.proofs.Cells.{after_count, after_root, after_rows, after_name, before_index}

abbrev pub table_words : List (List ℕ)
table_words = ascii "columns" ∷ ascii "maxRows" ∷ ascii "isRoot" ∷ ascii "indexes" ∷ []

no_tree : (s : List ℕ) {p : ℕ} → p ≡ 0 → slot_tree s p ≡ null
no_tree s h = rw h (slot_none s)

columns_null : (tables : List (List ℕ)) → columns_fit tables null ≡ false
unfolding columns_fit kind_of
columns_null tables = refl

and_none : (b : Bool) → (b && false) ≡ false
and_none true = refl
and_none false = refl

or_false : (a b : Bool) → (a || b) ≡ true → a ≡ false → b ≡ true
or_false true b h e = cc
or_false false b h e = h

-- ── columns and indexes in slots ──
module _ (s : List ℕ) (tables : List (List ℕ)) {p : ℕ} where
  pub columns_none : (before : List (List ℕ)) → p ≡ 0 → ColumnsRead tables (slot_tree s p) 9 before before
  columns_none before h =
      record {
        fits = sym (ap (columns_fit tables) (no_tree s h) ∙ columns_null tables);
        count = λ e. absurd (clash false e refl);
        columns = λ e. absurd (clash false e refl);
        rest = refl;
      }

  pub columns_some : {n : ℕ} {before after : List (List ℕ)} → (p ≡ 0 → ⊥) → ColumnsRead tables (tree_at s p) n before after → ColumnsRead tables (slot_tree s p) n before after
  columns_some {n} {before} {after} h r = subst (λ (x : Json). ColumnsRead tables x n before after) (sym (at_some s h)) r

module _ (s : List ℕ) {p : ℕ} (ms : List Named) (ns : List (List ℕ)) (before : List ℕ) where
  pub indexes_none : p ≡ 0 → IndexesIn s p ms ns true before before
  unfolding items_in
  indexes_none h =
      record {
        fits = rw (eq-eqb p 0 h);
        front = refl;
        holds =
            λ e z.
            ap (λ (k : ℕ). take k (index_from before 37 ∷ index_from before 41 ∷ [])) z ∙ sym (ap (λ (x : Json). map (index_of ns) (items_in x)) (no_tree s h));
      }

  module _ (h : p ≡ 0 → ⊥) {ok : Bool} (q : ok ≡ indexes_fit ms (tree_at s p)) where
    allowed : ok ≡ (eqb p 0 || indexes_fit ms (slot_tree s p))
    allowed = q ∙ rw (ne_eqb p 0 h) (ap (indexes_fit ms) (sym (at_some s h)))

    pub indexes_bad : ok ≡ false → IndexesIn s p ms ns false before before
    indexes_bad e = record { fits = sym e ∙ allowed; front = refl; holds = λ f. absurd (clash false f refl) }

    pub indexes_put : ok ≡ true → {after : List ℕ} → Stored before after (map (index_of ns) (items_in (tree_at s p))) → IndexesIn s p ms ns true before after
    indexes_put e {after} k =
        record {
          fits = sym e ∙ allowed;
          front = k.front;
          holds = λ f z. k.holds ∙ ap (λ (x : Json). map (index_of ns) (items_in x)) (sym (at_some s h));
        }

-- the tests as the code makes them
pub rest_allowed_lem : (s f : List ℕ) (w : Whole) (a b : Bool) → a ≡ is_within 1 9223372036854775807 w → b ≡ is_truth (kind_of (slot_tree s (get_or f 2 0))) → (eqb (get_or f 9 0) 0 && ((eqb (get_or f 1 0) 0 || a) && (eqb (get_or f 2 0) 0 || b))) ≡ rest_allowed s f w
unfolding rest_allowed
rest_allowed_lem s f w a b ea eb =
    rw (ea, eb) (ap (λ (x : Bool). eqb (get_or f 9 0) 0 && ((eqb (get_or f 1 0) 0 || is_within 1 9223372036854775807 w) && x)) (sym (and_all (eqb (get_or f 2 0) 0 || is_truth (kind_of (slot_tree s (get_or f 2 0)))))))
  where
    and_all : (b : Bool) → (b && true) ≡ b
    and_all true = refl
    and_all false = refl

-- the same tests in another order
shuffle : (a b c d : Bool) → ((a && (b && (c && true))) && d) ≡ (a && (true && (b && (c && (d && true)))))
shuffle false b c d = refl
shuffle true false c d = refl
shuffle true true false d = refl
shuffle true true true false = refl
shuffle true true true true = refl

columns_names : (tables : List (List ℕ)) (ms : List Named) → map (λ (c : Column). c.name) (map (column_of tables) ms) ≡ names ms
unfolding column_of
columns_names tables [] = refl
columns_names tables (m ∷ ms) = ap (λ (r : List (List ℕ)). m.name ∷ r) (columns_names tables ms)

-- ── a table ──
module _ (s : List ℕ) (tables : List (List ℕ)) (j : Json) (f : List ℕ) (k : Slots s table_words (members_in j) f) {n : ℕ} {before after : List (List ℕ)} (cs : ColumnsRead tables (slot_tree s (get_or f 0 0)) n before after) where
  abbrev ms : List Named
  ms = members_in j

  abbrev slot : ℕ → ℕ
  slot i = get_or f i 0

  abbrev w : Whole
  w = whole_of (slot_tree s (slot 1))

  columns_allowed : must (ascii "columns") (columns_fit tables) ms ≡ leb n 6
  columns_allowed = must_null k 0 (omega arith) (columns_fit tables) (columns_null tables) ∙ sym cs.fits

  none_fits : 6 < n → table_fits tables j ≡ false
  unfolding table_fits
  none_fits h = both {a = only table_words ms} refl (both (columns_allowed ∙ lt-leb n 6 h) refl) ∙ and_none (only table_words ms)

  pub table_none : 6 < n → (w : List ℕ) (cell : List ℕ) → TableRead tables w j (record { fits = false; cell = cell }) before after
  table_none h w cell = record { fits = sym (none_fits h); table = λ e. absurd (clash false e refl); few = λ e. absurd (clash false e refl); rest = cs.rest }

  module _ (six : n ≤ 6) where
    columns_fit_lem : columns_fit tables (slot_tree s (slot 0)) ≡ true
    columns_fit_lem = sym cs.fits ∙ le-leb n 6 six

    there : slot 0 ≡ 0 → ⊥
    there h = clash _ columns_fit_lem (ap (columns_fit tables) (no_tree s h) ∙ columns_null tables)

    pub columns_well : well_at s (get_or f 0 0) ≡ true
    columns_well = k.well 0 (omega arith) (ne_eqb (slot 0) 0 there)

    tree_is : slot_tree s (slot 0) ≡ tree_at s (slot 0)
    tree_is = at_some s there

    pub columns_named : all is_id (names (members_in (tree_at s (get_or f 0 0)))) ≡ true
    columns_named = ap (λ (x : Json). all is_id (names (members_in x))) (sym tree_is) ∙ columns_ids tables (slot_tree s (slot 0)) columns_fit_lem

    names_are : map entry_name (take n after) ≡ names (table_columns ms)
    names_are =
        cells_names (take n after)
        ∙ ap (map (λ (c : Column). c.name)) (cs.columns (le-leb n 6 six))
        ∙ columns_names tables (counting (members_in (slot_tree s (slot 0))))
        ∙ ap (λ (x : Json). names (counting (members_in x))) (sym (k.value 0 (omega arith)))

    -- with what its cell says
    module _ (name : List ℕ) (only : NameOnly name) (root limited : Bool) (most : ℕ) (er : root ≡ truth_or false (slot_tree s (get_or f 2 0))) (el : limited ≡ not (eqb (get_or f 1 0) 0)) (em : most ≡ size_or 0 (whole_of (slot_tree s (get_or f 1 0))))
        {a b : Bool} {cell : List ℕ} (ea : a ≡ rest_allowed s f (whole_of (slot_tree s (get_or f 1 0))))
        (ix : IndexesIn s (get_or f 3 0) (members_in (tree_at s (get_or f 0 0))) (map entry_name (take n after)) b ((take 25 name ++ head_bytes n root limited most) ++ drop 36 name) cell) where
      indexes_allowed : may (ascii "indexes") (indexes_fit (members_in (member_value (ascii "columns") ms))) ms ≡ (eqb (slot 3) 0 || indexes_fit (members_in (tree_at s (slot 0))) (slot_tree s (slot 3)))
      indexes_allowed =
          may_slot k 3 (omega arith) (indexes_fit (members_in (member_value (ascii "columns") ms)))
          ∙ ap (λ (x : Json). eqb (slot 3) 0 || indexes_fit (members_in x) (slot_tree s (slot 3))) (k.value 0 (omega arith) ∙ tree_is)

      fits_is : (a && b) ≡ table_fits tables j
      unfolding table_fits rest_allowed
      fits_is =
          (λ i. ea i && ix.fits i)
          ∙ shuffle (eqb (slot 9) 0) (eqb (slot 1) 0 || is_within 1 9223372036854775807 w) (eqb (slot 2) 0 || is_truth (kind_of (slot_tree s (slot 2)))) (eqb (slot 3) 0 || indexes_fit (members_in (tree_at s (slot 0))) (slot_tree s (slot 3)))
          ∙ sym
          (both k.listed
          (both (columns_allowed ∙ le-leb n 6 six)
          (both (may_slot k 1 (omega arith) (λ (x : Json). is_within 1 9223372036854775807 (whole_of x)))
          (both (may_slot k 2 (omega arith) is_bool) (both indexes_allowed refl)))))

      -- maxRows is below 2 to the 63
      small : a ≡ true → limited ≡ true → most < 256 ^ 8
      unfolding rest_allowed
      small h l =
          let r : rest_allowed s f w ≡ true = sym ea ∙ h in
          let m : (eqb (slot 1) 0 || is_within 1 9223372036854775807 w) ≡ true = and_l _ _ (and_r (eqb (slot 9) 0) _ r) in
          let z : eqb (slot 1) 0 ≡ false = split (eqb (slot 1) 0) (λ e. absurd (clash limited l (el ∙ ap not e))) (λ e. e) in
          let g = (within_size 1 9223372036854775807 0 w (or_false (eqb (slot 1) 0) _ m z)).1 in
          rw em (omega (arith, g))

      columns_are : map column_from (take (get_or cell 25 0) after) ≡ map (column_of tables) (table_columns ms)
      columns_are =
          ap (λ (x : ℕ). map column_from (take x after)) (after_count name only n root limited most cell ix.front)
          ∙ cs.columns (le-leb n 6 six)
          ∙ ap (λ (x : Json). map (column_of tables) (counting (members_in x))) (sym (k.value 0 (omega arith)))

      rows_are : a ≡ true → max_rows_from cell ≡ max_rows_of ms
      rows_are h =
          after_rows name only n root limited most cell ix.front (small h)
          ∙ (let l : limited ≡ has_member (ascii "maxRows") ms = el ∙ sym (k.here 1 (omega arith)) in
          let m : most ≡ size_or 0 (whole_of (member_value (ascii "maxRows") ms)) = em ∙ ap (λ (x : Json). size_or 0 (whole_of x)) (sym (k.value 1 (omega arith))) in
          (λ i. elim (l i) [ true ↦ Some (m i) | false ↦ None ]))

      indexes_are : b ≡ true → indexes_from cell ≡ map (index_of (names (table_columns ms))) (items_in (member_value (ascii "indexes") ms))
      indexes_are h =
          ix.holds h (before_index name only n root limited most)
          ∙ (λ i. map (index_of (names_are i)) (items_in (sym (k.value 3 (omega arith)) i)))

      table_is : (a && b) ≡ true → table_with cell after ≡ table_of tables (record { name = entry_name name; value = j })
      unfolding table_with table_of
      table_is h =
          let ha : a ≡ true = and_l a b h in
          let hb : b ≡ true = and_r a b h in
          let q1 = after_name name only n root limited most cell ix.front in
          let q2 = columns_are in
          let q3 = after_root name only n root limited most cell ix.front ∙ er ∙ ap (truth_or false) (sym (k.value 2 (omega arith))) in
          let q4 = rows_are ha in
          let q5 = indexes_are hb in
          λ i. record { name = q1 i; columns = q2 i; root = q3 i; max_rows = q4 i; indexes = q5 i }

      pub table_read : TableRead tables (entry_name name) j (record { fits = a && b; cell = cell }) before after
      table_read =
          record {
            fits = fits_is;
            table = table_is;
            few = λ h. rw (after_count name only n root limited most cell ix.front) six;
            rest = cs.rest;
          }
