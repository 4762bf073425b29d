-- A schema's members by their slots. Assumes nothing.
use mathlib.Core.Path.{◌≡◌, refl, sym, ap, subst, ◌∙◌}
use mathlib.Core.List.{List, [], ◌∷◌, ◌++◌, map, append-nil}
use mathlib.Core.Bool.{Bool, true, false, ◌&&◌, ◌||◌}
use Prim.Native.Nat.{ℕ, zero, suc, ◌+◌, ◌*◌, ◌<◌, ◌≤◌}
use native.Mathlib.Omega.{arith}
use borrow.Author.Tests.{le-leb, lt-leb}
use lib.Dec.{eqb, leb}
use lib.ListN.{length, get_or, set, replicate}
use lib.Seq.{get_or-set_same, get_or-set_other, drop-set-lt, get_or_at}
use Rattle.model.specs.Base.{ascii}
use Rattle.model.specs.Json.{Json, null, bool, num, str, arr, obj, Named}
use Rattle.inner.specs.Positions.{tree_at}
use Rattle.model.specs.Nav.{kind_of, is_text, text_in}
use Rattle.model.specs.Members.{members_in, member_value, counting}
use Rattle.inner.specs.Positions.{word_in}
use Rattle.model.specs.Value.{text_of}
use Rattle.model.specs.Catalog.{entry_name, table_from, tables_from}
use Rattle.model.specs.SchemaText.{must, is_string, is_string_of, is_id, version_from, is_version, names, table_of, tables_fit, schema_fits, schema_tables, database_of}
use Rattle.model.proofs.Tests.{clash, and_l, and_r}
use Rattle.names.specs.Names.{name_cell}
use Rattle.names.proofs.Cells.{name_none}
use Rattle.members.specs.Fields.{slot_tree, Slots}
use Rattle.members.proofs.Kept.{slot_none}
use Rattle.members.proofs.Slotted.{at_some, must_null, may_slot}
use Rattle.column_types.proofs.Keys.{both}
use Rattle.columns.proofs.Gathering.{cell_id}
use Rattle.tables.specs.Tables.{table_with, FewColumns, TablesRead}
use Rattle.tables.proofs.Cells.{name_front}
use Rattle.tables.proofs.Each.{table_with_lem, tables_same}
use Rattle.tables.proofs.All.{short_cell_lem, cell_name}
use Rattle.schema.specs.Schema.{rest_allowed, Filled}

no_tree : (s : List ℕ) {p : ℕ} → p ≡ 0 → slot_tree s p ≡ null
no_tree s h = rw h (slot_none s)

-- ── strings that are versions and ids ──
version_string : (j : Json) → is_version (word_in j) ≡ is_string_of is_version j
unfolding word_in kind_of text_in is_version version_from
version_string null = refl
version_string (bool b) = refl
version_string (num t) = refl
version_string (str t) = refl
version_string (arr xs) = refl
version_string (obj ms) = refl

id_string : (j : Json) → is_id (word_in j) ≡ is_string_of is_id j
unfolding word_in kind_of text_in is_id
id_string null = refl
id_string (bool b) = refl
id_string (num t) = refl
id_string (str t) = refl
id_string (arr xs) = refl
id_string (obj ms) = refl

-- the text of a name that is an id
name_text_lem : (j : Json) → is_string_of is_id j ≡ true → text_of (name_cell j) ≡ text_in j
unfolding name_cell word_in kind_of text_in
name_text_lem null h = absurd (clash false h refl)
name_text_lem (bool b) h = absurd (clash false h refl)
name_text_lem (num t) h = absurd (clash false h refl)
name_text_lem (str t) h = cell_name t h
name_text_lem (arr xs) h = absurd (clash false h refl)
name_text_lem (obj ms) h = absurd (clash false h refl)

id_allowed : (j : Json) → is_id (text_of (name_cell j)) ≡ is_string_of is_id j
unfolding name_cell
id_allowed j = cell_id (word_in j) ∙ id_string j

no_text : (p : List ℕ → Bool) → is_string_of p null ≡ false
unfolding kind_of
no_text p = refl

tables_null : tables_fit null ≡ false
unfolding tables_fit kind_of
tables_null = refl

-- ── slots ──
module _ (s : List ℕ) {p : ℕ} where
  pub no_version : p ≡ 0 → false ≡ is_string_of is_version (slot_tree s p)
  no_version h = sym (ap (is_string_of is_version) (no_tree s h) ∙ no_text is_version)

  pub some_version : (p ≡ 0 → ⊥) → {r : Bool} {t : List ℕ} → r ≡ is_version t → t ≡ word_in (tree_at s p) → r ≡ is_string_of is_version (slot_tree s p)
  some_version h q e = q ∙ ap is_version e ∙ version_string (tree_at s p) ∙ ap (is_string_of is_version) (sym (at_some s h))

  pub no_name : p ≡ 0 → replicate 25 0 ≡ name_cell (slot_tree s p)
  unfolding kind_of
  no_name h = name_none (slot_tree s p) (ap (λ (x : Json). is_text (kind_of x)) (no_tree s h))

  pub some_name : (p ≡ 0 → ⊥) → {r : List ℕ} → r ≡ name_cell (tree_at s p) → r ≡ name_cell (slot_tree s p)
  some_name h q = q ∙ ap name_cell (sym (at_some s h))

  pub no_tables : (before : List (List ℕ)) → p ≡ 0 → TablesRead (slot_tree s p) 9 before before
  no_tables before h =
      record {
        fits = sym (ap tables_fit (no_tree s h) ∙ tables_null);
        tables = λ e. absurd (clash false e refl);
        first = refl;
        columns = λ f. f;
      }

  pub some_tables : (p ≡ 0 → ⊥) → {n : ℕ} {before after : List (List ℕ)} → TablesRead (tree_at s p) n before after → TablesRead (slot_tree s p) n before after
  some_tables h {n} {before} {after} r = subst (λ (x : Json). TablesRead x n before after) (sym (at_some s h)) r

-- the tests as the code makes them
pub rest_allowed_lem : (s f : List ℕ) (id v c : Bool) → v ≡ is_string_of is_version (slot_tree s (get_or f 1 0)) → c ≡ is_text (kind_of (slot_tree s (get_or f 3 0))) → (eqb (get_or f 9 0) 0 && (id && (v && (eqb (get_or f 3 0) 0 || c)))) ≡ rest_allowed s f id
unfolding rest_allowed
rest_allowed_lem s f id v c ev ec =
    rw (ev, ec)
    (ap
    (λ (x : Bool). eqb (get_or f 9 0) 0 && (id && (is_string_of is_version (slot_tree s (get_or f 1 0)) && x)))
    (sym (and_all (eqb (get_or f 3 0) 0 || is_text (kind_of (slot_tree s (get_or f 3 0)))))))
  where
    and_all : (b : Bool) → (b && true) ≡ b
    and_all true = refl
    and_all false = refl

-- the last test of five apart
apart : (a b c d e : Bool) → (a && (b && (c && (d && (e && true))))) ≡ ((a && (b && (c && (d && true)))) && e)
apart false b c d e = refl
apart true false c d e = refl
apart true true false d e = refl
apart true true true false e = refl
apart true true true true false = refl
apart true true true true true = refl

-- ── cells that are all 0 ──
abbrev pub blanks : List (List ℕ)
blanks = replicate 29 (replicate 48 0)

pub blank_tables : get_or (get_or blanks 0 []) 25 0 ≤ 4
blank_tables = omega arith

pub blank_columns : FewColumns blanks
unfolding FewColumns
blank_columns zero h = omega arith
blank_columns (suc zero) h = omega arith
blank_columns (suc (suc zero)) h = omega arith
blank_columns (suc (suc (suc zero))) h = omega arith
blank_columns (suc (suc (suc (suc t)))) h = absurd (omega arith)

-- ── a schema ──
abbrev pub schema_words : List (List ℕ)
schema_words = ascii "name" ∷ ascii "version" ∷ ascii "tables" ∷ ascii "cksum" ∷ []

module _ (s : List ℕ) (j : Json) (f : List ℕ) (k : Slots s schema_words (members_in j) f) {id : Bool} (ei : id ≡ is_id (text_of (name_cell (slot_tree s (get_or f 0 0))))) where
  abbrev ms : List Named
  ms = members_in j

  abbrev slot : ℕ → ℕ
  slot i = get_or f i 0

  fit_is : schema_fits j ≡ (rest_allowed s f id && must (ascii "tables") tables_fit ms)
  unfolding schema_fits rest_allowed
  fit_is =
      both k.listed
      (both (must_null k 0 (omega arith) (is_string_of is_id) (no_text is_id) ∙ sym (ei ∙ id_allowed (slot_tree s (slot 0))))
      (both (must_null k 1 (omega arith) (is_string_of is_version) (no_text is_version)) (both (may_slot k 3 (omega arith) is_string) refl)))
      ∙ apart (eqb (slot 9) 0) id (is_string_of is_version (slot_tree s (slot 1))) (eqb (slot 3) 0 || is_string (slot_tree s (slot 3))) (must (ascii "tables") tables_fit ms)

  pub fill_rest : rest_allowed s f id ≡ false → Filled j false blanks
  fill_rest h =
      record {
        fits = sym (fit_is ∙ rw h);
        database = λ e. absurd (clash false e refl);
        tables = blank_tables;
        columns = blank_columns;
      }

  module _ (rest : rest_allowed s f id ≡ true) {n : ℕ} {mid : List (List ℕ)} (tr : TablesRead (slot_tree s (get_or f 2 0)) n blanks mid) where
    fit_tables : schema_fits j ≡ leb n 4
    fit_tables = fit_is ∙ rw rest (must_null k 2 (omega arith) tables_fit tables_null ∙ sym tr.fits)

    pub fill_many : 4 < n → Filled j false mid
    fill_many h =
        record {
          fits = sym (fit_tables ∙ lt-leb n 4 h);
          database = λ e. absurd (clash false e refl);
          tables = rw tr.first blank_tables;
          columns = tr.columns blank_columns;
        }

    -- with the database's cell
    module _ (four : n ≤ 4) (size : length mid ≡ 29) {name cell : List ℕ} (long : length name ≡ 25) (en : name ≡ name_cell (slot_tree s (get_or f 0 0))) (ec : cell ≡ name ++ (n ∷ replicate 22 0)) where
      abbrev cells : List (List ℕ)
      cells = set mid 0 cell

      cell_first : get_or cells 0 [] ≡ name ++ (n ∷ replicate 22 0)
      cell_first = get_or-set_same mid 0 cell [] (omega arith) ∙ ec

      count_is : get_or (get_or cells 0 []) 25 0 ≡ n
      count_is = ap (λ (l : List ℕ). get_or l 25 0) cell_first ∙ get_or_at name n (replicate 22 0) 0 25 long

      id_is : is_string_of is_id (slot_tree s (slot 0)) ≡ true
      unfolding rest_allowed
      id_is = sym (ei ∙ id_allowed (slot_tree s (slot 0))) ∙ and_l id _ (and_r (eqb (slot 9) 0) _ rest)

      name_short : get_or name 0 0 ≤ 24
      unfolding name_cell
      name_short = rw en (short_cell_lem (word_in (slot_tree s (slot 0)))).1

      name_is : entry_name (get_or cells 0 []) ≡ text_in (member_value (ascii "name") ms)
      name_is =
          ap entry_name cell_first
          ∙ name_front name (n ∷ replicate 22 0) [] long name_short
          ∙ ap entry_name (append-nil name)
          ∙ ap text_of en
          ∙ name_text_lem (slot_tree s (slot 0)) id_is
          ∙ ap text_in (sym (k.value 0 (omega arith)))

      table_same : (t : ℕ) → 0 ≤ t → t < 0 + n → table_from cells t ≡ table_from mid t
      table_same t h l =
          table_with_lem cells t
          ∙ (λ i. table_with (get_or-set_other mid 0 (1 + t) cell [] (λ q. omega arith) i) (drop-set-lt (5 + 6 * t) mid 0 cell (omega arith) i))
          ∙ sym (table_with_lem mid t)

      tables_are : tables_from cells 0 (get_or (get_or cells 0 []) 25 0) ≡ map (table_of (names (schema_tables j))) (schema_tables j)
      tables_are =
          ap (tables_from cells 0) count_is
          ∙ tables_same cells mid 0 n table_same
          ∙ tr.tables (le-leb n 4 four)
          ∙ ap (λ (x : Json). map (table_of (names (counting (members_in x)))) (counting (members_in x))) (sym (k.value 2 (omega arith)))

      columns_are : FewColumns cells
      unfolding FewColumns
      columns_are t l = rw (get_or-set_other mid 0 (1 + t) cell [] (λ q. omega arith)) (tr.columns blank_columns t l)

      pub fill_good : Filled j true (set mid 0 cell)
      unfolding database_of
      fill_good =
          record {
            fits = sym (fit_tables ∙ le-leb n 4 four);
            database = λ e. (λ i. record { name = name_is i; tables = tables_are i });
            tables = rw count_is four;
            columns = columns_are;
          }
