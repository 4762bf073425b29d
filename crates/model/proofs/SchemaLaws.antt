-- A schema that is accepted is sane: its counts, limits and numbers are within bounds. Assumes nothing.
use Rattle.std.specs.Prelude.{Option, Some, None}
use Rattle.std.proofs.lemmas.Option.{none-some}
use mathlib.Core.Path.{◌≡◌, refl, sym, ◌∙◌, ap}
use mathlib.Core.Bool.{Bool, true, false, not, ◌&&◌, ◌||◌}
use mathlib.Core.List.{List, [], ◌∷◌, map}
use Prim.Native.Nat.{ℕ, zero, suc, ◌≤◌, ◌<◌}
use native.Mathlib.Omega.{arith}
use borrow.Author.Tests.{leb-true, lt-ltb, le-leb}
use lib.Dec.{ltb, leb}
use lib.ListN.{length, length-map}
use Rattle.model.specs.declared.Whole.{Whole}
use Rattle.model.specs.declared.Whole.TheVariants.{Plus, Minus, Other}
use Rattle.model.specs.Base.{all, member, distinct, place_of, nth, ascii}
use Rattle.model.specs.Octets.{eq_bytes}
use Rattle.model.specs.Limits.{most_elements, most_indexes, most_columns, most_tables, most_schema_bytes}
use Rattle.model.specs.Json.{Json, null, bool, num, str, arr, obj, Named, text_at}
use Rattle.model.specs.Nav.{is_read, items_in, text_in}
use Rattle.model.specs.Members.{members_in, has_member, named_or, value_or, member_value, counting}
use Rattle.model.specs.Whole.{whole_of}
use Rattle.model.specs.Text.{is_word}
use Rattle.model.specs.Schema.{Base, integer, boolean, text, uuid, plain, strong, weak, Column, Table, Schema, Database, columns_of}
use Rattle.model.specs.SchemaText.{may, is_one_of, is_string, base_number, same_base, is_within, size_or, names, place_or, is_id, is_max, low_of, high_of, max_rows_of, key_tests, key_members, key_base, key_fits, refers_of, min_of, max_of, type_tests, type_members, type_fits, column_tests, column_fits, column_of, table_columns, parts_tests, columns_fit, is_indexed, index_tests, index_fits, indexes_tests, indexes_fit, table_tests, table_fits, index_of, table_of, tables_fit, schema_tests, schema_fits, schema_tables, database_of, schema_of, read_schema}
use Rattle.model.specs.Sane.{refers_below, refers_as, limits_as, max_rows_sane, sane_column, index_sane, sane_index, column_sane, table_sane, sane_table, database_sane, sane}
use Rattle.model.proofs.Wholes.{low_fits, high_fits}
use Rattle.model.proofs.Tests.{split, clash, bytes_same, and_l, and_r, parts, whole}

-- ── lists ──
module _ {A B : Type 0} where
  pub all_map : (p : B → Bool) (q : A → Bool) (f : A → B) → ((a : A) → q a ≡ true → p (f a) ≡ true) → (l : List A) → all q l ≡ true → all p (map f l) ≡ true
  all_map p q f h [] e = refl
  all_map p q f h (a ∷ l) e = rw (h a (and_l (q a) (all q l) e), all_map p q f h l (and_r (q a) (all q l) e))

-- an element at a place passes what all pass
pub all_nth : {A : Type 0} (p : A → Bool) (l : List A) (k : ℕ) (a : A) → all p l ≡ true → nth l k ≡ Some a → p a ≡ true
all_nth p [] k a e h = cc
all_nth p (x ∷ l) zero a e h = let q : x ≡ a = cc in rw q at (and_l (p x) (all p l) e)
all_nth p (x ∷ l) (suc k) a e h = all_nth p l k a (and_r (p x) (all p l) e) h

-- a name that is there has a number below how many there are
pub place_below : (w : List ℕ) (ws : List (List ℕ)) → member w ws ≡ true → (k : ℕ) × (place_of w ws ≡ Some k) × (k < length ws)
place_below w [] h = absurd (clash false h refl)
place_below w (x ∷ ws) h =
    split
    (eq_bytes w x)
    (λ e. (0, rw (place_of, e), omega arith))
    (λ e. let r : (k : ℕ) × (place_of w ws ≡ Some k) × (k < length ws) = place_below w ws (rw e at h) in (suc r.0, rw (place_of, e, r.1), omega arith))

pub number_below : (w : List ℕ) (ws : List (List ℕ)) → member w ws ≡ true → ltb (place_or w ws) (length ws) ≡ true
number_below w ws h = let r : (k : ℕ) × (place_of w ws ≡ Some k) × (k < length ws) = place_below w ws h in rw (place_or, r.1, lt-ltb _ _ r.2)

-- the members that count have all the names, and no others
pub has_same : (v w : List ℕ) (ms : List Named) → eq_bytes v w ≡ true → has_member v ms ≡ has_member w ms
has_same v w ms h = let e : v ≡ w = bytes_same v w h in rw e

bytes_flip : (v w : List ℕ) → eq_bytes v w ≡ eq_bytes w v
bytes_flip v w =
    split
    (eq_bytes v w)
    (λ e. let q : v ≡ w = bytes_same v w e in rw q)
    (λ e. split (eq_bytes w v) (λ f. let q : w ≡ v = bytes_same w v f in rw q) (λ f. e ∙ sym f))

-- a member's name, or a later one
pub has_or : (w : List ℕ) (m : Named) (ms : List Named) → has_member w (m ∷ ms) ≡ (eq_bytes m.name w || has_member w ms)
unfolding has_member
has_or w m ms = split (eq_bytes m.name w) (λ e. rw (has_member, e)) (λ e. rw (has_member, e))

pub counting_has : (w : List ℕ) (ms : List Named) → member w (names (counting ms)) ≡ has_member w ms
unfolding counting has_member
counting_has w [] = refl
counting_has w (m ∷ ms) =
    rw
    (has_or w m ms)
    (split
    (has_member m.name ms)
    (λ h.
    rw (counting, h)
    (split
    (eq_bytes m.name w)
    (λ e. rw e (counting_has w ms ∙ sym (has_same m.name w ms e) ∙ h))
    (λ e. rw e (counting_has w ms))))
    (λ h. rw (counting, h, bytes_flip w m.name) (ap (λ (b : Bool). eq_bytes m.name w || b) (counting_has w ms))))

pub counting_all : (p : List ℕ → Bool) (ms : List Named) → all p (names ms) ≡ true → all p (names (counting ms)) ≡ true
unfolding counting
counting_all p [] h = refl
counting_all p (m ∷ ms) h =
    let r : all p (names (counting ms)) ≡ true = counting_all p ms (and_r (p m.name) _ h) in
    split (has_member m.name ms) (λ e. rw (counting, e) r) (λ e. rw (counting, e, and_l (p m.name) _ h) r)

-- "a repeated name at its last place": the names that count are different
pub counting_distinct : (ms : List Named) → distinct (names (counting ms)) ≡ true
unfolding counting
counting_distinct [] = refl
counting_distinct (m ∷ ms) =
    split (has_member m.name ms) (λ e. rw (counting, e) (counting_distinct ms)) (λ e. rw (counting, e, counting_has m.name ms) (rw e (counting_distinct ms)))

-- parts that have the names of members
named_parts : {A : Type 0} (f : Named → A) (name : A → List ℕ) → ((m : Named) → name (f m) ≡ m.name) → (ms : List Named) → map name (map f ms) ≡ names ms
named_parts f name e [] = refl
named_parts f name e (m ∷ ms) = λ j. e m j ∷ named_parts f name e ms j

-- ── tests of members ──
pub may_true : (h b : Bool) → (not h || b) ≡ true → h ≡ true → b ≡ true
may_true true b t e = t
may_true false b t e = cc

-- where there is no member of a name, its value is null
pub value_missing : (w : List ℕ) (d : Json) (ms : List Named) → has_member w ms ≡ false → value_or w d ms ≡ d
unfolding has_member value_or named_or
value_missing w d [] h = refl
value_missing w d (m ∷ ms) h =
    split
    (eq_bytes m.name w)
    (λ e. absurd (clash true refl (rw (has_member, e) at h)))
    (λ e. rw (named_or, e) (value_missing w d ms (rw (has_member, e) at h)))

-- an integer within bounds
pub within_size : (low high d : ℕ) (w : Whole) → is_within low high w ≡ true → (low ≤ size_or d w) × (size_or d w ≤ high)
unfolding is_within size_or
within_size low high d (Plus m) h = (leb-true low m (and_l (leb low m) (leb m high) h), leb-true m high (and_r (leb low m) (leb m high) h))
within_size low high d (Minus m) h = absurd (clash false h refl)
within_size low high d Other h = absurd (clash false h refl)

-- ── types and columns ──
min_sane : (ts : List Named) → may (ascii "min") (λ (j : Json). is_within 0 1 (whole_of j)) ts ≡ true → min_of ts ≤ 1
min_sane ts h =
    split
    (has_member (ascii "min") ts)
    (λ e. rw (min_of, e) (within_size 0 1 1 (whole_of (member_value (ascii "min") ts)) (may_true _ _ h e)).1)
    (λ e. rw (min_of, e) (omega arith))

-- a string has no size of its own
word_size : (w : List ℕ) (d : ℕ) (j : Json) → is_word w j ≡ true → size_or d (whole_of j) ≡ d
unfolding is_word whole_of size_or
word_size w d null h = absurd (clash false h refl)
word_size w d (bool b) h = absurd (clash false h refl)
word_size w d (num t) h = absurd (clash false h refl)
word_size w d (str t) h = refl
word_size w d (arr xs) h = absurd (clash false h refl)
word_size w d (obj ms) h = absurd (clash false h refl)

max_size : (j : Json) → is_max j ≡ true → (1 ≤ size_or most_elements (whole_of j)) × (size_or most_elements (whole_of j) ≤ most_elements)
unfolding is_max
max_size j h =
    split
    (is_within 1 most_elements (whole_of j))
    (λ e. within_size 1 most_elements most_elements (whole_of j) e)
    (λ e. rw (word_size (ascii "unlimited") most_elements j (rw e at h)) (omega arith, omega arith))

pub max_sane : (ts : List Named) → may (ascii "max") is_max ts ≡ true → (1 ≤ max_of ts) × (max_of ts ≤ most_elements)
max_sane ts h =
    split
    (has_member (ascii "max") ts)
    (λ e. rw (max_of, e) (max_size (member_value (ascii "max") ts) (may_true _ _ h e)))
    (λ e. rw (max_of, e) (omega arith, omega arith))

-- a key's reference goes to a table
refers_by : (b w : Bool) (t n : ℕ) → (b ≡ true → ltb t n ≡ true) → refers_below n (elim b [ true ↦ elim w [ true ↦ weak t | false ↦ strong t ] | false ↦ plain ]) ≡ true
refers_by true true t n h = h refl
refers_by true false t n h = h refl
refers_by false w t n h = refl

refers_sane : (tables : List (List ℕ)) (base : Base) (ks : List Named) → may (ascii "refTable") (λ (j : Json). same_base base uuid && is_one_of tables j) ks ≡ true → refers_below (length tables) (refers_of tables ks) ≡ true
unfolding refers_of
refers_sane tables base ks h =
    refers_by
    (has_member (ascii "refTable") ks)
    (is_word (ascii "weak") (member_value (ascii "refType") ks))
    (place_or (text_in (member_value (ascii "refTable") ks)) tables)
    (length tables)
    (λ e. number_below _ tables (and_r (is_string (member_value (ascii "refTable") ks)) _ (and_r (same_base base uuid) _ (may_true _ _ h e))))

-- and only a uuid has one
refers_as_by : (b w : Bool) (base : Base) (t : ℕ) → (b ≡ true → same_base base uuid ≡ true) → refers_as base (elim b [ true ↦ elim w [ true ↦ weak t | false ↦ strong t ] | false ↦ plain ]) ≡ true
refers_as_by true true base t h = h refl
refers_as_by true false base t h = h refl
refers_as_by false w base t h = refl

refers_as_lem : (tables : List (List ℕ)) (base : Base) (ks : List Named) → may (ascii "refTable") (λ (j : Json). same_base base uuid && is_one_of tables j) ks ≡ true → refers_as base (refers_of tables ks) ≡ true
unfolding refers_of
refers_as_lem tables base ks h =
    refers_as_by
    (has_member (ascii "refTable") ks)
    (is_word (ascii "weak") (member_value (ascii "refType") ks))
    base
    (place_or (text_in (member_value (ascii "refTable") ks)) tables)
    (λ e. and_l (same_base base uuid) _ (may_true _ _ h e))

-- the limits of a type that has none
limits_as_lem : (base : Base) (ks : List Named) → limits_as base (low_of base ks) (high_of base ks) ≡ true
unfolding low_of high_of base_number
limits_as_lem integer ks = refl
limits_as_lem boolean ks = refl
limits_as_lem text ks = refl
limits_as_lem uuid ks = refl

column_sane_lem : (tables : List (List ℕ)) (m : Named) → is_id m.name ≡ true → column_fits tables m.value ≡ true → sane_column (length tables) (column_of tables m) ≡ true
unfolding column_fits type_fits key_fits column_of sane_column
column_sane_lem tables m i h =
    let ms : List Named = members_in m.value in
    let ts : List Named = type_members (member_value (ascii "type") ms) in
    let ks : List Named = key_members (member_value (ascii "key") ts) in
    let c = parts (column_tests tables ms) h in
    let t = parts (type_tests tables ts) (and_r (has_member (ascii "type") ms) _ c.1.0) in
    let k = parts (key_tests tables (key_base ks) ks) (and_r (has_member (ascii "key") ts) _ t.1.0) in
    whole
    (column_sane (length tables) (column_of tables m)) (
      i,
      (
        le-leb (min_of ts) 1 (min_sane ts t.1.1.0),
        (
          le-leb 1 (max_of ts) (max_sane ts t.1.1.1.0).0,
          (
            le-leb (max_of ts) most_elements (max_sane ts t.1.1.1.0).1,
            (t.1.1.1.1.0, (k.1.1.1.1.1.1.0, (refers_sane tables (key_base ks) ks k.1.1.1.1.1.1.1.0, (refers_as_lem tables (key_base ks) ks k.1.1.1.1.1.1.1.0, (low_fits (key_base ks) ks, (high_fits (key_base ks) ks, (limits_as_lem (key_base ks) ks, tt))))))),
          ),
        ),
      ),
    )

-- ── indexes, tables and the schema ──
index_sane_lem : (columns : List Named) (j : Json) → index_fits columns j ≡ true → sane_index (length (counting columns)) (index_of (names (counting columns)) j) ≡ true
unfolding index_fits is_indexed sane_index
index_sane_lem columns j h =
    let xs : List Json = items_in j in
    let cs : List Named = counting columns in
    let n : length (names cs) ≡ length cs = length-map cs (λ (m : Named). m.name) in
    let l : length (index_of (names cs) j) ≡ length xs = length-map xs (λ (x : Json). place_or (text_in x) (names cs)) in
    let t = parts (index_tests columns j) h in
    whole
    (index_sane (length cs) (index_of (names cs) j)) (
      rw l t.1.0,
      (
        rw l t.1.1.0,
        (
          all_map
              (λ (k : ℕ). ltb k (length cs))
              (is_indexed columns)
              (λ (x : Json). place_or (text_in x) (names cs))
              (λ x e. rw n at (number_below (text_in x) (names cs) (counting_has (text_in x) columns ∙ and_l (has_member (text_in x) columns) _ (and_r (is_string x) _ e))))
              xs
              t.1.1.1.0,
          tt,
        ),
      ),
    )

-- the indexes of a table with these columns, none where it names none
indexes_sane : (columns ms : List Named) → may (ascii "indexes") (indexes_fit columns) ms ≡ true → (leb (length (items_in (member_value (ascii "indexes") ms))) most_indexes ≡ true) × (all (sane_index (length (counting columns))) (map (index_of (names (counting columns))) (items_in (member_value (ascii "indexes") ms))) ≡ true)
unfolding indexes_fit member_value items_in
indexes_sane columns ms h =
    split
    (has_member (ascii "indexes") ms)
    (λ e.
    let t = parts (indexes_tests columns (member_value (ascii "indexes") ms)) (may_true _ _ h e) in (
      t.1.0,
      all_map
          (sane_index (length (counting columns)))
          (index_fits columns)
          (index_of (names (counting columns)))
          (index_sane_lem columns)
          (items_in (member_value (ascii "indexes") ms))
          t.1.1.0,
    ))
    (λ e. rw (value_missing (ascii "indexes") null ms e) (refl, refl))

-- named parts that pass a test, each with its name
parts_sane : {A : Type 0} (p : A → Bool) (q : Json → Bool) (f : Named → A) → ((m : Named) → is_id m.name ≡ true → q m.value ≡ true → p (f m) ≡ true) → (cs : List Named) → all is_id (names cs) ≡ true → all (λ (m : Named). q m.value) cs ≡ true → all p (map f cs) ≡ true
parts_sane p q f h [] i e = refl
parts_sane p q f h (m ∷ cs) i e =
    rw (h m (and_l (is_id m.name) _ i) (and_l (q m.value) _ e)) (parts_sane p q f h cs (and_r (is_id m.name) _ i) (and_r (q m.value) _ e))

-- "maxRows (1 or more)"
max_rows_sane_lem : (ms : List Named) → may (ascii "maxRows") (λ (j : Json). is_within 1 9223372036854775807 (whole_of j)) ms ≡ true → max_rows_sane (max_rows_of ms) ≡ true
max_rows_sane_lem ms h =
    split
    (has_member (ascii "maxRows") ms)
    (λ e.
    let w = within_size 1 9223372036854775807 0 (whole_of (member_value (ascii "maxRows") ms)) (may_true _ _ h e) in
    rw (max_rows_of, e, le-leb _ _ w.0, le-leb _ _ w.1))
    (λ e. rw (max_rows_of, e))

column_name : (tables : List (List ℕ)) (m : Named) → (column_of tables m).name ≡ m.name
unfolding column_of
column_name tables m = refl

table_name : (tables : List (List ℕ)) (m : Named) → (table_of tables m).name ≡ m.name
unfolding table_of
table_name tables m = refl

table_sane_lem : (tables : List (List ℕ)) (m : Named) → is_id m.name ≡ true → table_fits tables m.value ≡ true → sane_table (length tables) (table_of tables m) ≡ true
unfolding table_fits columns_fit table_of sane_table
table_sane_lem tables m i h =
    let ms : List Named = members_in m.value in
    let columns : List Named = members_in (member_value (ascii "columns") ms) in
    let cs : List Named = table_columns ms in
    let is : List Json = items_in (member_value (ascii "indexes") ms) in
    let t = parts (table_tests tables ms) h in
    let c =
    parts
    (parts_tests most_columns (λ (ws : List (List ℕ)). column_fits tables) (member_value (ascii "columns") ms))
    (and_r (has_member (ascii "columns") ms) _ t.1.0) in
    let x = indexes_sane columns ms t.1.1.1.1.0 in
    whole
    (table_sane (length tables) (table_of tables m)) (
      i,
      (
        rw (length-map cs (column_of tables)) c.1.1.0,
        (
          parts_sane (sane_column (length tables)) (column_fits tables) (column_of tables) (column_sane_lem tables) cs (counting_all is_id columns c.1.0) c.1.1.1.0,
          (
            rw (length-map is (index_of (names cs))) x.0,
            (
              rw (length-map cs (column_of tables)) x.1,
              (
                rw (named_parts (column_of tables) (λ (c : Column). c.name) (column_name tables) cs) (counting_distinct columns),
                (max_rows_sane_lem ms t.1.1.0, tt),
              ),
            ),
          ),
        ),
      ),
    )

database_sane_lem : (j : Json) → schema_fits j ≡ true → sane (database_of j) ≡ true
unfolding schema_fits tables_fit database_of sane
database_sane_lem j h =
    let ms : List Named = members_in j in
    let tables : List Named = members_in (member_value (ascii "tables") ms) in
    let ts : List Named = schema_tables j in
    let s = parts (schema_tests ms) h in
    let t = parts (parts_tests most_tables table_fits (member_value (ascii "tables") ms)) (and_r (has_member (ascii "tables") ms) _ s.1.1.1.1.0) in
    let n : length (map (table_of (names ts)) ts) ≡ length ts = length-map ts (table_of (names ts)) in
    let k : length (names ts) ≡ length ts = length-map ts (λ (m : Named). m.name) in
    whole
    (database_sane (database_of j)) (
      and_r (is_string (member_value (ascii "name") ms)) _ (and_r (has_member (ascii "name") ms) _ s.1.0),
      (
        rw n t.1.1.0,
        (
          rw
              (n, ← k)
              (parts_sane (sane_table (length (names ts))) (table_fits (names ts)) (table_of (names ts)) (table_sane_lem (names ts)) ts (counting_all is_id tables t.1.0) t.1.1.1.0),
          (rw (named_parts (table_of (names ts)) (λ (t : Table). t.name) (table_name (names ts)) ts) (counting_distinct tables), tt),
        ),
      ),
    )

-- ── what is accepted is sane ──
when_true : {A : Type 0} (b : Bool) (o : Option A) (a : A) → elim b [ true ↦ o | false ↦ None ] ≡ Some a → (b ≡ true) × (o ≡ Some a)
when_true true o a h = (refl, h)
when_true false o a h = absurd (none-some a h)

pub schema_sane : (j : Json) (d : Database) → schema_of j ≡ Some d → sane d ≡ true
unfolding schema_of
schema_sane j d h =
    let r : (schema_fits j ≡ true) × (Some (database_of j) ≡ Some d) = when_true (schema_fits j) (Some (database_of j)) d h in
    let q : database_of j ≡ d = cc in
    rw q at (database_sane_lem j r.0)

pub read_sane : (s : List ℕ) (d : Database) → read_schema s ≡ Some d → sane d ≡ true
unfolding read_schema
read_sane s d h = schema_sane (text_at s).tree d (when_true (is_read (text_at s).read) _ d (when_true (leb (length s) most_schema_bytes) _ d h).1).1

-- and so is each of its columns; column c of table t
abbrev pub column_at : Schema → ℕ → ℕ → Option Column
column_at s t c = nth (columns_of s t) c

columns_sane : (n : ℕ) (s : Schema) (t : ℕ) → all (sane_table n) s ≡ true → all (sane_column n) (columns_of s t) ≡ true
unfolding sane_table
columns_sane n [] t h = refl
columns_sane n (x ∷ s) zero h = (parts (table_sane n x) (and_l (sane_table n x) (all (sane_table n) s) h)).1.1.0
columns_sane n (x ∷ s) (suc t) h = columns_sane n s t (and_r (sane_table n x) (all (sane_table n) s) h)

pub column_at_lem : (d : Database) (t k : ℕ) (c : Column) → sane d ≡ true → column_at d.tables t k ≡ Some c → sane_column (length d.tables) c ≡ true
unfolding sane
column_at_lem d t k c h e = all_nth (sane_column (length d.tables)) (columns_of d.tables t) k c (columns_sane (length d.tables) d.tables t (parts (database_sane d) h).1.1.0) e
