-- Which texts are schemas, and what they say (document 01, "A schema needs name, version .. and tables"). Each level is a list of tests over the members of an
-- object; what passes them all is read by total functions. A value that is no object has no members, so that a required one is missing. Assumes nothing: these are definitions.
use Rattle.std.specs.Prelude.{ℕ, suc, ◌-◌, Bool, true, false, not, ◌&&◌, ◌||◌, List, [], ◌∷◌, map, eqb, leb, ℤ, pos, negsuc, length, Option, Some, None}
use Rattle.std.specs.Int.Signed.{le_z}
use Rattle.model.specs.declared.Whole.{Whole}
use Rattle.model.specs.declared.Whole.TheVariants.{Plus, Minus, Other}
use Rattle.model.specs.Base.{all, every, member, place_of, ascii}
use Rattle.model.specs.Limits.{most_schema_bytes, most_tables, most_columns, most_elements, most_text_bytes, most_indexes, most_index_columns}
use Rattle.model.specs.Scan.{is_digit}
use Rattle.model.specs.Json.{Json, null, bool, num, str, arr, obj, Named, text_at}
use Rattle.model.specs.Nav.{kind_of, is_text, is_array, is_object, is_truth, is_read, items_in, text_in}
use Rattle.model.specs.Members.{members_in, has_member, member_value, counting}
use Rattle.model.specs.Whole.{whole_of, is_whole, whole_int}
use Rattle.model.specs.Text.{is_word}
use Rattle.model.specs.Schema.{Base, integer, boolean, text, uuid, Refers, plain, strong, weak, Column, Table, Database}

-- ── members and values ──
-- what a value that is true or false says, d where it is neither
unfoldable pub truth_or : Bool → Json → Bool
truth_or d null = d
truth_or d (bool b) = b
truth_or d (num t) = d
truth_or d (str t) = d
truth_or d (arr xs) = d
truth_or d (obj ms) = d

-- "an unlisted .. member refuses the schema"
unfoldable pub only : List (List ℕ) → List Named → Bool
only ws ms = all (λ (m : Named). member m.name ws) ms

-- a member that has to be there, and one that may be; "mistyped" is what fails its test
abbrev pub must : List ℕ → (Json → Bool) → List Named → Bool
must w p ms = has_member w ms && p (member_value w ms)

abbrev pub may : List ℕ → (Json → Bool) → List Named → Bool
may w p ms = not (has_member w ms) || p (member_value w ms)

abbrev pub is_bool : Json → Bool
is_bool j = is_truth (kind_of j)

abbrev pub is_string : Json → Bool
is_string j = is_text (kind_of j)

-- a string whose bytes pass a test; one of some words
abbrev pub is_string_of : (List ℕ → Bool) → Json → Bool
is_string_of p j = is_string j && p (text_in j)

abbrev pub is_one_of : List (List ℕ) → Json → Bool
is_one_of ws = is_string_of (λ (t : List ℕ). member t ws)

abbrev pub is_integer : Json → Bool
is_integer j = is_whole (whole_of j)

-- an integer from one number to another
unfoldable pub is_within : ℕ → ℕ → Whole → Bool
is_within low high (Plus m) = leb low m && leb m high
is_within low high (Minus m) = false
is_within low high Other = false

-- its size, d where it is none
unfoldable pub size_or : ℕ → Whole → ℕ
size_or d (Plus m) = m
size_or d (Minus m) = d
size_or d Other = d

abbrev pub names : List Named → List (List ℕ)
names ms = map (λ (m : Named). m.name) ms

-- the number of a name among others, from 0
abbrev pub place_or : List ℕ → List (List ℕ) → ℕ
place_or w ws = elim (place_of w ws) [ None ↦ 0 | Some k ↦ k ]

-- ── ids and versions ──
unfoldable pub is_letter : ℕ → Bool
is_letter b = (leb 65 b && leb b 90) || (leb 97 b && leb b 122)

unfoldable pub is_id_byte : ℕ → Bool
is_id_byte b = is_letter b || is_digit b || eqb b 95

-- "[a-zA-Z_][a-zA-Z0-9_]*", not "starting with "_"", of at most 24 bytes
unfoldable pub is_id : List ℕ → Bool
is_id [] = false
is_id (b ∷ bs) = is_letter b && all is_id_byte bs && leb (suc (length bs)) most_text_bytes

-- "digits, dot, digits, dot, digits": so many dots are due, and whether a digit was seen since the last
unfoldable pub version_from : ℕ → Bool → List ℕ → Bool
version_from dots seen [] = seen && eqb dots 0
version_from dots seen (b ∷ bs) =
    elim (is_digit b) [
      | true ↦ version_from dots true bs
      | false ↦ elim (eqb b 46 && seen && leb 1 dots) [ true ↦ version_from (dots - 1) false bs | false ↦ false ]
    ]

unfoldable pub is_version : List ℕ → Bool
is_version t = version_from 2 false t

-- ── base types: "integer, boolean, string and uuid, with minInteger, maxInteger, minLength, maxLength .., refTable, refType (strong unless said)" ──
unfoldable pub is_base : Json → Bool
is_base j = is_word (ascii "integer") j || is_word (ascii "boolean") j || is_word (ascii "string") j || is_word (ascii "uuid") j

unfoldable pub base_of : Json → Base
base_of j =
    elim (is_word (ascii "integer") j) [
      | true ↦ integer
      | false ↦ elim (is_word (ascii "boolean") j) [ true ↦ boolean | false ↦ elim (is_word (ascii "string") j) [ true ↦ text | false ↦ uuid ] ]
    ]

-- the members of a type or a key, where a bare value stands for the one member w
unfoldable pub members_or : List ℕ → Json → List Named
members_or w j = elim (is_object (kind_of j)) [ true ↦ members_in j | false ↦ record { name = w; value = j } ∷ [] ]

-- two bases are the same
unfoldable pub base_number : Base → ℕ
base_number integer = 0
base_number boolean = 1
base_number text = 2
base_number uuid = 3

abbrev pub same_base : Base → Base → Bool
same_base a b = eqb (base_number a) (base_number b)

-- a limit that is a member, and the least or the greatest integer where it is none
unfoldable pub limit_or : List ℕ → ℤ → List Named → ℤ
limit_or w d ms = elim (has_member w ms) [ true ↦ whole_int (whole_of (member_value w ms)) | false ↦ d ]

abbrev pub least : ℤ
least = negsuc 9223372036854775807

abbrev pub greatest : ℤ
greatest = pos 9223372036854775807

unfoldable pub low_of : Base → List Named → ℤ
low_of integer ms = limit_or (ascii "minInteger") least ms
low_of boolean ms = least
low_of text ms = limit_or (ascii "minLength") least ms
low_of uuid ms = least

unfoldable pub high_of : Base → List Named → ℤ
high_of integer ms = limit_or (ascii "maxInteger") greatest ms
high_of boolean ms = greatest
high_of text ms = limit_or (ascii "maxLength") greatest ms
high_of uuid ms = greatest

-- "minInteger .. integers only", "minLength .. strings only" (RFC 7047, section 3.2): a limit of another base is "misplaced"
abbrev pub is_limit : Base → Base → Json → Bool
is_limit only base j = same_base base only && is_integer j

-- "a refTable the schema .. doesn't list" refuses; refTable is for "UUIDs only", refType stands "only with refTable" (RFC 7047, section 3.2)
abbrev pub key_tests : List (List ℕ) → Base → List Named → List Bool
key_tests tables base ms =
    only (ascii "type" ∷ ascii "minInteger" ∷ ascii "maxInteger" ∷ ascii "minLength" ∷ ascii "maxLength" ∷ ascii "refTable" ∷ ascii "refType" ∷ []) ms
    ∷ must (ascii "type") is_base ms
    ∷ may (ascii "minInteger") (is_limit integer base) ms
    ∷ may (ascii "maxInteger") (is_limit integer base) ms
    ∷ may (ascii "minLength") (is_limit text base) ms
    ∷ may (ascii "maxLength") (is_limit text base) ms
    ∷ le_z (low_of base ms) (high_of base ms)
    ∷ may (ascii "refTable") (λ (j : Json). same_base base uuid && is_one_of tables j) ms
    ∷ may (ascii "refType") (λ (j : Json). is_word (ascii "strong") j || is_word (ascii "weak") j) ms
    ∷ (has_member (ascii "refTable") ms || not (has_member (ascii "refType") ms))
    ∷ []

abbrev pub key_members : Json → List Named
key_members k = members_or (ascii "type") k

abbrev pub key_base : List Named → Base
key_base ms = base_of (member_value (ascii "type") ms)

unfoldable pub key_fits : List (List ℕ) → Json → Bool
key_fits tables k = let ms = key_members k in every (key_tests tables (key_base ms) ms)

unfoldable pub refers_of : List (List ℕ) → List Named → Refers
refers_of tables ms =
    let t = place_or (text_in (member_value (ascii "refTable") ms)) tables in
    elim (has_member (ascii "refTable") ms) [
      | true ↦ elim (is_word (ascii "weak") (member_value (ascii "refType") ms)) [ true ↦ weak t | false ↦ strong t ]
      | false ↦ plain
    ]

-- ── types: "A type has key, min (0 or 1), max (1 to 4 or "unlimited", not below min)", each 1 unless said ──
unfoldable pub is_max : Json → Bool
is_max j = is_within 1 most_elements (whole_of j) || is_word (ascii "unlimited") j

abbrev pub min_of : List Named → ℕ
min_of ms = elim (has_member (ascii "min") ms) [ true ↦ size_or 1 (whole_of (member_value (ascii "min") ms)) | false ↦ 1 ]

abbrev pub max_of : List Named → ℕ
max_of ms = elim (has_member (ascii "max") ms) [ true ↦ size_or most_elements (whole_of (member_value (ascii "max") ms)) | false ↦ 1 ]

abbrev pub type_tests : List (List ℕ) → List Named → List Bool
type_tests tables ms =
    only (ascii "key" ∷ ascii "min" ∷ ascii "max" ∷ []) ms
    ∷ must (ascii "key") (key_fits tables) ms
    ∷ may (ascii "min") (λ (j : Json). is_within 0 1 (whole_of j)) ms
    ∷ may (ascii "max") is_max ms
    ∷ leb (min_of ms) (max_of ms)
    ∷ []

abbrev pub type_members : Json → List Named
type_members t = members_or (ascii "key") t

unfoldable pub type_fits : List (List ℕ) → Json → Bool
type_fits tables t = every (type_tests tables (type_members t))

-- ── columns: "A column has type, ephemeral .. and mutable", which is true unless said ──
abbrev pub column_tests : List (List ℕ) → List Named → List Bool
column_tests tables ms =
    only (ascii "type" ∷ ascii "ephemeral" ∷ ascii "mutable" ∷ []) ms
    ∷ must (ascii "type") (type_fits tables) ms
    ∷ may (ascii "ephemeral") is_bool ms
    ∷ may (ascii "mutable") is_bool ms
    ∷ []

unfoldable pub column_fits : List (List ℕ) → Json → Bool
column_fits tables j = every (column_tests tables (members_in j))

-- a column whose type has the members ts and whose key the members ks
abbrev pub column_with : List (List ℕ) → List ℕ → List Named → List Named → List Named → Column
column_with tables w ms ts ks =
    record {
      name = w;
      base = key_base ks;
      refers = refers_of tables ks;
      min = min_of ts;
      max = max_of ts;
      low = low_of (key_base ks) ks;
      high = high_of (key_base ks) ks;
      mutable = truth_or true (member_value (ascii "mutable") ms);
    }

unfoldable pub column_of : List (List ℕ) → Named → Column
column_of tables m =
    let ms = members_in m.value in
    let ts = type_members (member_value (ascii "type") ms) in
    column_with tables m.name ms ts (key_members (member_value (ascii "key") ts))

-- ── tables: "A table has columns, maxRows (1 or more), isRoot, indexes" ──
-- "numbered from 0 in text order, a repeated name at its last place"
abbrev pub table_columns : List Named → List Named
table_columns ms = counting (members_in (member_value (ascii "columns") ms))

-- what is inside an object of named parts: each name an id, at most so many, and each part that counts passes a test
abbrev pub parts_tests : ℕ → (List (List ℕ) → Json → Bool) → Json → List Bool
parts_tests most fits j =
    let cs = counting (members_in j) in
    is_object (kind_of j) ∷ all is_id (names (members_in j)) ∷ leb (length cs) most ∷ all (λ (m : Named). fits (names cs) m.value) cs ∷ []

unfoldable pub columns_fit : List (List ℕ) → Json → Bool
columns_fit tables j = every (parts_tests most_columns (λ (columns : List (List ℕ)). column_fits tables) j)

-- "ephemeral (ignored, but such a column may not be in an index)"
unfoldable pub is_lasting : Json → Bool
is_lasting j = not (truth_or false (member_value (ascii "ephemeral") (members_in j)))

-- "an index column its table doesn't list" refuses; an index has 1 to 3 columns, a table at most 2 indexes
unfoldable pub is_indexed : List Named → Json → Bool
is_indexed columns j = is_string_of (λ (t : List ℕ). has_member t columns && is_lasting (member_value t columns)) j

abbrev pub index_tests : List Named → Json → List Bool
index_tests columns j = let xs = items_in j in is_array (kind_of j) ∷ leb 1 (length xs) ∷ leb (length xs) most_index_columns ∷ all (is_indexed columns) xs ∷ []

unfoldable pub index_fits : List Named → Json → Bool
index_fits columns j = every (index_tests columns j)

abbrev pub indexes_tests : List Named → Json → List Bool
indexes_tests columns j = let xs = items_in j in is_array (kind_of j) ∷ leb (length xs) most_indexes ∷ all (index_fits columns) xs ∷ []

unfoldable pub indexes_fit : List Named → Json → Bool
indexes_fit columns j = every (indexes_tests columns j)

abbrev pub table_tests : List (List ℕ) → List Named → List Bool
table_tests tables ms =
    only (ascii "columns" ∷ ascii "maxRows" ∷ ascii "isRoot" ∷ ascii "indexes" ∷ []) ms
    ∷ must (ascii "columns") (columns_fit tables) ms
    ∷ may (ascii "maxRows") (λ (j : Json). is_within 1 9223372036854775807 (whole_of j)) ms
    ∷ may (ascii "isRoot") is_bool ms
    ∷ may (ascii "indexes") (indexes_fit (members_in (member_value (ascii "columns") ms))) ms
    ∷ []

unfoldable pub table_fits : List (List ℕ) → Json → Bool
table_fits tables j = every (table_tests tables (members_in j))

-- an index as the numbers of its columns
abbrev pub index_of : List (List ℕ) → Json → List ℕ
index_of columns j = map (λ (x : Json). place_or (text_in x) columns) (items_in j)

abbrev pub max_rows_of : List Named → Option ℕ
max_rows_of ms = elim (has_member (ascii "maxRows") ms) [ true ↦ Some (size_or 0 (whole_of (member_value (ascii "maxRows") ms))) | false ↦ None ]

unfoldable pub table_of : List (List ℕ) → Named → Table
table_of tables m =
    let ms = members_in m.value in
    record {
      name = m.name;
      columns = map (column_of tables) (table_columns ms);
      root = truth_or false (member_value (ascii "isRoot") ms);
      max_rows = max_rows_of ms;
      indexes = map (index_of (names (table_columns ms))) (items_in (member_value (ascii "indexes") ms));
    }

-- ── the schema: "needs name, version (digits, dot, digits, dot, digits) and tables; "cksum" is ignored" ──
unfoldable pub tables_fit : Json → Bool
tables_fit j = every (parts_tests most_tables table_fits j)

abbrev pub schema_tests : List Named → List Bool
schema_tests ms =
    only (ascii "name" ∷ ascii "version" ∷ ascii "tables" ∷ ascii "cksum" ∷ []) ms
    ∷ must (ascii "name") (is_string_of is_id) ms
    ∷ must (ascii "version") (is_string_of is_version) ms
    ∷ may (ascii "cksum") is_string ms
    ∷ must (ascii "tables") tables_fit ms
    ∷ []

unfoldable pub schema_fits : Json → Bool
schema_fits j = every (schema_tests (members_in j))

abbrev pub schema_tables : Json → List Named
schema_tables j = counting (members_in (member_value (ascii "tables") (members_in j)))

unfoldable pub database_of : Json → Database
database_of j =
    record {
      name = text_in (member_value (ascii "name") (members_in j));
      tables = map (table_of (names (schema_tables j))) (schema_tables j);
    }

unfoldable pub schema_of : Json → Option Database
schema_of j = elim (schema_fits j) [ true ↦ Some (database_of j) | false ↦ None ]

-- a schema text: at most 4,096 bytes, a JSON value of at most 12 levels with nothing after it
unfoldable pub read_schema : List ℕ → Option Database
read_schema s =
    elim (leb (length s) most_schema_bytes) [
      | true ↦ elim (is_read (text_at s).read) [ true ↦ schema_of (text_at s).tree | false ↦ None ]
      | false ↦ None
    ]
