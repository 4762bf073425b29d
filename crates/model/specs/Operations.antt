-- Operations, on working rows. Assumes nothing: these are definitions.
use Rattle.std.specs.Prelude.{ℕ, Bool, true, false, not, ◌&&◌, ◌||◌, List, [], ◌∷◌, ◌++◌, map, eqb, ltb, length, if◌then◌else◌, Option, Some, None}
use Rattle.model.specs.Octets.{eq_bytes}
use Rattle.model.specs.Base.{any, all, keep, count, member, distinct, is_some, ascii}
use Rattle.model.specs.Limits.{most_rows}
use Rattle.model.specs.Json.{Json, Named}
use Rattle.model.specs.Schema.{Column, Schema, columns_of, table_named, column_named}
use Rattle.model.specs.SchemaText.{is_id, only}
use Rattle.model.specs.Value.{Value, same_value, elements, all_in_limits, sorted, value_of, initial}
use Rattle.model.specs.Rows.{Row, add}
use Rattle.model.specs.Faults.{is_fine, earlier, worst, check, Judged}
use Rattle.model.specs.Written.{Names, string_in, array_in, object_in, member_named, row_fault, written}
use Rattle.model.specs.Conditions.{Test, read_tests, matches}
use Rattle.model.specs.Mutations.{Mutation, read_mutations, steps}
use Rattle.model.specs.Answers.{member_text, uuid_text, value_text, braced, count_text, insert_text, rows_text}
use Rattle.model.specs.declared.Fault.{Fault}
use Rattle.model.specs.declared.Fault.TheVariants.{Fine, Syntax, Resources, Duplicate, Constraint, Aborted}

-- ── members of an operation ──
-- "missing, extra or mistyped member": a member read as what it must be, none where it is missing or mistyped
abbrev pub member_as : {A : Type 0} → (Json → Option A) → List ℕ → List Named → Option A
member_as read w ms = elim (member_named w ms) [ None ↦ None | Some j ↦ read j ]

abbrev pub table_in : Schema → List Named → Option ℕ
table_in s ms = elim (member_as string_in (ascii "table") ms) [ None ↦ None | Some w ↦ table_named s w ]

-- ── a row as written: a value for each column that it names ──
abbrev pub known_names : List Column → List Named → Bool
known_names cs ms = all (λ (m : Named). is_some (column_named cs m.name)) ms

abbrev pub value_written : Names → Column → Json → Judged Value
value_written names c j =
    let w = written names c.base (row_fault c) j in
    record { fault = w.fault; got = value_of (sorted c.base w.got) }

-- `absent` judges a column that is not named, `named` one that is, besides its value
abbrev pub column_written : Names → (Column → Fault) → (Column → Fault) → Column → Option Json → Judged (Option Value)
column_written names absent named c None = record { fault = absent c; got = None }
column_written names absent named c (Some j) =
    let w = value_written names c j in
    record { fault = earlier w.fault (named c); got = Some w.got }

abbrev pub columns_written : Names → (Column → Fault) → (Column → Fault) → List Column → List Named → Judged (List (Option Value))
columns_written names absent named [] ms = record { fault = Fine; got = [] }
columns_written names absent named (c ∷ cs) ms =
    let v = column_written names absent named c (member_named c.name ms) in
    let vs = columns_written names absent named cs ms in
    record { fault = earlier v.fault vs.fault; got = v.got ∷ vs.got }

abbrev pub row_of : Names → (Column → Fault) → (Column → Fault) → List Column → List Named → Judged (List (Option Value))
row_of names absent named cs ms =
    let r = columns_written names absent named cs ms in
    record { fault = earlier (check (known_names cs ms) Syntax Fine) r.fault; got = r.got }

abbrev pub read_row : Names → (Column → Fault) → (Column → Fault) → List Column → List Named → Judged (List (Option Value))
read_row names absent named cs ms = elim (member_as object_in (ascii "row") ms) [ None ↦ record { fault = Syntax; got = [] } | Some r ↦ row_of names absent named cs r ]

-- "a default outside its limits", judged where min is 1 (reading 38)
abbrev pub default_fault : Column → Fault
default_fault c = check (all_in_limits c (elements (initial c))) Constraint Fine

abbrev pub immutable_fault : Column → Fault
immutable_fault c = check c.mutable Constraint Fine

abbrev pub no_fault : Column → Fault
no_fault c = Fine

-- the columns with what was written put in
abbrev pub assigned : List (Option Value) → List Value → List Value
assigned [] vs = vs
assigned (o ∷ os) [] = []
assigned (None ∷ os) (v ∷ vs) = v ∷ assigned os vs
assigned (Some w ∷ os) (v ∷ vs) = w ∷ assigned os vs

-- ── "where": conditions ──
abbrev pub read_where : Names → List Column → List Named → Judged (List Test)
read_where names cs ms = elim (member_as array_in (ascii "where") ms) [ None ↦ record { fault = Syntax; got = [] } | Some l ↦ read_tests names cs l ]

-- ── what an operation does: its fault, the rows after it, and its result's text ──
pub record Done : Type 0 where
  pub fault : Fault
  pub rows : List Row
  pub answer : List ℕ

abbrev pub failed : Fault → List Row → Done
failed f rows = record { fault = f; rows = rows; answer = [] }

-- "insert .. Answers {"uuid":["uuid","..."]}"
abbrev pub name_fault : List (List ℕ) → Option Json → Fault
name_fault earlierNames None = Fine
name_fault earlierNames (Some j) = elim (string_in j) [ None ↦ Syntax | Some w ↦ check (is_id w) Syntax (check (not (member w earlierNames)) Duplicate Fine) ]

abbrev pub run_insert : Names → List (List ℕ) → ℕ → List Row → List Named → ℕ → List Column → Done
run_insert names earlierNames i rows ms t cs =
    let r = read_row names default_fault no_fault cs ms in
    record {
      fault =
          worst
          (check (only (ascii "op" ∷ ascii "table" ∷ ascii "row" ∷ ascii "uuid-name" ∷ []) ms) Syntax Fine
          ∷ r.fault
          ∷ check (ltb (length rows) most_rows) Resources Fine
          ∷ name_fault earlierNames (member_named (ascii "uuid-name") ms)
          ∷ []);
      rows = add (record { table = t; id = i; columns = assigned r.got (map initial cs) }) rows;
      answer = insert_text i;
    }

-- "columns": each a column of the table or "_uuid", none twice; all where it is not given
abbrev pub names_in : List Json → Option (List (List ℕ))
names_in [] = Some []
names_in (j ∷ js) = elim (string_in j) [ None ↦ None | Some w ↦ elim (names_in js) [ None ↦ None | Some l ↦ Some (w ∷ l) ] ]

abbrev pub shown_fault : List Column → Option (List (List ℕ)) → Fault
shown_fault cs None = Syntax
shown_fault cs (Some l) = check (all (λ (w : List ℕ). eq_bytes w (ascii "_uuid") || is_some (column_named cs w)) l && distinct l) Syntax Fine

abbrev pub columns_fault : List Column → Option Json → Fault
columns_fault cs None = Fine
columns_fault cs (Some j) = elim (array_in j) [ None ↦ Syntax | Some l ↦ shown_fault cs (names_in l) ]

abbrev pub names_or : Option (List (List ℕ)) → List (List ℕ)
names_or None = []
names_or (Some l) = l

abbrev pub shows : Option Json → List ℕ → Bool
shows None w = true
shows (Some j) w = elim (array_in j) [ None ↦ false | Some l ↦ member w (names_or (names_in l)) ]

-- a row's object: ""_uuid" first, then schema order"
abbrev pub shown_columns : (List ℕ → Bool) → List Column → List Value → List (List ℕ)
shown_columns show [] vs = []
shown_columns show (c ∷ cs) [] = []
shown_columns show (c ∷ cs) (v ∷ vs) =
    if show c.name then member_text c.name (value_text c.base v) ∷ shown_columns show cs vs else shown_columns show cs vs

abbrev pub shown_id : (List ℕ → Bool) → Row → List (List ℕ)
shown_id show r = if show (ascii "_uuid") then member_text (ascii "_uuid") (uuid_text r.id) ∷ [] else []

abbrev pub row_text : (List ℕ → Bool) → List Column → Row → List ℕ
row_text show cs r = braced (shown_id show r ++ shown_columns show cs r.columns)

-- "one equal to an earlier one left out": the same values for all included columns
abbrev pub same_columns : (List ℕ → Bool) → List Column → List Value → List Value → Bool
same_columns show [] vs ws = true
same_columns show (c ∷ cs) [] ws = true
same_columns show (c ∷ cs) (v ∷ vs) [] = true
same_columns show (c ∷ cs) (v ∷ vs) (w ∷ ws) = (not (show c.name) || same_value v w) && same_columns show cs vs ws

abbrev pub same_shown : (List ℕ → Bool) → List Column → Row → Row → Bool
same_shown show cs r q = (not (show (ascii "_uuid")) || eqb r.id q.id) && same_columns show cs r.columns q.columns

abbrev pub firsts : (Row → Row → Bool) → List Row → List Row → List Row
firsts same before [] = []
firsts same before (r ∷ rs) = elim (any (same r) before) [ true ↦ firsts same (r ∷ before) rs | false ↦ r ∷ firsts same (r ∷ before) rs ]

abbrev pub run_select : Names → List Row → List Named → ℕ → List Column → Done
run_select names rows ms t cs =
    let w = read_where names cs ms in
    let show = shows (member_named (ascii "columns") ms) in
    record {
      fault =
          worst
          (check (only (ascii "op" ∷ ascii "table" ∷ ascii "where" ∷ ascii "columns" ∷ []) ms) Syntax Fine
          ∷ w.fault
          ∷ columns_fault cs (member_named (ascii "columns") ms)
          ∷ []);
      rows = rows;
      answer = rows_text (map (row_text show cs) (firsts (same_shown show cs) [] (keep (matches t w.got) rows)));
    }

-- "update, mutate, delete answer {"count":k}, k the matching rows, changed or not"
abbrev pub update_row : (Row → Bool) → List (Option Value) → Row → Row
update_row fits os r = if fits r then record { table = r.table; id = r.id; columns = assigned os r.columns } else r

abbrev pub run_update : Names → List Row → List Named → ℕ → List Column → Done
run_update names rows ms t cs =
    let w = read_where names cs ms in
    let v = read_row names no_fault immutable_fault cs ms in
    record {
      fault =
          worst
          (check (only (ascii "op" ∷ ascii "table" ∷ ascii "where" ∷ ascii "row" ∷ []) ms) Syntax Fine
          ∷ w.fault
          ∷ v.fault
          ∷ []);
      rows = map (update_row (matches t w.got) v.got) rows;
      answer = count_text (count (matches t w.got) rows);
    }

-- "row by row, ids ascending"; the first step that fails is told
abbrev pub mutate_row : (Row → Bool) → List Mutation → Row → Judged Row
mutate_row fits ms r = elim (fits r) [ true ↦ steps ms r | false ↦ record { fault = Fine; got = r } ]

abbrev pub mutate_rows : (Row → Bool) → List Mutation → List Row → Judged (List Row)
mutate_rows fits ms [] = record { fault = Fine; got = [] }
mutate_rows fits ms (r ∷ rs) =
    let q = mutate_row fits ms r in
    let qs = mutate_rows fits ms rs in
    record { fault = elim (is_fine q.fault) [ true ↦ qs.fault | false ↦ q.fault ]; got = q.got ∷ qs.got }

abbrev pub read_mutation_list : Names → List Column → List Named → Judged (List Mutation)
read_mutation_list names cs ms = elim (member_as array_in (ascii "mutations") ms) [ None ↦ record { fault = Syntax; got = [] } | Some l ↦ read_mutations names cs l ]

abbrev pub run_mutate : Names → List Row → List Named → ℕ → List Column → Done
run_mutate names rows ms t cs =
    let w = read_where names cs ms in
    let m = read_mutation_list names cs ms in
    let f =
    worst
    (check (only (ascii "op" ∷ ascii "table" ∷ ascii "where" ∷ ascii "mutations" ∷ []) ms) Syntax Fine
    ∷ w.fault
    ∷ m.fault
    ∷ []) in
    let q = mutate_rows (matches t w.got) m.got rows in
    record {
      fault = elim (is_fine f) [ true ↦ q.fault | false ↦ f ];
      rows = q.got;
      answer = count_text (count (matches t w.got) rows);
    }

abbrev pub run_delete : Names → List Row → List Named → ℕ → List Column → Done
run_delete names rows ms t cs =
    let w = read_where names cs ms in
    record {
      fault =
          worst
          (check (only (ascii "op" ∷ ascii "table" ∷ ascii "where" ∷ []) ms) Syntax Fine
          ∷ w.fault
          ∷ []);
      rows = keep (λ (r : Row). not (matches t w.got r)) rows;
      answer = count_text (count (matches t w.got) rows);
    }

-- "comment answers {}", and needs a string
abbrev pub run_comment : List Row → List Named → Done
run_comment rows ms =
    record {
      fault = check (only (ascii "op" ∷ ascii "comment" ∷ []) ms && is_some (member_as string_in (ascii "comment") ms)) Syntax Fine;
      rows = rows;
      answer = ascii "{}";
    }

-- "abort always fails"
abbrev pub run_abort : List Row → List Named → Done
run_abort rows ms = record { fault = check (only (ascii "op" ∷ []) ms) Syntax Aborted; rows = rows; answer = [] }

-- an operation on a table that the schema has
abbrev pub on_table : Schema → (ℕ → List Column → Done) → List Row → Option ℕ → Done
on_table s f rows None = failed Syntax rows
on_table s f rows (Some t) = f t (columns_of s t)

-- by its "op"; an unknown one is a syntax error
abbrev pub perform : Schema → Names → List (List ℕ) → ℕ → List Row → List Named → Option (List ℕ) → Done
perform s names earlierNames i rows ms None = failed Syntax rows
perform s names earlierNames i rows ms (Some w) =
    let t = table_in s ms in
    elim (eq_bytes w (ascii "insert")) [
      | true ↦ on_table s (run_insert names earlierNames i rows ms) rows t
      | false ↦ elim (eq_bytes w (ascii "select")) [
        | true ↦ on_table s (run_select names rows ms) rows t
        | false ↦ elim (eq_bytes w (ascii "update")) [
          | true ↦ on_table s (run_update names rows ms) rows t
          | false ↦ elim (eq_bytes w (ascii "mutate")) [
            | true ↦ on_table s (run_mutate names rows ms) rows t
            | false ↦ elim (eq_bytes w (ascii "delete")) [
              | true ↦ on_table s (run_delete names rows ms) rows t
              | false ↦ elim (eq_bytes w (ascii "comment")) [
                | true ↦ run_comment rows ms
                | false ↦ elim (eq_bytes w (ascii "abort")) [ true ↦ run_abort rows ms | false ↦ failed Syntax rows ]
              ]
            ]
          ]
        ]
      ]
    ]

abbrev pub operate : Schema → Names → List (List ℕ) → ℕ → List Row → List Named → Done
operate s names earlierNames i rows ms = perform s names earlierNames i rows ms (member_as string_in (ascii "op") ms)
