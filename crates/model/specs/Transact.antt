-- A request run on a store's rows: operations in order, then the commit. Assumes nothing: these are definitions.
use Rattle.std.specs.Prelude.{ℕ, zero, suc, Bool, true, false, not, ◌&&◌, List, [], ◌∷◌, ◌++◌, map, eqb, leb, length, get_or, take, drop, if◌then◌else◌, Option, Some, None}
use Rattle.model.specs.Octets.{value, eq_bytes}
use Rattle.model.specs.Base.{any, ascii}
use Rattle.model.specs.Limits.{most_request_bytes, most_operations}
use Rattle.model.specs.Scan.{Parsed}
use Rattle.model.specs.Json.{Json, Named, text_at}
use Rattle.model.specs.Nav.{is_read}
use Rattle.model.specs.Schema.{Schema}
use Rattle.model.specs.Rows.{Row, has_id}
use Rattle.model.specs.Faults.{is_fine}
use Rattle.model.specs.Written.{Names, string_in, array_in, object_in}
use Rattle.model.specs.Operations.{member_as, operate}
use Rattle.model.specs.Commit.{commit}
use Rattle.model.specs.Answers.{bracketed, error_text}
use Rattle.model.specs.declared.Fault.{Fault}
use Rattle.model.specs.declared.Fault.TheVariants.{Fine}

-- ── the request: "params of "transact" (database name, then operations)" ──
pub record Request : Type 0 where
  pub name : List ℕ
  pub operations : List (List Named)

abbrev pub objects_in : List Json → Option (List (List Named))
objects_in [] = Some []
objects_in (j ∷ js) = elim (object_in j) [ None ↦ None | Some ms ↦ elim (objects_in js) [ None ↦ None | Some l ↦ Some (ms ∷ l) ] ]

abbrev pub request_by : Option (List ℕ) → Option (List (List Named)) → Option Request
request_by None os = None
request_by (Some w) None = None
request_by (Some w) (Some os) = if leb (length os) most_operations then Some (record { name = w; operations = os }) else None

abbrev pub request_items : List Json → Option Request
request_items [] = None
request_items (j ∷ js) = request_by (string_in j) (objects_in js)

-- refusal 4: "too long, too deep, not JSON, not an array that starts with a string, has over 16 operations, or one that isn't an object": none
abbrev pub request_tree : Parsed Json → Option Request
request_tree q = elim (is_read q.read) [ true ↦ elim (array_in q.tree) [ None ↦ None | Some l ↦ request_items l ] | false ↦ None ]

unfoldable pub read_request : List ℕ → Option Request
read_request t = elim (leb (length t) most_request_bytes) [ true ↦ request_tree (text_at t) | false ↦ None ]

-- ── fresh ids: "Operation i (from 0), if an insert, uses fresh id i" ──
abbrev pub ids_from : ℕ → List ℕ → List ℕ
ids_from zero b = []
ids_from (suc n) b = value (take 16 b) ∷ ids_from n (drop 16 b)

abbrev pub fresh_ids : List ℕ → List ℕ
fresh_ids b = ids_from most_operations b

-- refusal 6: "of the 16 fresh ids two are equal, one is all zero, or one is a row's id": the opposite
abbrev pub ids_good : List ℕ → List Row → Bool
ids_good [] rows = true
ids_good (i ∷ l) rows = not (eqb i 0) && not (has_id i rows) && not (any (eqb i) l) && ids_good l rows

-- ── uuid-names: "A named-uuid may name an insert that comes later; the first operation whose op is insert, with that uuid-name, is meant" ──
abbrev pub insert_name : List Named → Option (List ℕ)
insert_name ms = elim (member_as string_in (ascii "op") ms) [ None ↦ None | Some w ↦ elim (eq_bytes w (ascii "insert")) [ true ↦ member_as string_in (ascii "uuid-name") ms | false ↦ None ] ]

abbrev pub is_named : Option (List ℕ) → List ℕ → Bool
is_named None w = false
is_named (Some v) w = eq_bytes v w

abbrev pub names_of : List ℕ → List (List Named) → Names
names_of ids [] w = None
names_of ids (o ∷ os) w = elim (is_named (insert_name o) w) [ true ↦ Some (get_or ids 0 0) | false ↦ names_of (drop 1 ids) os w ]

abbrev pub with_name : Option (List ℕ) → List (List ℕ) → List (List ℕ)
with_name None l = l
with_name (Some w) l = w ∷ l

-- ── "They run in order on working rows. The first failure gives {"error":"..."} and stops the rest, which give null" ──
pub record Ran : Type 0 where
  pub fault : Fault
  pub rows : List Row
  pub results : List (List ℕ)

abbrev pub stopped : Fault → List Row → List (List Named) → Ran
stopped f rows os = record { fault = f; rows = rows; results = error_text f ∷ map (λ (o : List Named). ascii "null") os }

abbrev pub followed : List ℕ → Ran → Ran
followed t r = record { fault = r.fault; rows = r.rows; results = t ∷ r.results }

abbrev pub run_all : Schema → Names → List (List ℕ) → List ℕ → List Row → List (List Named) → Ran
run_all s names given ids rows [] = record { fault = Fine; rows = rows; results = [] }
run_all s names given ids rows (o ∷ os) =
    let d = operate s names given (get_or ids 0 0) rows o in
    elim (is_fine d.fault) [
      | true ↦ followed d.answer (run_all s names (with_name (insert_name o) given) (drop 1 ids) d.rows os)
      | false ↦ stopped d.fault rows os
    ]

-- ── the whole: whether it commits, the rows after it, and the answer's text ──
pub record Transaction : Type 0 where
  pub commits : Bool
  pub rows : List Row
  pub text : List ℕ

-- "A failed commit adds one such error object after the operations' results"
abbrev pub at_commit : Schema → List Row → Ran → Transaction
at_commit s before r =
    let c = commit s r.rows in
    elim (is_fine c.fault) [
      | true ↦ record { commits = true; rows = c.got; text = bracketed r.results }
      | false ↦ record { commits = false; rows = before; text = bracketed (r.results ++ error_text c.fault ∷ []) }
    ]

abbrev pub transact_rows : Schema → List ℕ → List Row → List (List Named) → Transaction
transact_rows s ids rows os =
    let r = run_all s (names_of ids os) [] ids rows os in
    elim (is_fine r.fault) [
      | true ↦ at_commit s rows r
      | false ↦ record { commits = false; rows = rows; text = bracketed r.results }
    ]
