-- A row as written in insert and update: how it is judged, and what it leaves of a row and of the working rows. Assumes nothing: these are definitions.
use Rattle.std.specs.Prelude.{ℕ, ◌+◌, ◌^◌, ◌≤◌, ◌<◌, ◌≡◌, Bool, true, false, List, map, eqb, length, get_or, take, Option, Some, None}
use Rattle.model.specs.Limits.{most_columns, id_bytes}
use Rattle.model.specs.declared.Fault.{Fault}
use Rattle.model.specs.Json.{Json, Named}
use Rattle.inner.specs.Positions.{tree_at}
use Rattle.model.specs.Members.{members_in}
use Rattle.model.specs.Schema.{Column, Schema, columns_of}
use Rattle.model.specs.Value.{Value, initial}
use Rattle.model.specs.Rows.{Row, add, set_column}
use Rattle.model.specs.Faults.{is_fine, Judged}
use Rattle.model.specs.Written.{Names, member_named}
use Rattle.model.specs.Conditions.{Test, matches}
use Rattle.model.specs.Operations.{value_written, column_written, columns_written, row_of, default_fault, immutable_fault, no_fault, assigned, update_row}
use Rattle.model.specs.Areas.{row_cells, row_from}
use Rattle.model.specs.Catalog.{column_from}
use Rattle.inner.specs.Working.{working, table_in, value_in, new_row, TidyRow, Tidy}
use Rattle.rows.specs.Post.{ColumnSet}
use Rattle.uuids.specs.Named.{names_at}
use Rattle.marks.specs.Marks.{MarkedRows}

-- a member that may be missing, by the slot that keeps its place: 0 where it is missing
unfoldable pub slotted : List ℕ → ℕ → Option Json
slotted s p = elim (eqb p 0) [ true ↦ None | false ↦ Some (tree_at s p) ]

-- how a column that the row does not name is judged, in an insert and in an update; and one that it names
abbrev pub absent_by : Bool → Column → Fault
absent_by true = default_fault
absent_by false = no_fault

abbrev pub named_by : Bool → Column → Fault
named_by true = no_fault
named_by false = immutable_fault

-- the row written at a place, of an insert or of an update
unfoldable pub written_row : Bool → List ℕ → List ℕ → List (List ℕ) → ℕ → Judged (List (Option Value))
written_row insert text names columns at = row_of (names_at text names) (absent_by insert) (named_by insert) (map column_from columns) (members_in (tree_at text at))

-- the fault of one column, and of some
unfoldable pub fault_of : Bool → Names → Column → List Named → Fault
fault_of insert names c ms = (column_written names (absent_by insert) (named_by insert) c (member_named c.name ms)).fault

unfoldable pub faults_of : Bool → Names → List Column → List Named → Fault
faults_of insert names cs ms = (columns_written names (absent_by insert) (named_by insert) cs ms).fault

-- what is written for a column, and for some
unfoldable pub value_for : Names → List Named → Column → Option Value
value_for names ms c = elim (member_named c.name ms) [ None ↦ None | Some j ↦ Some (value_written names c j).got ]

unfoldable pub values_for : Names → List Named → List Column → List (Option Value)
values_for names ms cs = map (value_for names ms) cs

-- a row with column c set to what is written for it, if anything is; and with all columns
unfoldable pub put_column : ℕ → Option Value → Row → Row
put_column c None r = r
put_column c (Some v) r = set_column c v r

abbrev pub put_columns : List (Option Value) → Row → Row
put_columns os r = record { table = r.table; id = r.id; columns = assigned os r.columns }

pub record ColumnAssigned (c : ℕ) (o : Option Value) (entry exit : List (List ℕ)) : Type 0 where
  pub row : (s : Schema) → row_from s exit ≡ put_column c o (row_from s entry)
  pub tidy : (s : Schema) → c < length (columns_of s (table_in entry)) → length (columns_of s (table_in entry)) ≤ most_columns → TidyRow s entry → TidyRow s exit

pub record RowAssigned (os : List (Option Value)) (entry exit : List (List ℕ)) : Type 0 where
  pub row : (s : Schema) → row_from s exit ≡ put_columns os (row_from s entry)
  pub tidy : (s : Schema) → length (columns_of s (table_in entry)) ≡ length os → TidyRow s entry → TidyRow s exit

-- ── a row as written, read into a row ──
-- column c set to a value: it is there, and the columns before it stay
pub record ColumnPut (c : ℕ) (v : Value) (entry exit : List (List ℕ)) : Type 0 where
  pub column : ColumnSet c v entry exit
  pub there : value_in c exit ≡ v
  pub before : (d : ℕ) → d < c → value_in d exit ≡ value_in d entry

-- the same where a value fits; else the row stays
unfoldable pub Puts : Bool → ℕ → Value → List (List ℕ) → List (List ℕ) → Type 0
Puts true c v entry exit = ColumnPut c v entry exit
Puts false c v entry exit = exit ≡ entry

-- what a row says of column c: its value, if it is flagged
abbrev pub flagged : Bool → ℕ → List (List ℕ) → Option Value
flagged true c row = Some (value_in c row)
flagged false c row = None

-- a row and its flags say what is written, in the first n columns and in all
unfoldable pub TemplateTo : ℕ → List (Option Value) → List (List ℕ) → List Bool → Type 0
TemplateTo n os row given = (c : ℕ) → c < n → get_or os c None ≡ flagged (get_or given c false) c row

abbrev pub Template : List (Option Value) → List (List ℕ) → List Bool → Type 0
Template os row given = TemplateTo (length os) os row given

-- column c read: its fault r; where it has none, the row is set to what is written; else the row is free
pub record ColumnRead (insert : Bool) (names : Names) (ms : List Named) (column : Column) (c : ℕ) (r : Fault) (given : Bool) (entry exit : List (List ℕ)) : Type 0 where
  pub fault : r ≡ fault_of insert names column ms
  pub assigned : is_fine r ≡ true → ColumnAssigned c (value_for names ms column) entry exit
  pub there : is_fine r ≡ true → value_for names ms column ≡ flagged given c exit
  pub before : is_fine r ≡ true → (d : ℕ) → d < c → value_in d exit ≡ value_in d entry

-- all columns read: the same, and their flags; row and flags are free where there is a fault
pub record ColumnsRead (insert : Bool) (names : Names) (ms : List Named) (cs : List Column) (r : Fault) (entry exit : List (List ℕ)) (given : List Bool) : Type 0 where
  pub fault : r ≡ faults_of insert names cs ms
  pub assigned : is_fine r ≡ true → RowAssigned (values_for names ms cs) entry exit
  pub template : is_fine r ≡ true → Template (values_for names ms cs) exit given

-- a row as written, read: the same, of what the model says of it; row and flags are free where it has a fault
pub record RowRead (w : Judged (List (Option Value))) (r : Fault) (entry exit : List (List ℕ)) (given : List Bool) : Type 0 where
  pub fault : r ≡ w.fault
  pub assigned : is_fine w.fault ≡ true → RowAssigned w.got entry exit
  pub template : is_fine w.fault ≡ true → Template w.got exit given

-- ── rows added and changed by it ──
-- a new row of a table with the columns cs, all initial
pub record Born (cs : List Column) (table id : ℕ) (row : List (List ℕ)) : Type 0 where
  pub cells : row ≡ row_cells (new_row table id cs)
  pub size : id < 256 ^ id_bytes

-- a new row of a table, with what is written for it, added to the first n
pub record Inserted (cs : List Column) (os : List (Option Value)) (table id n : ℕ) (entry exit : List (List (List ℕ))) : Type 0 where
  pub rows : (s : Schema) → columns_of s table ≡ cs
      → working s (n + 1) exit ≡ add (record { table = table; id = id; columns = assigned os (map initial cs) }) (working s n entry)
  pub tidy : (s : Schema) → columns_of s table ≡ cs → Tidy s (take n entry) → Tidy s (take (n + 1) exit)

-- the rows of a table that meet conditions, with what is written for them
pub record Updated (cs : List Column) (ts : List Test) (os : List (Option Value)) (table n : ℕ) (entry exit : List (List (List ℕ))) : Type 0 where
  pub rows : (s : Schema) → columns_of s table ≡ cs → working s n exit ≡ map (update_row (matches table ts) os) (working s n entry)
  pub tidy : (s : Schema) → columns_of s table ≡ cs → Tidy s (take n entry) → Tidy s (take n exit)

-- the marked rows of the first n, with what a row and its flags say of its first k columns
unfoldable pub Updates : ℕ → List (List ℕ) → List Bool → List Bool → ℕ → List (List (List ℕ)) → List (List (List ℕ)) → Type 0
Updates k row given marks n entry exit =
    (cs : List Column) (ts : List Test) (os : List (Option Value)) (table : ℕ) → length os ≡ k → length cs ≡ k → Template os row given → MarkedRows cs ts table n entry marks → Updated cs ts os table n entry exit
