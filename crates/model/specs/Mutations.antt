-- Mutations: [column, mutator, value] (RFC 7047, 5.1), and a step, which is one mutation on one row. Assumes nothing: these are definitions.
use Rattle.std.specs.Prelude.{ℕ, Bool, true, false, not, ◌&&◌, List, [], ◌∷◌, map, eqb, leb, ℤ, pos, negsuc, ◌+ℤ◌, ◌-ℤ◌, ◌*ℤ◌, length, if◌then◌else◌, Option, Some, None}
use Rattle.std.specs.Int.Signed.{le_z, quot_z, rem_z}
use Rattle.model.specs.Octets.{eq_bytes}
use Rattle.model.specs.Base.{all, ascii, nth, distinct}
use Rattle.model.specs.Limits.{most_elements}
use Rattle.model.specs.Json.{Json}
use Rattle.model.specs.Schema.{integer, Column, scalar, column_named}
use Rattle.model.specs.Value.{elements, int_of, int_atom, sorted, value_of, union, without, all_in_limits}
use Rattle.model.specs.Rows.{Row, column_value, set_column}
use Rattle.model.specs.Faults.{Judged, is_fine, earlier, check}
use Rattle.model.specs.Written.{Names, insert_fault, delete_fault, operand_fault, written}
use Rattle.model.specs.Conditions.{triple_in, is_integer_base, first_int, id_column}
use Rattle.model.specs.declared.Fault.{Fault}
use Rattle.model.specs.declared.Fault.TheVariants.{Fine, Syntax, Resources, Constraint, Domain, Range}
use Rattle.model.specs.declared.Mutator.{Mutator}
use Rattle.model.specs.declared.Mutator.TheVariants.{Add, Subtract, Multiply, Divide, Remainder, Insert, Delete}

-- the mutator of a word
abbrev pub mutator_named : List ℕ → Option Mutator
mutator_named w =
    if eq_bytes w (ascii "+=") then Some Add
    else if eq_bytes w (ascii "-=") then Some Subtract
    else if eq_bytes w (ascii "*=") then Some Multiply
    else if eq_bytes w (ascii "/=") then Some Divide
    else if eq_bytes w (ascii "%=") then Some Remainder
    else if eq_bytes w (ascii "insert") then Some Insert
    else if eq_bytes w (ascii "delete") then Some Delete
    else None

-- "insert and delete on a scalar, and arithmetic on anything but integers, are a syntax error" (reading 32)
abbrev pub suits : Column → Mutator → Bool
suits c Add = is_integer_base c.base
suits c Subtract = is_integer_base c.base
suits c Multiply = is_integer_base c.base
suits c Divide = is_integer_base c.base
suits c Remainder = is_integer_base c.base
suits c Insert = not (scalar c)
suits c Delete = not (scalar c)

abbrev pub mutation_fault : Column → Mutator → List (List ℕ) → Fault
mutation_fault c Add l = operand_fault l
mutation_fault c Subtract l = operand_fault l
mutation_fault c Multiply l = operand_fault l
mutation_fault c Divide l = operand_fault l
mutation_fault c Remainder l = operand_fault l
mutation_fault c Insert l = insert_fault c l
mutation_fault c Delete l = delete_fault c l

-- a mutation as read
pub record Mutation : Type 0 where
  pub place : ℕ
  pub column : Column
  pub mutator : Mutator
  pub atoms : List (List ℕ)

abbrev pub no_mutation : Judged Mutation
no_mutation = record { fault = Syntax; got = record { place = 0; column = id_column; mutator = Delete; atoms = [] } }

-- "an immutable column named by update or mutate" is a constraint violation
abbrev pub mutation_by : Names → Json → ℕ → Mutator → Column → Judged Mutation
mutation_by names j k m c =
    let w = written names c.base (mutation_fault c m) j in
    if suits c m then record { fault = earlier w.fault (check c.mutable Constraint Fine); got = record { place = k; column = c; mutator = m; atoms = w.got } }
    else no_mutation

abbrev pub mutation_at : Names → List Column → Json → ℕ → Mutator → Judged Mutation
mutation_at names cs j k m = elim (nth cs k) [ None ↦ no_mutation | Some c ↦ mutation_by names j k m c ]

abbrev pub mutation_of : Names → List Column → Json → Option ℕ → Option Mutator → Judged Mutation
mutation_of names cs j None m = no_mutation
mutation_of names cs j (Some k) None = no_mutation
mutation_of names cs j (Some k) (Some m) = mutation_at names cs j k m

abbrev pub read_mutation : Names → List Column → Json → Judged Mutation
read_mutation names cs j = elim (triple_in j) [ None ↦ no_mutation | Some t ↦ mutation_of names cs t.value (column_named cs t.name) (mutator_named t.word) ]

abbrev pub read_mutations : Names → List Column → List Json → Judged (List Mutation)
read_mutations names cs [] = record { fault = Fine; got = [] }
read_mutations names cs (j ∷ js) =
    let m = read_mutation names cs j in
    let ms = read_mutations names cs js in
    record { fault = earlier m.fault ms.fault; got = m.got ∷ ms.got }

-- ── arithmetic over whole numbers with a scale: a number x stands for x / scale. Integers have scale 1 ──
abbrev pub exact : ℤ → Mutator → ℤ → ℤ → ℤ
exact scale Add a b = a +ℤ b
exact scale Subtract a b = a -ℤ b
exact scale Multiply a b = quot_z (a *ℤ b) scale
exact scale Divide a b = quot_z (a *ℤ scale) b
exact scale Remainder a b = rem_z a b
exact scale Insert a b = a
exact scale Delete a b = a

abbrev pub divides : Mutator → Bool
divides Add = false
divides Subtract = false
divides Multiply = false
divides Divide = true
divides Remainder = true
divides Insert = false
divides Delete = false

abbrev pub is_zero : ℤ → Bool
is_zero (pos n) = eqb n 0
is_zero (negsuc n) = false

-- "outside 64 bits"
abbrev pub in64 : ℤ → Bool
in64 z = le_z (negsuc 9223372036854775807) z && le_z z (pos 9223372036854775807)

abbrev pub is_empty : List (List ℕ) → Bool
is_empty [] = true
is_empty (a ∷ l) = false

-- "Arithmetic on a set acts on each element"
abbrev pub results : Mutator → ℤ → List (List ℕ) → List ℤ
results m b [] = []
results m b (a ∷ l) = exact (pos 1) m (int_of a) b ∷ results m b l

-- ── a step: "each step judges domain, range, resources, constraint in that order" ──
-- "Equal results are a constraint violation"
abbrev pub arithmetic : Column → Mutator → ℤ → List (List ℕ) → Judged (List (List ℕ))
arithmetic c m b xs =
    let zs = results m b xs in
    let l = map int_atom zs in
    record {
      fault =
          check (not (divides m && is_zero b && not (is_empty xs))) Domain
          (check (all in64 zs) Range
          (check (distinct l && all_in_limits c l) Constraint Fine));
      got = sorted integer l;
    }

abbrev pub inserted : Column → List (List ℕ) → List (List ℕ) → Judged (List (List ℕ))
inserted c l xs =
    let u = union c.base xs l in
    record {
      fault = check (leb (length u) most_elements) Resources (check (leb (length u) c.max) Constraint Fine);
      got = u;
    }

abbrev pub deleted : Column → List (List ℕ) → List (List ℕ) → Judged (List (List ℕ))
deleted c l xs =
    let w = without l xs in
    record { fault = check (leb c.min (length w)) Constraint Fine; got = w }

abbrev pub mutated : Column → Mutator → List (List ℕ) → List (List ℕ) → Judged (List (List ℕ))
mutated c Add l xs = arithmetic c Add (first_int l) xs
mutated c Subtract l xs = arithmetic c Subtract (first_int l) xs
mutated c Multiply l xs = arithmetic c Multiply (first_int l) xs
mutated c Divide l xs = arithmetic c Divide (first_int l) xs
mutated c Remainder l xs = arithmetic c Remainder (first_int l) xs
mutated c Insert l xs = inserted c l xs
mutated c Delete l xs = deleted c l xs

abbrev pub mutate_once : Mutation → Row → Judged Row
mutate_once m r =
    let w = mutated m.column m.mutator m.atoms (elements (column_value r m.place)) in
    record { fault = w.fault; got = set_column m.place (value_of w.got) r }

-- "mutate goes row by row, ids ascending, mutation by mutation"
abbrev pub steps : List Mutation → Row → Judged Row
steps [] r = record { fault = Fine; got = r }
steps (m ∷ ms) r =
    let q = mutate_once m r in
    elim (is_fine q.fault) [ true ↦ steps ms q.got | false ↦ q ]
