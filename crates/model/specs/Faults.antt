-- How an operation or a commit fails, and which failure is told. Assumes nothing: these are definitions.
use Rattle.std.specs.Prelude.{ℕ, Bool, true, false, List, [], ◌∷◌, leb, if◌then◌else◌}
use Rattle.model.specs.Base.{ascii}
use Rattle.model.specs.declared.Fault.{Fault}
use Rattle.model.specs.declared.Fault.TheVariants.{Fine, Syntax, Resources, Duplicate, Constraint, Domain, Range, Aborted, Integrity}

abbrev pub is_fine : Fault → Bool
is_fine Fine = true
is_fine Syntax = false
is_fine Resources = false
is_fine Duplicate = false
is_fine Constraint = false
is_fine Domain = false
is_fine Range = false
is_fine Aborted = false
is_fine Integrity = false

-- "Error checks, in order": the place of each
abbrev pub rank : Fault → ℕ
rank Syntax = 0
rank Resources = 1
rank Duplicate = 2
rank Constraint = 3
rank Domain = 4
rank Range = 5
rank Aborted = 6
rank Integrity = 7
rank Fine = 8

-- of two faults anywhere in an operation the one whose check comes earlier ("the order of error checks is over the whole operation", reading 22)
abbrev pub earlier : Fault → Fault → Fault
earlier f g = if leb (rank f) (rank g) then f else g

abbrev pub worst : List Fault → Fault
worst [] = Fine
worst (f ∷ fs) = earlier f (worst fs)

-- a fault where a test fails, and else what the checks after it say
abbrev pub check : Bool → Fault → Fault → Fault
check true f g = g
check false f g = f

-- something read or made, which counts only where the fault is Fine
pub record Judged (A : Type 0) : Type 0 where
  pub fault : Fault
  pub got : A

-- the words of each (RFC 7047 and document 01)
abbrev pub words : Fault → List ℕ
words Fine = []
words Syntax = ascii "syntax error"
words Resources = ascii "resources exhausted"
words Duplicate = ascii "duplicate uuid-name"
words Constraint = ascii "constraint violation"
words Domain = ascii "domain error"
words Range = ascii "range error"
words Aborted = ascii "aborted"
words Integrity = ascii "referential integrity violation"
