-- Integers as a sign and a magnitude, and arithmetic on them. Assumes nothing: these are definitions.
use Rattle.std.specs.Prelude.{ℕ, suc, Bool, true, false, not, ◌&&◌, ℤ, pos, negsuc, neg_ℤ}
use Rattle.model.specs.Mutations.{exact, divides, is_zero, in64}
use Rattle.model.specs.declared.Mutator.{Mutator}
use Rattle.integers.specs.declared.Int.{Int}
use Rattle.integers.specs.declared.Exact.{Exact}
use Rattle.integers.specs.declared.Exact.TheVariants.{Number, ByZero, Outside}

-- the integer of a sign and a magnitude
unfoldable pub signed : Bool → ℕ → ℤ
signed false n = pos n
signed true n = neg_ℤ (pos n)

-- the integer that an Int stands for
abbrev pub int_in : Int → ℤ
int_in i = signed i.minus i.size

-- the Int that stands for an integer, 0 without a sign
unfoldable pub as_int : ℤ → Int
as_int (pos n) = record { minus = false; size = n }
as_int (negsuc n) = record { minus = true; size = suc n }

-- signs that differ
unfoldable pub differ : Bool → Bool → Bool
differ true b = not b
differ false b = b

-- a result, or that it is outside 64 bits
unfoldable pub fitted : ℤ → Exact
fitted z = elim (in64 z) [ true ↦ Number (as_int z) | false ↦ Outside ]

-- the result of a mutator on x with the operand y: "division by zero" is told before "outside 64 bits"
unfoldable pub calculated : Mutator → ℤ → ℤ → Exact
calculated m x y = elim (divides m && is_zero y) [ true ↦ ByZero | false ↦ fitted (exact (pos 1) m x y) ]
