-- `json_reader::end_at` meets its contract.
use native.Mathlib.Omega.{arith}
use Rattle.json_reader.proofs.Empty.{says_nothing}
use Rattle.json_reader.proofs.end_at.Goals as goal

pub value-requires : goal.value-requires
value-requires c = record { levels_bound = omega arith; says = says_nothing _ 1 }
