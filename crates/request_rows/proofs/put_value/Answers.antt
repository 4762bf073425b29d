-- `request_rows::put_value` meets its contract.
use mathlib.Core.Path.{◌≡◌, refl}
use native.Mathlib.Omega.{arith}
use lib.ListN.{length}
use Rattle.model.specs.Value.{Value}
use Rattle.request_rows.proofs.Cells.{column_put, puts_there, puts_not}
use Rattle.request_rows.proofs.put_value.Goals as goal

pub returns-then-v : goal.returns-then-v
returns-then-v c =
    let a = c.args in
    let v : Value = record { count = a.v.count; atoms = a.atoms.now } in
    let l : length a.row.now ≡ 25 = omega arith in
    let f : length a.atoms.now ≡ 4 = omega arith in
    puts_there a.c v a.row.now c.set_column.new.row c.if-v.true (column_put a.row.now a.c v c.requires.c_lt_most_columns l c.key_of-key.ensures.head f c.set_column.ensures)

pub returns-else-v : goal.returns-else-v
returns-else-v c =
    let a = c.args in
    puts_not a.c (record { count = a.v.count; atoms = a.atoms.now }) a.row.now a.row.now c.if-v.false refl
