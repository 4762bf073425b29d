-- `rows::set_column` meets its contract.
use mathlib.Core.Path.{◌≡◌, ap, ◌∙◌}
use mathlib.Core.List.{[]}
use native.Mathlib.Omega.{arith}
use lib.ListN.{length, get_or}
use Rattle.model.specs.Areas.{row_from}
use Rattle.model.specs.Value.{Value}
use Rattle.inner.proofs.Columns.{row_set, tidy_column}
use Rattle.rows.proofs.set_column.Goals as goal

pub returns : goal.returns
returns c =
    let a = c.args in
    let e = c.set_cells.ensures in
    let v : Value = record { count = a.count; atoms = a.atoms.now } in
    let l : length a.row.now ≡ 25 = omega arith in
    let h : length (get_or a.row.now 0 []) ≡ 25 = omega arith in
    let f : length a.atoms.now ≡ 4 = omega arith in
    record {
      cells = e;
      row = λ s. ap (row_from s) e ∙ row_set s a.row.now a.c v (omega arith) l h f;
      tidy = λ s g n t. rw e (tidy_column s a.row.now a.c v (omega arith) l h f g n t);
    }
