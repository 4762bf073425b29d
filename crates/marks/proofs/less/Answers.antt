-- `marks::less` meets its contract.
use mathlib.Core.Path.{◌∙◌}
use lib.Signed.{lt_z}
use Rattle.model.specs.Conditions.{first_int}
use Rattle.marks.proofs.Atoms.{ordered}
use Rattle.marks.proofs.less.Goals as goal

pub returns : goal.returns
returns c =
    let a = c.args in
    c.less.ensures ∙ ordered lt_z c.first_of.result c.first_of-2.result (first_int a.xs.now) (first_int a.ys.now) c.first_of.ensures c.first_of-2.ensures
