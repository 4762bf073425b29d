-- `rows::set_cells` meets its contract.
use mathlib.Core.Path.{◌∙◌}
use native.Mathlib.Omega.{arith}
use Rattle.std.proofs.lemmas.Slice.{put_mid-paste}
use Rattle.rows.proofs.Laws.{with_value_lem}
use Rattle.rows.proofs.set_cells.Goals as goal

pub returns : goal.returns
returns c =
    let a = c.args in
    put_mid-paste _ _ _ _ a.atoms.now 4 c.copy_from_slice.ensures.after (omega arith) (omega arith)
    ∙ with_value_lem a.cells.now a.atoms.now a.c a.count c.requires.1 c.requires.2
