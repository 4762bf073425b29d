-- `area::canonical_column` meets its contract.
use mathlib.Core.Path.{sym, ap, ◌∙◌}
use Rattle.model.specs.Catalog.{base_numbered, column_from}
use Rattle.model.specs.Value.{canonical_for}
use Rattle.area.proofs.canonical_column.Goals as goal

pub returns : goal.returns
returns c =
    let a = c.args in
    let p = c.count_of.ensures in
    let q = c.atoms_in.ensures.0 in
    c.canonical.ensures (column_from a.cell.now) (ap base_numbered (sym c.kind.ensures)) (sym c.is_scalar.ensures) ∙ (λ j. canonical_for (column_from a.cell.now) (record { count = p j; atoms = q j }))
