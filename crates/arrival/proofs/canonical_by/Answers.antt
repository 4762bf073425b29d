-- `arrival::canonical_by` meets its contract.
use mathlib.Core.Path.{sym, ap}
use Rattle.model.specs.Catalog.{column_from, base_numbered}
use Rattle.arrival.proofs.canonical_by.Goals as goal

pub returns : goal.returns
returns c =
    let x = c.args.entry.now in
    c.canonical.ensures (column_from x) (sym (ap base_numbered c.kind.ensures)) (sym c.is_scalar.ensures)
