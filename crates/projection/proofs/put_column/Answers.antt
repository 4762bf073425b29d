-- `projection::put_column` meets its contract.
use Prim.Native.Nat.{ℕ}
use mathlib.Core.Path.{ap, ◌∙◌}
use mathlib.Core.List.{◌++◌}
use native.Mathlib.Omega.{arith}
use Rattle.json_writer.proofs.Putting.{put_then, put_is}
use Rattle.model.specs.Catalog.{entry_name}
use Rattle.json_writer.specs.Texts.{set_text}
use Rattle.projection.specs.Shown.{name_text}
use Rattle.projection.proofs.Columns.{column_is}
use Rattle.projection.proofs.put_column.Goals as goal

pub returns : goal.returns
returns c =
    let s = c.args in
    put_is
    (put_then c.put_name-r.ensures c.put_value.ensures)
    (ap (λ (k : ℕ). name_text (entry_name s.cell.now) ++ set_text k c.count_of-count.result c.atoms_in-atoms.result.now) c.kind.ensures ∙ column_is s.cell.now s.row.now s.c _ _ c.count_of-count.ensures c.atoms_in-atoms.ensures.0)
    (omega arith)
