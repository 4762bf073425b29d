-- `request_values::row_value` meets its contract.
use Prim.Native.Nat.{ℕ}
use mathlib.Core.Path.{subst}
use mathlib.Core.Bool.{◌&&◌}
use lib.Dec.{leb}
use Rattle.inner.specs.Positions.{tree_at}
use Rattle.model.specs.Catalog.{base_numbered, column_from}
use Rattle.model.specs.Written.{row_fault}
use Rattle.model.proofs.Tests.{clash}
use Rattle.uuids.specs.Named.{names_at}
use Rattle.request_values.specs.Values.{Sorts}
use Rattle.request_values.proofs.Judging.{first_is, row_is}
use Rattle.request_values.proofs.Fits.{row_given}
use Rattle.request_values.proofs.row_value.Goals as goal

pub returns-then-fits : goal.returns-then-fits
returns-then-fits c =
    let a = c.args in
    let n = names_at a.text.now a.names.now in
    let z = column_from a.column.now in
    let j = tree_at a.text.now a.at in
    let w = c.inspect-w.ensures in
    let x = c.inspect-w.result in
    let v = first_is n z.base (row_fault z) j (leb x.count 4 && x.short) ((x.different && x.within) && (leb c.least-min.result x.count && leb x.count c.most-max.result)) x.typed c.first_fault-v.ensures w.typed (row_is n z j w c.least-min.ensures c.most-max.ensures) in
    row_given n z j w v (λ _. subst (λ (k : ℕ). Sorts (base_numbered k) x.count c.inspect-w.new.atoms c.sort_atoms.new.atoms) c.kind-kind.ensures c.sort_atoms.ensures)

pub returns-else-fits : goal.returns-else-fits
returns-else-fits c =
    let a = c.args in
    let n = names_at a.text.now a.names.now in
    let z = column_from a.column.now in
    let j = tree_at a.text.now a.at in
    let w = c.inspect-w.ensures in
    let x = c.inspect-w.result in
    let v = first_is n z.base (row_fault z) j (leb x.count 4 && x.short) ((x.different && x.within) && (leb c.least-min.result x.count && leb x.count c.most-max.result)) x.typed c.first_fault-v.ensures w.typed (row_is n z j w c.least-min.ensures c.most-max.ensures) in
    row_given n z j w v (λ h. absurd (clash (leb x.count 4 && x.short) h c.if-fits.false))
