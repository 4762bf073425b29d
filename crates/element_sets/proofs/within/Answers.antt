-- `element_sets::within` meets its contract.
use mathlib.Core.Path.{sym, ap, ◌∙◌}
use native.Mathlib.Omega.{arith}
use lib.ListN.{get_or}
use lib.IntN.{pos}
use Rattle.model.specs.Text.{chars}
use Rattle.model.specs.Value.{from_twos, in_limits, atom_in_limits}
use Rattle.model.specs.Catalog.{column_from}
use Rattle.atom.proofs.Types.{base_integer, base_text}
use Rattle.element_sets.proofs.Limiting.{unlimited}
use Rattle.element_sets.proofs.within.Goals as goal

pub returns-in-0 : goal.returns-in-0
returns-in-0 c =
    let a = c.args in
    let z = column_from a.column.now in
    c.in_limits.ensures ∙ ap (λ v. in_limits z (from_twos v)) c.number.ensures ∙ ap (λ b. atom_in_limits z b a.cell.now) (sym (base_integer (get_or a.column.now 25 0) (sym c.kind.ensures ∙ c.in-0.is)))

pub returns-in-2 : goal.returns-in-2
returns-in-2 c =
    let a = c.args in
    let z = column_from a.column.now in
    c.count_in_limits.ensures ∙ ap (λ v. in_limits z (pos v)) (c.count_chars-n.ensures ∙ ap chars c.text_of.ensures)
    ∙ ap (λ b. atom_in_limits z b a.cell.now) (sym (base_text (get_or a.column.now 25 0) (sym c.kind.ensures ∙ c.in-2.is)))

pub returns-in_default : goal.returns-in_default
returns-in_default c =
    let a = c.args in
    sym (unlimited (column_from a.column.now) (get_or a.column.now 25 0) a.cell.now (λ q. omega (arith, c.kind.ensures)) (λ q. omega (arith, c.kind.ensures)))
