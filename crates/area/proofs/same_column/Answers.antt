-- `area::same_column` meets its contract.
use mathlib.Core.Path.{sym, ap, ◌∙◌}
use Rattle.model.specs.Base.{eq_lists}
use Rattle.model.specs.Value.{Value}
use Rattle.inner.specs.Working.{value_in}
use Rattle.rows.proofs.Laws.{value_no, value_yes}
use Rattle.area.specs.Layout.{row_at}
use Rattle.area.proofs.Copies.{value_at_lem}
use Rattle.area.proofs.same_column.Goals as goal

pub returns-then-area-at : goal.returns-then-area-at
returns-then-area-at c =
    let a = c.args in
    let v = value_at_lem a.area.now a.i a.c c.requires.2 in
    sym (value_no (value_in a.c (row_at a.area.now a.i)) (value_in a.c a.row.now)
    (λ q. c.if-area-at.true (sym (ap (λ (x : Value). x.count) v) ∙ q ∙ sym c.count_of.ensures)))

pub returns : goal.returns
returns c =
    let a = c.args in
    let v = value_at_lem a.area.now a.i a.c c.requires.2 in
    let e = ap (λ (x : Value). x.count) v ∙ c.if-area-at.false ∙ c.count_of.ensures in
    let p = c.atoms_at-atoms.ensures ∙ sym (ap (λ (x : Value). x.atoms) v) in
    let q = c.atoms_in.ensures.0 in
    c.equal.ensures ∙ (λ j. eq_lists (p j) (q j)) ∙ sym (value_yes (value_in a.c (row_at a.area.now a.i)) (value_in a.c a.row.now) e)
