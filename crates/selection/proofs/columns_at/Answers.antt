-- `selection::columns_at` meets its contract.
use mathlib.Core.Path.{ap, ◌∙◌}
use Rattle.model.specs.Nav.{is_array}
use Rattle.selection.proofs.Names.{columns_none, columns_array, columns_other}
use Rattle.selection.proofs.columns_at.Goals as goal

pub returns-then-p-eq0 : goal.returns-then-p-eq0
returns-then-p-eq0 c =
    let a = c.args in
    columns_none a.text.now a.columns.now c.if-p-eq0.true c.requires.columns_len_bound

pub returns-then-a : goal.returns-then-a
returns-then-a c =
    let a = c.args in
    columns_array a.text.now a.columns.now c.if-p-eq0.false (c.is_kind-a.ensures ∙ ap is_array c.kind_at-k.ensures) c.requires.p_value c.if-a.true c.first-f.ensures c.names_at.ensures

pub returns : goal.returns
returns c =
    let a = c.args in
    columns_other a.text.now a.columns.now c.if-p-eq0.false (c.is_kind-a.ensures ∙ ap is_array c.kind_at-k.ensures) c.if-a.false
