-- `conditions::narrow_value` meets its contract.
use mathlib.Core.Path.{sym, ◌∙◌}
use Rattle.inner.specs.Positions.{tree_at}
use Rattle.model.specs.Catalog.{base_numbered, column_from}
use Rattle.uuids.specs.Named.{names_at}
use Rattle.conditions.proofs.Narrowing.{narrowed_not, narrowed_fault, narrowed_fit, beyond, narrowed_beyond}
use Rattle.conditions.proofs.narrow_value.Goals as goal

pub returns-then-not-ok : goal.returns-then-not-ok
returns-then-not-ok c =
    let a = c.args in
    let n = names_at a.text.now a.names.now in
    let col = column_from a.column.now in
    let j = tree_at a.text.now a.at in
    narrowed_not n col a.test.place a.test.function j a.rows.now a.marks.now (sym c.is_allowed-ok.ensures ∙ c.if-not-ok.true)

pub narrow_beyond-requires : goal.narrow_beyond-requires
narrow_beyond-requires c =
    let a = c.args in
    let n = names_at a.text.now a.names.now in
    let col = column_from a.column.now in
    let j = tree_at a.text.now a.at in
    let ok = sym c.is_allowed-ok.ensures ∙ c.if-not-ok.false in
    record { running = c.requires.running; at_value = c.requires.at_value; in_row = c.requires.in_row; beyond = beyond n col a.test.place a.test.function j a.rows.now a.marks.now ok c.test_value-g.ensures (sym c.is_fine-fine.ensures ∙ c.if-fine.true) (base_numbered a.test.kind) c.requires.kind_value c.if-g.false }

pub returns-then-g : goal.returns-then-g
returns-then-g c =
    let a = c.args in
    let n = names_at a.text.now a.names.now in
    let col = column_from a.column.now in
    let j = tree_at a.text.now a.at in
    let ok = sym c.is_allowed-ok.ensures ∙ c.if-not-ok.false in
    narrowed_fit n col a.test.place a.test.function j a.rows.now a.marks.now ok c.test_value-g.ensures (sym c.is_fine-fine.ensures ∙ c.if-fine.true) (base_numbered a.test.kind) c.requires.kind_value c.kept-l.result c.kept-l.ensures c.if-g.true c.narrow.ensures

pub returns-else-g : goal.returns-else-g
returns-else-g c =
    let a = c.args in
    let n = names_at a.text.now a.names.now in
    let col = column_from a.column.now in
    let j = tree_at a.text.now a.at in
    let ok = sym c.is_allowed-ok.ensures ∙ c.if-not-ok.false in
    narrowed_beyond n col a.test.place a.test.function j a.rows.now a.marks.now ok c.test_value-g.ensures (sym c.is_fine-fine.ensures ∙ c.if-fine.true) (base_numbered a.test.kind) c.requires.kind_value c.if-g.false c.narrow_beyond.ensures

pub returns-else-fine : goal.returns-else-fine
returns-else-fine c =
    let a = c.args in
    let n = names_at a.text.now a.names.now in
    let col = column_from a.column.now in
    let j = tree_at a.text.now a.at in
    let ok = sym c.is_allowed-ok.ensures ∙ c.if-not-ok.false in
    narrowed_fault n col a.test.place a.test.function j a.rows.now a.marks.now ok c.test_value-g.ensures (sym c.is_fine-fine.ensures ∙ c.if-fine.false)
