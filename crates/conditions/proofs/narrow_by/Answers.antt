-- `conditions::narrow_by` meets its contract.
use Rattle.std.specs.Prelude.{Some}
use mathlib.Core.Path.{sym, ap, ◌∙◌}
use mathlib.Core.List.{map}
use native.Mathlib.Omega.{arith}
use Rattle.inner.specs.Positions.{tree_at}
use Rattle.model.specs.Catalog.{base_numbered, column_from}
use Rattle.uuids.specs.Named.{names_at}
use Rattle.marks.specs.Marks.{InRow}
use Rattle.conditions.specs.Tests.{test_as}
use Rattle.conditions.proofs.Faulty.{test_triple, test_other, value_well, function_none, column_place_lem, subject_none}
use Rattle.conditions.proofs.Narrowing.{narrowed_none, narrowed_column, narrowed_id}
use Rattle.conditions.proofs.narrow_by.Goals as goal

pub returns-in_default : goal.returns-in_default
returns-in_default c =
    let a = c.args in
    narrowed_none _ _ _ (test_other a.text.now a.names.now a.columns.now a.at c.triple_at-t.ensures c.in_default.is)

pub returns-in_default-w : goal.returns-in_default-w
returns-in_default-w c =
    let a = c.args in
    let names = names_at a.text.now a.names.now in
    narrowed_none _ _ _ (test_triple a.text.now a.names.now a.columns.now a.at c.triple_at-t.ensures c.in-Some.is ∙ function_none names a.columns.now _ _ (c.function_at-w.ensures ∙ c.in_default-w.is))

pub offset_bounds-columns-i : goal.offset_bounds-columns-i
offset_bounds-columns-i c =
    let a = c.args in
    let names = names_at a.text.now a.names.now in
    let x = tree_at a.text.now c.in-Some.a in
    let v = tree_at a.text.now c.in-Some.v in
    let f = c.in-Some-w.f in
    let h = column_place_lem names a.columns.now x v f c.subject_at-n.ensures (c.in-Some-n.is ∙ ap Some c.in-Column.is) in
    omega (arith, h, c.well_formed)

pub bounds-columns-i : goal.bounds-columns-i
bounds-columns-i c =
    let a = c.args in
    let names = names_at a.text.now a.names.now in
    let x = tree_at a.text.now c.in-Some.a in
    let v = tree_at a.text.now c.in-Some.v in
    let f = c.in-Some-w.f in
    let h = column_place_lem names a.columns.now x v f c.subject_at-n.ensures (c.in-Some-n.is ∙ ap Some c.in-Column.is) in
    h

pub offset_bounds-columns-i-in-Column : goal.offset_bounds-columns-i-in-Column
offset_bounds-columns-i-in-Column c =
    let a = c.args in
    let names = names_at a.text.now a.names.now in
    let x = tree_at a.text.now c.in-Some.a in
    let v = tree_at a.text.now c.in-Some.v in
    let f = c.in-Some-w.f in
    let h = column_place_lem names a.columns.now x v f c.subject_at-n.ensures (c.in-Some-n.is ∙ ap Some c.in-Column.is) in
    omega (arith, h, c.well_formed)

pub bounds-columns-i-in-Column : goal.bounds-columns-i-in-Column
bounds-columns-i-in-Column c =
    let a = c.args in
    let names = names_at a.text.now a.names.now in
    let x = tree_at a.text.now c.in-Some.a in
    let v = tree_at a.text.now c.in-Some.v in
    let f = c.in-Some-w.f in
    let h = column_place_lem names a.columns.now x v f c.subject_at-n.ensures (c.in-Some-n.is ∙ ap Some c.in-Column.is) in
    h

pub narrow_value-requires : goal.narrow_value-requires
unfolding InRow
narrow_value-requires c =
    let a = c.args in
    let names = names_at a.text.now a.names.now in
    let x = tree_at a.text.now c.in-Some.a in
    let v = tree_at a.text.now c.in-Some.v in
    let f = c.in-Some-w.f in
    let h = column_place_lem names a.columns.now x v f c.subject_at-n.ensures (c.in-Some-n.is ∙ ap Some c.in-Column.is) in
    record { running = c.requires.running; at_value = value_well a.text.now a.names.now a.columns.now a.at c.triple_at-t.ensures c.in-Some.is; in_row = (omega (arith, h, c.requires.columns_len_bound.0), c.requires.columns_len_bound.1); kind_value = ap base_numbered c.kind-kind.ensures }

pub narrow_value-requires-in-Id : goal.narrow_value-requires-in-Id
unfolding InRow base_numbered
narrow_value-requires-in-Id c =
    let a = c.args in
    let names = names_at a.text.now a.names.now in
    let x = tree_at a.text.now c.in-Some.a in
    let v = tree_at a.text.now c.in-Some.v in
    let f = c.in-Some-w.f in
    record { running = c.requires.running; at_value = value_well a.text.now a.names.now a.columns.now a.at c.triple_at-t.ensures c.in-Some.is; in_row = (tt, c.requires.columns_len_bound.1); kind_value = sym (ap (λ z. z.base) c.id_column-cell.ensures) }

pub returns-in-Column : goal.returns-in-Column
returns-in-Column c =
    let a = c.args in
    let names = names_at a.text.now a.names.now in
    let x = tree_at a.text.now c.in-Some.a in
    let v = tree_at a.text.now c.in-Some.v in
    let f = c.in-Some-w.f in
    let e = test_triple a.text.now a.names.now a.columns.now a.at c.triple_at-t.ensures c.in-Some.is ∙ ap (λ o. test_as names (map column_from a.columns.now) x o v) (c.function_at-w.ensures ∙ c.in-Some-w.is) in
    narrowed_column names a.columns.now x v f e c.subject_at-n.ensures (c.in-Some-n.is ∙ ap Some c.in-Column.is) c.narrow_value.ensures

pub returns-in-Id : goal.returns-in-Id
returns-in-Id c =
    let a = c.args in
    let names = names_at a.text.now a.names.now in
    let x = tree_at a.text.now c.in-Some.a in
    let v = tree_at a.text.now c.in-Some.v in
    let f = c.in-Some-w.f in
    let e = test_triple a.text.now a.names.now a.columns.now a.at c.triple_at-t.ensures c.in-Some.is ∙ ap (λ o. test_as names (map column_from a.columns.now) x o v) (c.function_at-w.ensures ∙ c.in-Some-w.is) in
    narrowed_id names a.columns.now x v f e c.subject_at-n.ensures (c.in-Some-n.is ∙ ap Some c.in-Id.is) c.id_column-cell.ensures c.narrow_value-in-Id.ensures

pub returns-in_default-n : goal.returns-in_default-n
returns-in_default-n c =
    let a = c.args in
    let names = names_at a.text.now a.names.now in
    let x = tree_at a.text.now c.in-Some.a in
    let v = tree_at a.text.now c.in-Some.v in
    let f = c.in-Some-w.f in
    let e = test_triple a.text.now a.names.now a.columns.now a.at c.triple_at-t.ensures c.in-Some.is ∙ ap (λ o. test_as names (map column_from a.columns.now) x o v) (c.function_at-w.ensures ∙ c.in-Some-w.is) in
    narrowed_none _ _ _ (e ∙ subject_none names a.columns.now x v f c.subject_at-n.ensures c.in_default-n.is)
