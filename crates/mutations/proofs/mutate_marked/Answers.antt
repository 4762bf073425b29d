-- `mutations::mutate_marked` meets its contract.
use mathlib.Core.Path.{sym, ◌∙◌}
use mathlib.Core.List.{map}
use mathlib.Core.Logic.{⊎_elim}
use native.Mathlib.Omega.{arith}
use Rattle.model.specs.Catalog.{column_from}
use Rattle.mutations.specs.Mutating.{mutation_from}
use Rattle.mutations.proofs.Rowwise.{stepped_by, stepped_on, marked_stop, marked_end}
use Rattle.mutations.proofs.mutate_marked.Goals as goal

pub returns-then-not-ok : goal.returns-then-not-ok
returns-then-not-ok c =
    let a = c.args in
    marked_stop (map column_from a.columns.now) (mutation_from a.text.now a.names.now a.columns.now a.m a.atoms.now) a.marks.now a.rows.now c.loop-i.invariant c.if-marks-i.true c.mutate_row-f.ensures
    c.loop-i-test.true (sym c.is_fine-ok.ensures ∙ c.if-not-ok.true)

pub loop-i-preserved : goal.loop-i-preserved
loop-i-preserved c =
    let a = c.args in
    let z = map column_from a.columns.now in
    let p = mutation_from a.text.now a.names.now a.columns.now a.m a.atoms.now in
    let h = c.loop-i-test.true in
    ⊎_elim
    (λ w. rw w.rows-is (stepped_on z p a.marks.now a.rows.now c.loop-i.invariant w.if-marks-i.true w.mutate_row-f.ensures (omega (arith, h, c.requires.marks_len_bound.1, c.loop-i.invariant.size)) (sym w.is_fine-ok.ensures ∙ w.if-not-ok.false)))
    (λ w. rw w.rows-is (stepped_by z p a.marks.now a.rows.now c.loop-i.invariant w.if-marks-i.false))
    c.if-marks-i.branch-raw

pub returns : goal.returns
returns c =
    let a = c.args in
    marked_end (map column_from a.columns.now) (mutation_from a.text.now a.names.now a.columns.now a.m a.atoms.now) a.marks.now a.rows.now c.loop-i.invariant (omega arith)
