-- `mutations::step::results` meets its contract.
use mathlib.Core.Path.{refl, sym, ◌∙◌}
use lib.ListN.{length, take}
use Rattle.model.specs.Catalog.{column_from}
use Rattle.model.specs.Value.{all_in_limits}
use Rattle.integers.specs.Ints.{int_in}
use Rattle.mutations.proofs.Calculating.{results_stop, results_yes, results_no}
use Rattle.mutations.proofs.step.results.Goals as goal
use Rattle.mutations.proofs.step.results.Goals.{else-distinct-via-then-distinct+else-all_within, else-distinct-via-else-distinct}

pub returns-then-not-ok : goal.returns-then-not-ok
returns-then-not-ok c =
    let a = c.args in
    results_stop (column_from a.column.now) a.m (int_in a.b) a.xs.now c.calculate_each-f.result a.out.now c.calculate_each-f.new.out c.calculate_each-f.ensures (sym c.is_fine-ok.ensures ∙ c.if-not-ok.true)

pub returns-then-all_within : goal.returns-then-all_within
returns-then-all_within c =
    let a = c.args in
    results_yes (column_from a.column.now) a.m (int_in a.b) a.xs.now c.calculate_each-f.result a.out.now c.calculate_each-f.new.out c.calculate_each-f.ensures (sym c.is_fine-ok.ensures ∙ c.if-not-ok.false)
    c.distinct.result c.all_within.result c.distinct.ensures c.all_within.ensures (rw c.if-distinct.true c.if-all_within.true)

pub returns : goal.returns
returns c =
    let a = c.args in
    let z = column_from a.column.now in
    let out = c.calculate_each-f.new.out in
    elim c.else-distinct.branch [
      | else-distinct-via-then-distinct+else-all_within w ↦ results_no z a.m (int_in a.b) a.xs.now c.calculate_each-f.result a.out.now out c.calculate_each-f.ensures (sym c.is_fine-ok.ensures ∙ c.if-not-ok.false)
          c.distinct.result w.all_within.result c.distinct.ensures w.all_within.ensures (rw w.if-distinct.true w.if-all_within.false)
      | else-distinct-via-else-distinct w ↦ results_no z a.m (int_in a.b) a.xs.now c.calculate_each-f.result a.out.now out c.calculate_each-f.ensures (sym c.is_fine-ok.ensures ∙ c.if-not-ok.false)
          c.distinct.result (all_in_limits z (take (length a.xs.now) out)) c.distinct.ensures refl (rw w.if-distinct.false refl)
    ]
