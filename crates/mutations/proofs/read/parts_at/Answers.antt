-- `mutations::read::parts_at` meets its contract.
use mathlib.Core.Path.{ap, ◌∙◌}
use Rattle.mutations.proofs.Faulty.{parts_other, parts_column, parts_mutator, parts_all}
use Rattle.mutations.proofs.read.parts_at.Goals as goal

pub returns-in_default : goal.returns-in_default
returns-in_default c =
    let a = c.args in
    parts_other a.text.now a.columns.now a.at c.triple_at-t.ensures c.in_default.is

pub returns-in_default-f : goal.returns-in_default-f
returns-in_default-f c =
    let a = c.args in
    parts_column a.text.now a.columns.now a.at c.triple_at-t.ensures c.in-Some.is c.column_at-f.ensures c.in_default-f.is

pub returns-in-Some-c : goal.returns-in-Some-c
returns-in-Some-c c =
    let a = c.args in
    parts_all a.text.now a.columns.now a.at c.triple_at-t.ensures c.in-Some.is c.column_at-f.ensures c.in-Some-f.is (c.mutator_at-c.ensures ∙ c.in-Some-c.is)

pub returns-in-None : goal.returns-in-None
returns-in-None c =
    let a = c.args in
    parts_mutator a.text.now a.columns.now a.at c.triple_at-t.ensures c.in-Some.is (c.mutator_at-c.ensures ∙ c.in-None.is)
