-- `marks::compare` meets its contract.
use mathlib.Core.Path.{sym, ap, ◌∙◌}
use mathlib.Core.Bool.{not}
use Rattle.marks.specs.Marks.{met}
use Rattle.marks.proofs.compare.Goals as goal

pub returns-in-Less : goal.returns-in-Less
unfolding met
returns-in-Less c =
    let a = c.args in
    c.less.ensures ∙ ap (λ f. met f a.xs.now a.l.now) (sym c.in-Less.is)

pub returns-in-AtMost : goal.returns-in-AtMost
unfolding met
returns-in-AtMost c =
    let a = c.args in
    c.at_most.ensures ∙ ap (λ f. met f a.xs.now a.l.now) (sym c.in-AtMost.is)

pub returns-in-Equal : goal.returns-in-Equal
unfolding met
returns-in-Equal c =
    let a = c.args in
    c.equal.ensures ∙ ap (λ f. met f a.xs.now a.l.now) (sym c.in-Equal.is)

pub returns-in-Unequal : goal.returns-in-Unequal
unfolding met
returns-in-Unequal c =
    let a = c.args in
    ap not c.equal-in-Unequal.ensures ∙ ap (λ f. met f a.xs.now a.l.now) (sym c.in-Unequal.is)

pub returns-in-AtLeast : goal.returns-in-AtLeast
unfolding met
returns-in-AtLeast c =
    let a = c.args in
    c.at_most-in-AtLeast.ensures ∙ ap (λ f. met f a.xs.now a.l.now) (sym c.in-AtLeast.is)

pub returns-in-Greater : goal.returns-in-Greater
unfolding met
returns-in-Greater c =
    let a = c.args in
    c.less-in-Greater.ensures ∙ ap (λ f. met f a.xs.now a.l.now) (sym c.in-Greater.is)

pub returns-in-Includes : goal.returns-in-Includes
unfolding met
returns-in-Includes c =
    let a = c.args in
    c.every.ensures ∙ ap (λ f. met f a.xs.now a.l.now) (sym c.in-Includes.is)

pub returns-in-Excludes : goal.returns-in-Excludes
unfolding met
returns-in-Excludes c =
    let a = c.args in
    c.every-in-Excludes.ensures ∙ ap (λ f. met f a.xs.now a.l.now) (sym c.in-Excludes.is)
