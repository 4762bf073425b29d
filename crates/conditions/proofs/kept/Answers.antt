-- `conditions::kept` meets its contract.
use mathlib.Core.Path.{sym, ap, ◌∙◌}
use mathlib.Core.Logic.{⊎_elim}
use Rattle.model.specs.Catalog.{base_numbered}
use Rattle.marks.specs.Marks.{kept_as}
use Rattle.conditions.specs.Tests.{KeptAs}
use Rattle.conditions.proofs.Beyond.{kept_plain, kept_sorted, kept_other}
use Rattle.conditions.proofs.kept.Goals as goal

pub returns-in-Equal : goal.returns-in-Equal
unfolding KeptAs kept_as
returns-in-Equal c =
    let a = c.args in
    let k = base_numbered a.kind in
    λ l m e. kept_sorted a.n l m k e c.sort.ensures ∙ ⊎_elim (λ w. ap (λ f. kept_as f k l) (sym w)) (λ w. ap (λ f. kept_as f k l) (sym w)) c.in-Equal.is

pub returns-in_default : goal.returns-in_default
unfolding KeptAs
returns-in_default c =
    let a = c.args in
    λ l m e. kept_plain a.n l m e ∙ kept_other a.f (base_numbered a.kind) l c.in_default.not-Equal c.in_default.not-Unequal
