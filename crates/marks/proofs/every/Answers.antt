-- `marks::every` meets its contract.
use mathlib.Core.Path.{◌∙◌}
use mathlib.Core.Bool.{beq}
use mathlib.Core.List.{List}
use Prim.Native.Nat.{ℕ}
use Rattle.std.proofs.Common.{rules, tests}
use Rattle.std.proofs.lemmas.Iterator.{YieldsList-from_slice}
use Rattle.std.proofs.lemmas.Iterator.Search.{all_from_yields_List}
use Rattle.model.specs.Base.{member}
use Rattle.marks.proofs.Atoms.{every_list}
use Rattle.marks.proofs.every.Goals as goal

pub returns : goal.returns
returns c =
    let a = c.args in
    all_from_yields_List (λ (x : List ℕ). beq (member x a.xs.now) a.stored) _ _ _ c.all.ensures.ran (YieldsList-from_slice a.l.now cc) (λ x b q k. search (rules, tests))
    ∙ every_list a.xs.now a.stored a.l.now
