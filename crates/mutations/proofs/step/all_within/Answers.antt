-- `mutations::step::all_within` meets its contract.
use Rattle.std.proofs.Common.{◌&&◌, ◌∙◌, refl, rules, tests}
use Rattle.std.specs.List.{list_all}
use Rattle.std.proofs.lemmas.Iterator.{YieldsList-from_slice}
use Rattle.std.proofs.lemmas.Iterator.Search.{all_from_yields_List}
use Rattle.std.proofs.lemmas.List.Recursion.{same_from_clauses}
use Rattle.model.specs.Base.{all}
use Rattle.model.specs.Value.{atom_in_limits}
use Rattle.model.specs.Catalog.{column_from}
use Rattle.mutations.proofs.step.all_within.Goals as goal

pub returns : goal.returns
returns c =
    let z = column_from c.args.column.now in
    let l = c.args.l.now in
    all_from_yields_List (atom_in_limits z z.base) _ _ _ c.all.ensures.ran (YieldsList-from_slice l cc) (λ x b q h. search (rules, tests))
    ∙ same_from_clauses (list_all (atom_in_limits z z.base)) (all (atom_in_limits z z.base)) (λ a b. atom_in_limits z z.base a && b) refl (λ _ _. refl) (λ _ _. refl) l
