-- `row_types::all_meet` meets its contract.
use Rattle.std.proofs.Common.{get_or, take, rules, tests, ◌∙◌}
use Rattle.std.proofs.lemmas.Iterator.{YieldsList-from_slice}
use Rattle.std.proofs.lemmas.Iterator.Search.{all_from_yields_List}
use Rattle.model.specs.Catalog.{base_numbered, column_from}
use Rattle.model.specs.Value.{atom_in_limits}
use Rattle.row_types.specs.Met.{all_met}
use Rattle.catalog.proofs.Ids.{all_is}
use Rattle.row_types.proofs.all_meet.Goals as goal

pub returns : goal.returns
unfolding all_met
returns c =
    let a = c.args in
    let xs = take a.n a.atoms.now in
    let test = atom_in_limits (column_from a.entry.now) (base_numbered (get_or a.entry.now 25 0)) in
    all_from_yields_List {all = xs} test _ _ c.all.result c.all.ensures.ran (YieldsList-from_slice _ (cc)) (λ x b q k. search (rules, tests)) ∙ all_is test xs
