-- `row_types::rows_meet` meets its contract.
use Rattle.std.proofs.Common.{take, rules, tests, ◌∙◌}
use Rattle.std.proofs.lemmas.Iterator.{YieldsList-from_slice}
use Rattle.std.proofs.lemmas.Iterator.Search.{all_from_yields_List}
use Rattle.row_types.specs.Met.{row_meets, rows_meet}
use Rattle.catalog.proofs.Ids.{all_is}
use Rattle.row_types.proofs.rows_meet.Goals as goal

pub returns : goal.returns
unfolding rows_meet
returns c =
    let a = c.args in
    let xs = take a.n a.rows.now in
    let test = row_meets a.schema.now in
    all_from_yields_List {all = xs} test _ _ c.all.result c.all.ensures.ran (YieldsList-from_slice _ (cc)) (λ x b q k. search (rules, tests)) ∙ all_is test xs
