-- `area::each_good` meets its contract.
use Rattle.std.proofs.Common.{take, rules, tests, ◌∙◌}
use Rattle.std.proofs.lemmas.Iterator.{YieldsList-from_slice}
use Rattle.std.proofs.lemmas.Iterator.Search.{all_from_yields_List}
use Rattle.catalog.proofs.Ids.{all_is}
use Rattle.area.specs.Layout.{row_good}
use Rattle.area.proofs.each_good.Goals as goal

pub returns : goal.returns
returns c =
    let rows = take c.args.n c.args.rows.now in
    let good = row_good c.args.schema.now in
    all_from_yields_List {all = rows} good _ _ c.all.result c.all.ensures.ran (YieldsList-from_slice _ (cc)) (λ x b q k. search (rules, tests)) ∙ all_is good rows
