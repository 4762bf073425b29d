-- `catalog::rules::are_blank` meets its contract.
use Rattle.std.proofs.Common.{rules, tests, ◌∙◌}
use Rattle.std.proofs.lemmas.Iterator.{YieldsList-from_slice}
use Rattle.std.proofs.lemmas.Iterator.Search.{all_from_yields_List}
use Rattle.catalog.specs.Judging.{is_blank}
use Rattle.catalog.proofs.Ids.{all_is}
use Rattle.catalog.proofs.rules.are_blank.Goals as goal

pub returns : goal.returns
returns c =
    all_from_yields_List {all = c.args.entries.now} is_blank _ _ _ c.all.ensures.ran (YieldsList-from_slice _ cc) (λ x b q k. search (rules, tests)) ∙ all_is is_blank c.args.entries.now
