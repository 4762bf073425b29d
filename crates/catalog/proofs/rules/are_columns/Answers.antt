-- `catalog::rules::are_columns` meets its contract.
use Rattle.std.proofs.Common.{rules, tests, ◌∙◌}
use Rattle.std.proofs.lemmas.Iterator.{YieldsList-from_slice}
use Rattle.std.proofs.lemmas.Iterator.Search.{all_from_yields_List}
use Rattle.catalog.specs.Judging.{is_column}
use Rattle.catalog.proofs.Ids.{all_is}
use Rattle.catalog.proofs.rules.are_columns.Goals as goal

pub returns : goal.returns
returns c =
    all_from_yields_List {all = c.args.entries.now} (is_column c.args.n) _ _ _ c.all.ensures.ran (YieldsList-from_slice _ cc) (λ x b q k. search (rules, tests)) ∙ all_is (is_column c.args.n) _
