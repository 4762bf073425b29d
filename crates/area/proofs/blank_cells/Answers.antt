-- `area::blank_cells` meets its contract.
use Rattle.std.proofs.Common.{drop, rules, tests, arith, ◌∙◌}
use Rattle.std.proofs.Math.Seq.{take_all}
use Rattle.std.proofs.lemmas.Iterator.{YieldsList-from_slice}
use Rattle.std.proofs.lemmas.Iterator.Search.{all_from_yields_List}
use Rattle.std.proofs.lemmas.List.{length-drop}
use Rattle.model.specs.Value.{zeros}
use Rattle.catalog.proofs.Ids.{all_is}
use Rattle.area.proofs.blank_cells.Goals as goal

pub returns : goal.returns
returns c =
    let rest = drop c.args.at c.args.cells.now in
    let cells = c.iter.ensures.rest ∙ take_all _ rest (omega (arith, length-drop c.args.at c.args.cells.now)) in
    all_from_yields_List {all = rest} zeros _ _ c.all.result c.all.ensures.ran (YieldsList-from_slice _ cells) (λ x b q k. search (rules, tests)) ∙ all_is zeros rest
