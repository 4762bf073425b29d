-- `record::is_nil` meets its contract.
use mathlib.Core.Path.{◌∙◌}
use lib.Dec.{eqb}
use Rattle.std.proofs.Common.{rules, tests}
use Rattle.std.proofs.lemmas.Iterator.{YieldsList-from_slice}
use Rattle.std.proofs.lemmas.Iterator.Search.{all_from_yields_List}
use Rattle.record.proofs.Readings.{all_nil}
use Rattle.record.proofs.is_nil.Goals as goal

pub returns : goal.returns
returns c =
    let id = c.args.id.now in
    all_from_yields_List (λ b. eqb b 0) _ _ c.all.result c.all.ensures.ran (YieldsList-from_slice id (cc)) (λ x b f k. search (rules, tests)) ∙ all_nil id
