-- `catalog::rules::is_id` meets its contract.
use Rattle.std.proofs.Common.{◌≡◌, ◌≤◌, length, get_or, drop, true, rules, tests, arith, sym, ◌∙◌}
use Rattle.std.proofs.Math.Seq.{take_all}
use Rattle.std.proofs.lemmas.Grind.{common_steps}
use Rattle.std.proofs.lemmas.Iterator.{YieldsList-from_slice}
use Rattle.std.proofs.lemmas.Iterator.Search.{all_from_yields_List}
use Rattle.std.proofs.lemmas.List.{length-drop}
use Rattle.model.specs.SchemaText.{is_letter, is_id_byte}
use Rattle.catalog.proofs.Ids.{all_is, id_none, id_long, id_other, id_rest}
use Rattle.catalog.proofs.rules.is_id.Goals as goal

pub returns-in-empty : goal.returns-in-empty
returns-in-empty c = sym (id_none _ (omega arith))

pub returns-then-is_letter : goal.returns-then-is_letter
returns-then-is_letter c =
    let t = c.args.t.now in
    let rest = c.iter.ensures.rest ∙ take_all _ (drop 1 t) (omega (arith, length-drop 1 t)) in
    let all = all_from_yields_List {all = drop 1 t} is_id_byte _ _ c.all.result c.all.ensures.ran (YieldsList-from_slice _ rest) (λ x b q k. search (rules, tests)) ∙ all_is is_id_byte (drop 1 t) in
    let fits : length t ≤ 24 = grind (arith, common_steps) in
    let letter : is_letter (get_or t 0 0) ≡ true = grind (arith, common_steps) in
    all ∙ sym (id_rest t letter (omega arith) fits)

pub returns-else-is_letter : goal.returns-else-is_letter
returns-else-is_letter c =
    grind (arith, common_steps, id_long c.args.t.now, id_other c.args.t.now)
