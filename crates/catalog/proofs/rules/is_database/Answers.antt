-- `catalog::rules::is_database` meets its contract.
use Rattle.std.proofs.Common.{drop, arith, ap, ◌∙◌}
use Rattle.std.proofs.Math.Seq.{take_all}
use Rattle.std.proofs.lemmas.Grind.{common_steps}
use Rattle.std.proofs.lemmas.List.{length-drop}
use Rattle.model.specs.Base.{all}
use Rattle.catalog.specs.Judging.{is_zero, database_test}
use Rattle.catalog.proofs.Heads.{database_is}
use Rattle.catalog.proofs.rules.is_database.Goals as goal

pub returns-then-entry : goal.returns-then-entry
unfolding database_test
returns-then-entry c =
    let e = c.args.entry.now in
    let z = c.is_clear.ensures ∙ ap (all is_zero) (take_all 22 (drop 26 e) (omega (arith, length-drop 26 e))) in
    rw (← database_is e c.told-entry, z) (grind (arith, common_steps))

pub returns-else-entry : goal.returns-else-entry
unfolding database_test
returns-else-entry c =
    rw (← database_is c.args.entry.now c.told-entry) (grind (arith, common_steps))
