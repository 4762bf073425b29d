-- `names::is_version` meets its contract.
use Rattle.std.proofs.Common.{get_or, refl, arith}
use Rattle.std.proofs.lemmas.Grind.{common_steps}
use Rattle.model.specs.SchemaText.{is_version}
use Rattle.names.proofs.Versions.{digit_is, version_digit, version_dot, version_byte, version_spent, version_unseen, version_end}
use Rattle.names.proofs.is_version.Goals as goal

pub loop-b-init : goal.loop-b-init
unfolding is_version
loop-b-init c = refl

pub loop-b-preserved : goal.loop-b-preserved
loop-b-preserved c =
    let l = c.loop-b in
    let t = c.args.t.now in
    grind (arith, common_steps, digit_is (get_or t l.b-index 0), version_digit t l.b-index l.dots l.seen, version_dot t l.b-index l.dots l.seen)

pub returns-else-b-eq46 : goal.returns-else-b-eq46
returns-else-b-eq46 c =
    let l = c.loop-b in
    let t = c.args.t.now in
    grind (arith, common_steps, digit_is (get_or t l.b-index 0), version_byte t l.b-index l.dots l.seen, version_spent t l.b-index l.dots l.seen, version_unseen t l.b-index l.dots l.seen)

pub returns-then-dots-eq0 : goal.returns-then-dots-eq0
returns-then-dots-eq0 c = grind (arith, common_steps, version_end c.args.t.now c.loop-b.b-index c.loop-b.dots c.loop-b.seen)

pub returns-else-dots-eq0 : goal.returns-else-dots-eq0
returns-else-dots-eq0 c = grind (arith, common_steps, version_end c.args.t.now c.loop-b.b-index c.loop-b.dots c.loop-b.seen)
