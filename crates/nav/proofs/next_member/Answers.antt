-- `nav::next_member` meets its contract.
use mathlib.Core.Path.{ap, ◌∙◌}
use mathlib.Core.Logic.{⊎_elim}
use lib.Dec.{eqb}
use borrow.Author.Tests.{eqb-false}
use Rattle.inner.specs.Positions.{next_member, found_of}
use Rattle.model.specs.Json.{after_item}
use Rattle.model.proofs.Tests.{or_l, or_r}
use Rattle.nav.proofs.Known.{next_is, member_known}
use Rattle.nav.proofs.next_member.Goals as goal

pub returns-then-v-e : goal.returns-then-v-e
unfolding next_member
returns-then-v-e c =
    let s = c.args.text.now in
    c.found.ensures ∙ ap found_of (c.after.ensures ∙ ap (after_item s 125) c.member_end-r.ensures)

pub returns : goal.returns
unfolding next_member
returns c =
    let begun = eqb-false _ _ (or_l (eqb c.value_known-v.result 0) (eqb c.entry-e.result 0) c.if-v-e.false) in
    let ended = eqb-false _ _ (or_r (eqb c.value_known-v.result 0) (eqb c.entry-e.result 0) c.if-v-e.false) in
    c.next_after.ensures
    ∙ next_is c.args.text.now 125
    (⊎_elim (λ z. absurd (begun z)) (λ k. member_known c.args.text.now c.args.ends.now c.requires c.args.at k c.entry-e.ensures ended) c.value_known-v.ensures)
