-- `text::find` meets its contract.
use mathlib.Core.Path.{sym, ◌∙◌}
use mathlib.Core.Logic.{⊎_elim}
use Rattle.nav.proofs.Walk.{pass_less}
use Rattle.text.proofs.Last.{sofar_start, sofar_named, sofar_other, sofar_end}
use Rattle.text.proofs.find.Goals as goal

pub loop-g-init : goal.loop-g-init
loop-g-init c =
    sofar_start c.args.text.now c.args.word.now c.args.at c.requires.at_value c.first-g.ensures

pub member_value-v-requires : goal.member_value-v-requires
member_value-v-requires c = c.requires.says

pub next_member-g-requires : goal.next_member-g-requires
next_member-g-requires c = c.requires.says

pub loop-g-smaller : goal.loop-g-smaller
loop-g-smaller c =
    rw c.next_member-g.ensures (pass_less c.args.text.now c.in-Some.is)

pub loop-g-preserved : goal.loop-g-preserved
loop-g-preserved c =
    let a = c.args in
    ⊎_elim
    (λ w. sofar_named a.text.now a.word.now c.loop-g.invariant c.in-Some.is (sym c.is_word-same.ensures ∙ w.if-same.true) w.member_value-v.ensures w.last-is c.next_member-g.ensures)
    (λ w. sofar_other a.text.now a.word.now c.loop-g.invariant c.in-Some.is (sym c.is_word-same.ensures ∙ w.if-same.false) w.last-is c.next_member-g.ensures)
    c.if-same.branch-raw

pub returns : goal.returns
returns c =
    let a = c.args in
    sofar_end a.text.now a.word.now c.loop-g.invariant c.in_default.is
