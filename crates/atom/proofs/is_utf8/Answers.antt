-- `atom::is_utf8` meets its contract.
use Rattle.std.proofs.Common.{sym, ◌∙◌, rules, tests}
use Rattle.model.specs.Value.{is_utf8}
use Rattle.atom.proofs.Texts.{utf8_on, utf8_plain, utf8_off, utf8_end}
use Rattle.atom.proofs.is_utf8.Goals as goal

pub loop-b-preserved-then-contains : goal.loop-b-preserved-then-contains
loop-b-preserved-then-contains c =
    let l = c.loop-b in
    l.invariant ∙ utf8_plain c.args.t.now l.b-index l.due l.low l.high c.loop-b-test.true c.if-due-eq0.true (search (rules, tests)) (search (rules, tests))

pub returns-then-not-fits : goal.returns-then-not-fits
unfolding is_utf8
returns-then-not-fits c =
    let l = c.loop-b in
    sym (l.invariant ∙ utf8_off c.args.t.now l.b-index l.due l.low l.high c.loop-b-test.true (sym c.fits.ensures ∙ c.if-not-fits.true))

pub loop-b-preserved : goal.loop-b-preserved
loop-b-preserved c =
    let l = c.loop-b in
    rw (c.due_after-due.ensures, c.low_after-low.ensures, c.high_after-high.ensures) (l.invariant ∙ utf8_on c.args.t.now l.b-index l.due l.low l.high c.loop-b-test.true (sym c.fits.ensures ∙ c.if-not-fits.false))

pub returns : goal.returns
unfolding is_utf8
returns c =
    let l = c.loop-b in
    sym (l.invariant ∙ utf8_end c.args.t.now l.b-index l.due l.low l.high c.loop-b-test.false)
