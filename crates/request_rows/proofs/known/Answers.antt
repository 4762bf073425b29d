-- `request_rows::known` meets its contract.
use mathlib.Core.List.{map}
use Rattle.model.specs.Catalog.{column_from}
use Rattle.nav.proofs.Walk.{pass_less}
use Rattle.request_rows.proofs.Faults.{knows_start, knows_on, knows_not, knows_end}
use Rattle.request_rows.proofs.known.Goals as goal

pub loop-g-init : goal.loop-g-init
loop-g-init c =
    knows_start c.args.text.now (map column_from c.args.columns.now) c.args.at c.requires.at_value c.first-g.ensures

pub returns-in_default-c : goal.returns-in_default-c
returns-in_default-c c =
    let a = c.args in
    let cs = map column_from a.columns.now in
    knows_not a.text.now cs c.loop-g.invariant c.in-Some.is c.column_at-c.ensures c.in_default-c.is

pub loop-g-smaller : goal.loop-g-smaller
loop-g-smaller c = rw c.next_member-g.ensures (pass_less c.args.text.now c.in-Some.is)

pub loop-g-preserved : goal.loop-g-preserved
loop-g-preserved c =
    let a = c.args in
    let cs = map column_from a.columns.now in
    knows_on a.text.now cs c.loop-g.invariant c.in-Some.is c.column_at-c.ensures c.in-Some-c.is c.next_member-g.ensures

pub returns : goal.returns
returns c =
    let a = c.args in
    let cs = map column_from a.columns.now in
    knows_end a.text.now cs c.loop-g.invariant c.in_default.is
