-- `selection::names_at` meets its contract.
use Rattle.nav.proofs.Walk.{walk_less}
use Rattle.selection.proofs.Names.{naming_none, naming_on, naming_not, naming_end}
use Rattle.selection.proofs.names_at.Goals as goal

pub loop-g-init : goal.loop-g-init
loop-g-init c =
    let a = c.args in
    naming_none a.text.now a.columns.now c.requires.columns_len_bound a.f

pub is_fair-ok-requires : goal.is_fair-ok-requires
is_fair-ok-requires c = c.requires.columns_len_bound

pub returns-then-not-ok : goal.returns-then-not-ok
returns-then-not-ok c =
    let a = c.args in
    naming_not a.text.now a.columns.now c.loop-g.invariant c.in-Some.is (c.is_fair-ok.ensures c.loop-g.invariant.show c.loop-g.invariant.flagged) (c.if-not-ok.true)

pub with_name-more-requires : goal.with_name-more-requires
with_name-more-requires c = c.requires.columns_len_bound

pub next_item-g-requires : goal.next_item-g-requires
next_item-g-requires c = c.requires.says

pub loop-g-smaller : goal.loop-g-smaller
loop-g-smaller c =
    rw c.next_item-g.ensures (walk_less c.args.text.now c.in-Some.is)

pub loop-g-preserved : goal.loop-g-preserved
loop-g-preserved c =
    let a = c.args in
    let v = c.loop-g.invariant in
    rw c.next_item-g.ensures (naming_on a.text.now a.columns.now v c.in-Some.is (c.is_fair-ok.ensures v.show v.flagged) (c.if-not-ok.false) (c.with_name-more.ensures v.show v.flagged))

pub returns : goal.returns
returns c =
    let a = c.args in
    naming_end a.text.now a.columns.now c.loop-g.invariant c.in_default.is
