-- `indexes::index` meets its contract.
use Rattle.indexes.proofs.Numbers.{filled_start, filled_end, filled_more, filled_short, filled_on}
use Rattle.nav.proofs.Walk.{walk_less}
use Rattle.model.specs.Catalog.{entry_name}
use mathlib.Core.List.{map}
use native.Mathlib.Omega.{arith}
use Rattle.indexes.proofs.index.Goals as goal

pub loop-g-init : goal.loop-g-init
loop-g-init c =
    filled_start c.args.text.now (map entry_name c.args.columns.now) c.args.at c.requires.at_value c.requires.at_value_2 c.first-g.ensures

pub overflow_add-n : goal.overflow_add-n
overflow_add-n c =
    let a = c.args in
    omega (arith, filled_more a.text.now (map entry_name a.columns.now) c.loop-g.invariant c.in-Some.is)

pub number-requires : goal.number-requires
number-requires c = record { at_value = filled_short c.args.text.now (map entry_name c.args.columns.now) c.loop-g.invariant c.in-Some.is; columns_len_bound = c.requires.columns_len_bound }

pub bounds-q-n : goal.bounds-q-n
bounds-q-n c =
    let a = c.args in
    omega (arith, filled_more a.text.now (map entry_name a.columns.now) c.loop-g.invariant c.in-Some.is)

pub next_item-g-requires : goal.next_item-g-requires
next_item-g-requires c = c.requires.says

pub loop-g-smaller : goal.loop-g-smaller
loop-g-smaller c =
    let a = c.args in
    rw c.next_item-g.ensures (walk_less a.text.now c.in-Some.is)

pub loop-g-preserved : goal.loop-g-preserved
loop-g-preserved c =
    let a = c.args in
    filled_on a.text.now (map entry_name a.columns.now) c.loop-g.invariant c.in-Some.is c.number.ensures c.next_item-g.ensures

pub overflow_cast-q : goal.overflow_cast-q
overflow_cast-q c = omega (arith, c.loop-g.invariant.few)

pub returns : goal.returns
returns c =
    let a = c.args in
    filled_end a.text.now (map entry_name a.columns.now) c.loop-g.invariant c.in_default.is
