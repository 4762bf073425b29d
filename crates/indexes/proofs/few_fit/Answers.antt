-- `indexes::few_fit` meets its contract.
use Rattle.indexes.proofs.Judged.{passed_start, passed_end, passed_more, passed_bad, passed_on, few_many, few_bad, few_end}
use Rattle.nav.proofs.Walk.{walk_less, walk_fine}
use Rattle.model.specs.Members.{members_in}
use Rattle.model.specs.Json.{Json, Named}
use Rattle.inner.specs.Positions.{tree_at}
use mathlib.Core.Path.{sym, refl, ◌∙◌}
use mathlib.Core.List.{List}
use native.Mathlib.Omega.{arith}
use Rattle.indexes.proofs.few_fit.Goals as goal

pub loop-g-init : goal.loop-g-init
loop-g-init c = (omega arith, passed_start c.args.at c.requires.at_value c.first-g.ensures)

pub returns-then-n-ge-MOST_INDEXES : goal.returns-then-n-ge-MOST_INDEXES
returns-then-n-ge-MOST_INDEXES c =
    let columns : List Named = members_in (tree_at c.args.text.now c.args.columns) in
    let tree : Json = tree_at c.args.text.now c.args.at in
    few_many (columns) (tree) (omega (arith, passed_more c.loop-g.invariant.1 c.in-Some.is, c.if-n-ge-MOST_INDEXES.true))

pub index_fits-ok-requires : goal.index_fits-ok-requires
index_fits-ok-requires c = record { says = c.requires.says; at_value = (walk_fine c.args.text.now c.in-Some.is c.loop-g.invariant.1.fine).0; columns_value = c.requires.columns_value; columns_value_2 = c.requires.columns_value_2 }

pub overflow_add-n : goal.overflow_add-n
overflow_add-n c = omega (arith, c.if-n-ge-MOST_INDEXES.false)

pub next_item-g-requires : goal.next_item-g-requires
next_item-g-requires c = c.requires.says

pub loop-g-smaller : goal.loop-g-smaller
loop-g-smaller c =
    rw c.next_item-g.ensures (walk_less c.args.text.now c.in-Some.is)

pub loop-g-preserved : goal.loop-g-preserved
loop-g-preserved c =
    (omega (arith, c.if-n-ge-MOST_INDEXES.false), passed_on c.loop-g.invariant.1 c.in-Some.is (sym c.index_fits-ok.ensures ∙ c.if-ok.true) refl c.next_item-g.ensures)

pub returns-else-ok : goal.returns-else-ok
returns-else-ok c =
    let columns : List Named = members_in (tree_at c.args.text.now c.args.columns) in
    let tree : Json = tree_at c.args.text.now c.args.at in
    few_bad (columns) (tree) (passed_bad c.loop-g.invariant.1 c.in-Some.is (sym c.index_fits-ok.ensures ∙ c.if-ok.false))

pub returns : goal.returns
returns c =
    let columns : List Named = members_in (tree_at c.args.text.now c.args.columns) in
    let tree : Json = tree_at c.args.text.now c.args.at in
    few_end (columns) (tree) c.loop-g.invariant.0 (passed_end c.loop-g.invariant.1 c.in_default.is)
