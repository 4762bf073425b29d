-- `indexes::index_fits` meets its contract.
use Rattle.indexes.proofs.Judged.{passed_start, passed_end, passed_more, passed_bad, passed_on, index_many, index_bad, index_end}
use Rattle.nav.proofs.Walk.{walk_less}
use Rattle.model.specs.Members.{members_in}
use Rattle.model.specs.Json.{Json, Named}
use Rattle.inner.specs.Positions.{tree_at}
use mathlib.Core.Path.{sym, refl, ◌∙◌}
use mathlib.Core.List.{List}
use native.Mathlib.Omega.{arith}
use Rattle.indexes.proofs.index_fits.Goals as goal

pub loop-g-init : goal.loop-g-init
loop-g-init c = (omega arith, passed_start c.args.at c.requires.at_value c.first-g.ensures)

pub returns-then-n-ge-INDEX_COLUMNS : goal.returns-then-n-ge-INDEX_COLUMNS
returns-then-n-ge-INDEX_COLUMNS c =
    let columns : List Named = members_in (tree_at c.args.text.now c.args.columns) in
    let tree : Json = tree_at c.args.text.now c.args.at in
    index_many (columns) (tree) (omega (arith, passed_more c.loop-g.invariant.1 c.in-Some.is, c.if-n-ge-INDEX_COLUMNS.true))

pub is_indexed-ok-requires : goal.is_indexed-ok-requires
is_indexed-ok-requires c = record { says = c.requires.says; columns_value = c.requires.columns_value; columns_value_2 = c.requires.columns_value_2 }

pub overflow_add-n : goal.overflow_add-n
overflow_add-n c = omega (arith, c.if-n-ge-INDEX_COLUMNS.false)

pub next_item-g-requires : goal.next_item-g-requires
next_item-g-requires c = c.requires.says

pub loop-g-smaller : goal.loop-g-smaller
loop-g-smaller c =
    rw c.next_item-g.ensures (walk_less c.args.text.now c.in-Some.is)

pub loop-g-preserved : goal.loop-g-preserved
loop-g-preserved c =
    (omega (arith, c.if-n-ge-INDEX_COLUMNS.false), passed_on c.loop-g.invariant.1 c.in-Some.is (sym c.is_indexed-ok.ensures ∙ c.if-ok.true) refl c.next_item-g.ensures)

pub returns-else-ok : goal.returns-else-ok
returns-else-ok c =
    let columns : List Named = members_in (tree_at c.args.text.now c.args.columns) in
    let tree : Json = tree_at c.args.text.now c.args.at in
    index_bad (columns) (tree) (passed_bad c.loop-g.invariant.1 c.in-Some.is (sym c.is_indexed-ok.ensures ∙ c.if-ok.false))

pub returns : goal.returns
returns c =
    let columns : List Named = members_in (tree_at c.args.text.now c.args.columns) in
    let tree : Json = tree_at c.args.text.now c.args.at in
    index_end (columns) (tree) c.loop-g.invariant.0 (passed_end c.loop-g.invariant.1 c.in_default.is)
