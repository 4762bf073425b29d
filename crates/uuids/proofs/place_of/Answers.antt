-- `uuids::place_of` meets its contract.
use mathlib.Core.Path.{refl, sym, ◌∙◌}
use Rattle.inner.specs.Positions.{tree_at, word_in}
use Rattle.uuids.specs.Named.{place_in}
use Rattle.uuids.proofs.Table.{place_here, place_on, place_end}
use Rattle.uuids.proofs.place_of.Goals as goal

pub loop-k-init : goal.loop-k-init
unfolding place_in
loop-k-init c = refl

pub returns-then-is_named : goal.returns-then-is_named
returns-then-is_named c =
    let a = c.args in
    sym (c.loop-k.invariant ∙ place_here a.text.now a.names.now (word_in (tree_at a.text.now a.at)) 16 c.loop-k.k c.loop-k-test.true (sym c.is_named.ensures ∙ c.if-is_named.true))

pub loop-k-preserved : goal.loop-k-preserved
loop-k-preserved c =
    let a = c.args in
    c.loop-k.invariant ∙ place_on a.text.now a.names.now (word_in (tree_at a.text.now a.at)) 16 c.loop-k.k c.loop-k-test.true (sym c.is_named.ensures ∙ c.if-is_named.false)

pub returns : goal.returns
returns c =
    let a = c.args in
    sym (c.loop-k.invariant ∙ place_end a.text.now a.names.now (word_in (tree_at a.text.now a.at)) 16 c.loop-k.k c.loop-k-test.false)
