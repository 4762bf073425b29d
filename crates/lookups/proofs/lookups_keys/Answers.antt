-- `lookups::lookups_keys` meets its contract.
use mathlib.Core.Path.{sym, ◌∙◌}
use mathlib.Core.List.{[]}
use native.Mathlib.Omega.{arith}
use lib.ListN.{length}
use Rattle.model.proofs.GoodOrder.{ascends_sorted}
use Rattle.inner.specs.Working.{working}
use Rattle.inner.proofs.Ordering.{sorted_ordered}
use Rattle.lookups.proofs.lookups_keys.Goals as goal

pub returns-then-not-ascending : goal.returns-then-not-ascending
returns-then-not-ascending c = λ s. rw (sym (c.ascending.ensures s) ∙ c.if-not-ascending.true)

pub count_keys-requires : goal.count_keys-requires
count_keys-requires c =
    let rows = c.args.rows.now in
    sorted_ordered [] (length rows) rows (omega arith) (ascends_sorted (working [] (length rows) rows) (sym (c.ascending.ensures []) ∙ c.if-not-ascending.false))

pub returns : goal.returns
returns c = λ s. c.count_keys.ensures s ∙ rw (sym (c.ascending.ensures s) ∙ c.if-not-ascending.false)
