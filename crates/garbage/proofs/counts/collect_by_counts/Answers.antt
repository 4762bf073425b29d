-- `garbage::counts::collect_by_counts` meets its contract.
use mathlib.Core.Path.{sym, ◌∙◌}
use native.Mathlib.Omega.{arith}
use Rattle.model.specs.Catalog.{packed_tables}
use Rattle.garbage.specs.Counts.{PartlySwept}
use Rattle.garbage.proofs.Marking.{collected_roots, collected_left}
use Rattle.garbage.proofs.counts.collect_by_counts.Goals as goal

pub returns-then-not-any_not_root : goal.returns-then-not-any_not_root
returns-then-not-any_not_root c =
    collected_roots (packed_tables c.args.schema.now) c.args.n c.args.rows.now c.requires.ordered (sym c.any_not_root.ensures ∙ c.if-not-any_not_root.true)

pub returns : goal.returns
unfolding PartlySwept
returns c =
    collected_left (packed_tables c.args.schema.now) c.args.n c.args.rows.now c.requires.ordered c.keep_marked.result c.keep_marked.new.rows c.sweep.new.marks c.keep_marked.ensures c.count_all.new.counts
    (omega (arith, c.if-n-gt-ROWS.false)) c.count_all.ensures (c.sweep_noted.ensures c.sweep.new.marks c.sweep.ensures)
