-- `garbage::counts::sweep_noted` meets its contract.
use mathlib.Core.Path.{refl, ◌∙◌}
use mathlib.Core.List.{List}
use Prim.Native.Nat.{ℕ}
use lib.Count.{count_trailing_zeros}
use lib.ListN.{length-set}
use Rattle.model.specs.Schema.{Schema}
use Rattle.model.specs.Catalog.{packed_tables}
use Rattle.garbage.specs.Counts.{PartlySwept}
use Rattle.garbage.proofs.Marking.{next_here, partly_on}
use Rattle.garbage.proofs.counts.sweep_noted.Goals as goal
use Rattle.garbage.proofs.counts.sweep_noted.Goals.{then-may_go, else-may_go}

pub loop-k-init : goal.loop-k-init
unfolding PartlySwept
loop-k-init c = (refl, refl, λ end t. t)

pub loop-k-preserved : goal.loop-k-preserved
loop-k-preserved c =
    let schema : Schema = packed_tables c.args.schema.now in
    let marks : List ℕ = c.loop-k.marks in
    let counts : List ℕ = c.loop-k.counts in
    let spot : ℕ = count_trailing_zeros 64 c.loop-k.pending in
    let l = c.loop-k in
    elim c.if-may_go.branch [
      | then-may_go w ↦ rw (w.marks-is, w.counts-is) (
        length-set (marks) (spot) 0 ∙ l.invariant.0,
        w.count_row-pending.auto.counts ∙ l.invariant.1,
        partly_on (schema) c.args.n c.args.rows.now c.requires.ordered.0 (marks) (counts) (spot)
            (next_here (schema) c.args.n c.args.rows.now (marks) (counts) (spot) c.may_go.result c.if-n-i.false c.may_go.ensures w.if-may_go.true)
            w.count_row-pending.new.counts w.count_row-pending.ensures c.args.marks.now c.args.counts.now l.invariant.2,
      )
      | else-may_go w ↦ rw (w.marks-is, w.counts-is) (l.invariant.0, l.invariant.1, l.invariant.2)
    ]
