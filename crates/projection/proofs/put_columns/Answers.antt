-- `projection::put_columns` meets its contract.
use Rattle.std.proofs.Common.{◌≡◌, ℕ, ◌-◌, ap, arith}
use Rattle.json_writer.specs.Texts.{joined}
use Rattle.json_writer.proofs.Putting.{due_all, due_is, due_next, due_none}
use Rattle.projection.specs.Shown.{shown_from}
use Rattle.projection.proofs.Columns.{columns_next, columns_end}
use Rattle.projection.proofs.put_columns.Goals as goal

pub loop-c-init : goal.loop-c-init
loop-c-init c =
    let s = c.args in
    let e : s.n ≡ s.n - 0 = omega arith in
    (omega arith, due_is (due_all _ _ _) (ap (λ (k : ℕ). joined s.none (shown_from s.schema.now s.from s.row.now s.shown.now 0 k)) e))

pub loop-c-preserved : goal.loop-c-preserved
loop-c-preserved c =
    let l = c.loop-c in
    let s = c.args in
    let p = c.put_shown-r.ensures in
    (omega (arith, p.short), due_next (due_is l.invariant.1 (columns_next s.schema.now s.from s.row.now s.shown.now l.first l.c s.n (omega arith))) p)

pub returns : goal.returns
returns c =
    let l = c.loop-c in
    let s = c.args in
    due_none (due_is l.invariant.1 (columns_end s.schema.now s.from s.row.now s.shown.now l.first l.c s.n (omega arith))) 5316 (omega arith)
