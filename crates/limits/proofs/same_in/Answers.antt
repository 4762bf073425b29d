-- `limits::same_in` meets its contract.
use mathlib.Core.Path.{◌≡◌, sym, ap, ◌∙◌}
use native.Mathlib.Omega.{arith}
use Prim.Native.Nat.{ℕ}
use lib.ListN.{length, get_or}
use lib.Seq.{take-length}
use Rattle.model.specs.Base.{all}
use Rattle.references.proofs.Walks.{all_here, all_on, all_end}
use Rattle.limits.specs.Alike.{same_cells}
use Rattle.limits.proofs.same_in.Invariants.{alike}
use Rattle.limits.proofs.same_in.Goals as goal

pub loop-c-init : goal.loop-c-init
unfolding same_cells
loop-c-init c =
    let a = c.args in
    ap (all (alike a.x.now a.y.now)) (sym (take-length a.index.now))

pub same_column-requires : goal.same_column-requires
same_column-requires c = omega (arith, c.wide.ensures, c.requires.columns c.loop-c.c-index (omega arith))

pub returns-then-not-same_column : goal.returns-then-not-same_column
returns-then-not-same_column c =
    let a = c.args in
    let i : ℕ = c.loop-c.c-index in
    let step : alike a.x.now a.y.now (get_or a.index.now i 0) ≡ c.same_column.result = ap (alike a.x.now a.y.now) (sym c.wide.ensures) ∙ sym c.same_column.ensures in
    sym (c.loop-c.invariant ∙ all_here 0 a.index.now (length a.index.now) i (omega arith) (alike a.x.now a.y.now) (omega arith) (step ∙ c.if-not-same_column.true))

pub loop-c-preserved : goal.loop-c-preserved
loop-c-preserved c =
    let a = c.args in
    let i : ℕ = c.loop-c.c-index in
    let step : alike a.x.now a.y.now (get_or a.index.now i 0) ≡ c.same_column.result = ap (alike a.x.now a.y.now) (sym c.wide.ensures) ∙ sym c.same_column.ensures in
    c.loop-c.invariant ∙ all_on 0 a.index.now (length a.index.now) i (omega arith) (alike a.x.now a.y.now) (omega arith) (step ∙ c.if-not-same_column.false)

pub returns : goal.returns
returns c =
    let a = c.args in
    sym (c.loop-c.invariant ∙ all_end 0 a.index.now (length a.index.now) c.loop-c.c-index (omega arith) (alike a.x.now a.y.now) (omega arith))
