-- `marks::delete_rows` meets its contract.
use mathlib.Core.Path.{◌≡◌, refl, sym, ap, ◌∙◌}
use mathlib.Core.Bool.{not}
use mathlib.Core.Logic.{⊎_elim}
use Prim.Native.Nat.{◌<◌}
use native.Mathlib.Omega.{arith}
use lib.ListN.{length}
use Rattle.model.specs.Rows.{Row}
use Rattle.model.specs.Conditions.{matches}
use Rattle.inner.specs.Working.{working}
use Rattle.marks.specs.Marks.{MarkedRows}
use Rattle.marks.proofs.Picking.{partly_out, partly_in, tidy_in, rows_in, rows_out}
use Rattle.marks.proofs.delete_rows.Goals as goal

pub loop-i-init : goal.loop-i-init
unfolding working
loop-i-init c = (record { few = omega arith; size = refl; rest = refl }, λ s t. tt, λ cs table ts m s w. refl)

pub copy_row-requires : goal.copy_row-requires
copy_row-requires c =
    (c.loop-i.invariant.0.few, omega (arith, c.loop-i.invariant.0.size, c.requires.1))

pub loop-i-preserved : goal.loop-i-preserved
unfolding MarkedRows
loop-i-preserved c =
    let a = c.args in
    let t : c.loop-i.i < a.n = omega arith in
    let p = c.loop-i.invariant.0 in
    let b = a.rows.now in
    let h : c.loop-i.i < length b = omega (arith, t, c.requires.1) in
    ⊎_elim
    (λ w. let e = w.rows-is ∙ w.copy_row.ensures in
    rw (e, w.kept-is) (
      partly_in b c.loop-i.rows c.loop-i.i c.loop-i.kept p h,
      λ s u. tidy_in b c.loop-i.rows c.loop-i.i c.loop-i.kept p h s a.n t c.requires.1 u (c.loop-i.invariant.1 s u),
      λ cs table ts m s v. rows_in b c.loop-i.rows c.loop-i.i c.loop-i.kept p h s (λ (q : Row). not (matches table ts q)) (c.loop-i.invariant.2 cs table ts m s v) (ap not (sym (m s v c.loop-i.i t)) ∙ (ap not w.if-not-marks-i.true)),
    ))
    (λ w. rw (w.rows-is, w.kept-is) (
      partly_out b c.loop-i.rows c.loop-i.i c.loop-i.kept p,
      c.loop-i.invariant.1,
      λ cs table ts m s v. rows_out b c.loop-i.rows c.loop-i.i c.loop-i.kept p h s (λ (q : Row). not (matches table ts q)) (c.loop-i.invariant.2 cs table ts m s v) (ap not (sym (m s v c.loop-i.i t)) ∙ (ap not w.if-not-marks-i.false)),
    ))
    c.if-not-marks-i.branch-raw

pub shape_of-rows : goal.shape_of-rows
shape_of-rows c = c.loop-i.invariant.0.size

pub returns : goal.returns
returns c =
    let e : c.loop-i.i ≡ c.args.n = omega arith in
    λ cs table ts m. record { rows = λ s w. rw (← e) (c.loop-i.invariant.2 cs table ts m s w); few = omega (arith, c.loop-i.invariant.0.few); tidy = c.loop-i.invariant.1 }
