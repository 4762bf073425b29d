-- `changes::put_rows` meets its contract.
use mathlib.Core.Path.{◌≡◌, refl, ap}
use mathlib.Core.List.{List, []}
use Prim.Native.Nat.{ℕ, suc, ◌+◌, ◌*◌}
use native.Mathlib.Numerals.{add-one}
use native.Mathlib.Omega.{arith}
use lib.ListN.{get_or}
use Rattle.model.specs.Schema.{Schema}
use Rattle.model.specs.Rows.{Row}
use Rattle.model.specs.Catalog.{packed_tables}
use Rattle.inner.specs.Working.{working, key_in}
use Rattle.inner.proofs.Ordering.{ordered_next}
use Rattle.area.specs.Layout.{rows_at}
use Rattle.changes.proofs.Writing.{along_is, along_next, along_end}
use Rattle.changes.proofs.Rows.{walk_on, walk_end}
use Rattle.changes.proofs.Fore.{fore_up}
use Rattle.changes.proofs.put_rows.Goals as goal

pub loop-i-preserved : goal.loop-i-preserved
loop-i-preserved c =
    let l = c.loop-i in
    let a = c.args in
    let S = packed_tables a.schema.now in
    let before : Schema → List Row = λ z. working z a.m (rows_at a.m a.area.now) in (
      omega (arith, c.loop-i-test.true),
      (λ z h.
          let here = key_in (get_or a.after.now l.i []) in
          let next = key_in (get_or a.after.now (l.i + 1) []) in
          let up = ordered_next a.n a.after.now c.requires.ordered.1 l.i (omega (arith, h)) in
          let same : key_in (get_or a.after.now (l.i + 1) []) ≡ key_in (get_or a.after.now (suc l.i) []) = ap (λ (x : ℕ). key_in (get_or a.after.now x [])) (add-one l.i) in
          omega (arith, c.skip-at.ensures z, fore_up here next (before z) (omega (arith, up, same)))),
      along_is (along_next (along_is l.invariant.2 (walk_on S (before S) a.after.now a.n c.requires.ordered.1.there l.i c.loop-i-test.true) (794 * l.i) (omega arith)) c.put_row-to.ensures c.put_row-to.auto.records) refl (794 * (l.i + 1)) (omega arith),
    )

pub returns : goal.returns
returns c =
    let l = c.loop-i in
    let a = c.args in
    let S = packed_tables a.schema.now in
    along_end (along_is l.invariant.2 (walk_end S (working S a.m (rows_at a.m a.area.now)) a.after.now a.n c.requires.ordered.1.there l.i c.loop-i-test.false) (794 * l.i) (omega arith)) (794 * a.n) (omega (arith, l.invariant.0))
