-- `garbage::weaken` meets its contract.
use mathlib.Core.Path.{sym, subst}
use mathlib.Core.List.{[]}
use Prim.Native.Nat.{◌+◌}
use native.Mathlib.Omega.{arith}
use lib.ListN.{get_or}
use Rattle.model.specs.Catalog.{packed_tables}
use Rattle.garbage.proofs.Partly.{Going, going_on, going_ordered, going_end}
use Rattle.garbage.proofs.weaken.Goals as goal

pub weaken_row-requires : goal.weaken_row-requires
weaken_row-requires c =
    let l = c.loop-i in
    record { accepted = c.requires.accepted; i_lt_n = (c.loop-i-test.true, going_ordered (packed_tables c.args.schema.now) c.args.n c.args.rows.now c.requires.ordered.there l.i l.rows (l.invariant.1 c.requires.ordered.there) c.requires.ordered) }

pub loop-i-preserved : goal.loop-i-preserved
loop-i-preserved c =
    let a = c.args in
    let l = c.loop-i in
    let t = c.loop-i-test.true in
    let tables = packed_tables a.schema.now in
    (omega (arith, t), λ h. subst (Going tables a.n a.rows.now h (l.i + 1)) (sym c.weaken_row.ensures.rows_after) (going_on tables a.n a.rows.now h l.i l.rows (get_or c.weaken_row.new.rows l.i []) t (l.invariant.1 h) c.weaken_row.ensures.row_weak))

pub returns : goal.returns
returns c =
    let l = c.loop-i in
    going_end (packed_tables c.args.schema.now) c.args.n c.args.rows.now c.requires.ordered.there l.i l.rows c.loop-i-test.false (l.invariant.1 c.requires.ordered.there) c.requires.ordered
