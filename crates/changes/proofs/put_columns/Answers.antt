-- `changes::put_columns` meets its contract.
use mathlib.Core.Path.{refl, sym, ◌∙◌}
use Prim.Native.Nat.{◌+◌, ◌*◌, ◌≤◌, ◌<◌}
use native.Mathlib.Omega.{arith}
use lib.ListN.{length}
use Rattle.model.specs.Schema.{columns_of}
use Rattle.model.specs.Catalog.{packed_tables}
use Rattle.inner.specs.Positions.{is_nothing}
use Rattle.inner.specs.Working.{table_in, id_in}
use Rattle.references.proofs.Packs.{few_columns_lem}
use Rattle.changes.specs.Walk.{old_cells, skips}
use Rattle.changes.proofs.Writing.{along_is, along_next, along_end}
use Rattle.changes.proofs.Rows.{columns_like, columns_other, columns_end}
use Rattle.changes.proofs.put_columns.Goals as goal
use Rattle.changes.proofs.put_columns.Goals.{then-not-is_left, else-not-is_left}

pub is_left-requires : goal.is_left-requires
is_left-requires c =
    let six : c.loop-c.c < 6 = omega (arith, c.loop-c-test.true, c.width_of-w.ensures, few_columns_lem c.args.schema.now c.requires.accepted (table_in c.args.row.now)) in
    record { old = c.requires.old; c_lt_most_columns = six }

pub put_column-to-requires : goal.put_column-to-requires
put_column-to-requires c =
    let six : c.loop-c.c < 6 = omega (arith, c.loop-c-test.true, c.width_of-w.ensures, few_columns_lem c.args.schema.now c.requires.accepted (table_in c.args.row.now)) in
    let l = c.loop-c in
    let a = l.invariant.1 in
    let h = six in
    record { room = record { few = a.few; room = omega (arith, a.short, c.requires.room.room, h); enough = omega (arith, a.size, c.requires.room.enough) }; c_lt_most_columns = h }

pub loop-c-preserved : goal.loop-c-preserved
loop-c-preserved c =
    let l = c.loop-c in
    let S = packed_tables c.args.schema.now in
    let g : l.c < length (columns_of S (table_in (old_cells c.args.area.now c.args.old c.args.row.now))) = omega (arith, c.loop-c-test.true, c.width_of-w.ensures) in
    let h : l.c < length (columns_of S (table_in c.args.row.now)) = omega (arith, c.loop-c-test.true, c.width_of-w.ensures) in
    elim c.if-not-is_left.branch [
      | then-not-is_left w ↦ (
        omega (arith, c.loop-c-test.true),
        rw (w.records-is, w.to-is) (along_is (along_next (along_is l.invariant.1 (columns_other (skips (is_nothing c.args.old)) S (old_cells c.args.area.now c.args.old c.args.row.now) c.args.row.now (table_in c.args.row.now) (id_in c.args.row.now) l.c g h (sym c.is_left.ensures ∙ w.if-not-is_left.true)) (128 * l.c) (omega arith)) w.put_column-to.ensures w.put_column-to.auto.records) refl (128 * (l.c + 1)) (omega arith)),
      )
      | else-not-is_left w ↦ (
        omega (arith, c.loop-c-test.true),
        rw (w.records-is, w.to-is) (along_is l.invariant.1 (columns_like (skips (is_nothing c.args.old)) S (old_cells c.args.area.now c.args.old c.args.row.now) c.args.row.now (table_in c.args.row.now) (id_in c.args.row.now) l.c g h (sym c.is_left.ensures ∙ w.if-not-is_left.false)) (128 * (l.c + 1)) (omega arith)),
      )
    ]

pub returns : goal.returns
returns c =
    let l = c.loop-c in
    let v = c.width_of-w.ensures in
    let S = packed_tables c.args.schema.now in
    let h : 128 * l.c ≤ 768 = omega (arith, l.invariant.0, v, few_columns_lem c.args.schema.now c.requires.accepted (table_in c.args.row.now)) in
    along_end (along_is l.invariant.1 (columns_end (skips (is_nothing c.args.old)) S (old_cells c.args.area.now c.args.old c.args.row.now) c.args.row.now (table_in c.args.row.now) (id_in c.args.row.now) l.c (omega (arith, v, c.loop-c-test.false))) (128 * l.c) (omega arith)) 768 h
