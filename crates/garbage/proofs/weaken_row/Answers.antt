-- `garbage::weaken_row` meets its contract.
use mathlib.Core.Path.{ap}
use mathlib.Core.List.{[]}
use Prim.Native.Nat.{ℕ, ◌<◌}
use native.Mathlib.Omega.{arith}
use lib.ListN.{length, get_or}
use Rattle.model.specs.Schema.{columns_of}
use Rattle.model.specs.Catalog.{packed_tables}
use Rattle.inner.specs.Working.{table_in}
use Rattle.references.proofs.Packs.{few_columns_lem}
use Rattle.garbage.proofs.Weakly.{weakening_end, turning_ordered, turning_on}
use Rattle.garbage.proofs.weaken_row.Goals as goal

pub weaken_column-requires : goal.weaken_column-requires
weaken_column-requires c =
    let a = c.args in
    let l = c.loop-c in (
      omega (arith, few_columns_lem a.schema.now c.requires.accepted c.table_of-table.result, c.width-w.ensures, c.loop-c-test.true),
      c.requires.i_lt_n.0,
      turning_ordered a.schema.now c.requires.accepted a.n a.i a.rows.now c.requires.i_lt_n.0 l.c l.rows (l.invariant.1 c.requires.accepted) c.requires.i_lt_n.1,
    )

pub loop-c-preserved : goal.loop-c-preserved
loop-c-preserved c =
    let l = c.loop-c in
    let a = c.args in
    let h : l.c < length (columns_of (packed_tables a.schema.now) (table_in (get_or a.rows.now a.i []))) =
    omega (arith, c.loop-c-test.true, c.width-w.ensures, ap (λ (x : ℕ). length (columns_of (packed_tables a.schema.now) x)) c.table_of-table.ensures) in
    (omega arith, λ ok. turning_on a.schema.now ok a.n a.i a.rows.now c.requires.i_lt_n.0 l.c l.rows (l.invariant.1 ok) c.table_of-table.result c.refers-to.result c.weaken_column.new.rows h c.table_of-table.ensures c.refers-to.ensures c.weaken_column.ensures.rows_after c.weaken_column.ensures.column_weak)

pub returns : goal.returns
returns c =
    let a = c.args in
    let l = c.loop-c in
    let w = l.invariant.1 c.requires.accepted in
    record {
      rows_after = w.only;
      row_weak = weakening_end a.schema.now c.requires.accepted a.n a.rows.now (get_or a.rows.now a.i []) l.c (get_or l.rows a.i [])
          (omega (arith, c.loop-c-test.false, c.width-w.ensures, ap (λ (x : ℕ). length (columns_of (packed_tables a.schema.now) x)) c.table_of-table.ensures)) w.row;
    }
