-- `limits::tables_good` meets its contract.
use mathlib.Core.Path.{◌≡◌, sym, ◌∙◌}
use native.Mathlib.Omega.{arith}
use Prim.Native.Nat.{◌-◌}
use Rattle.model.specs.Catalog.{table_count}
use Rattle.catalog.proofs.Laws.{tables_length}
use Rattle.limits.proofs.Tables.{tables_here, tables_next, tables_last}
use Rattle.limits.proofs.tables_good.Goals as goal

pub loop-t-init : goal.loop-t-init
loop-t-init c =
    let e : table_count c.args.schema.now - 0 ≡ table_count c.args.schema.now = omega arith in
    rw e

pub table_good-requires : goal.table_good-requires
table_good-requires c = record { accepted = c.requires.accepted; table_in_bounds = omega (arith, c.loop-t-test.true, c.table_count-k.ensures, tables_length c.args.schema.now 0 (table_count c.args.schema.now)); n_in_bounds = c.requires.n_in_bounds }

pub returns-then-not-table_good : goal.returns-then-not-table_good
returns-then-not-table_good c =
    let l = c.loop-t in
    sym (l.invariant ∙ tables_here c.args.schema.now c.args.n c.args.rows.now l.t (omega (arith, c.table_count-k.ensures, c.loop-t-test.true)) (sym c.table_good.ensures ∙ c.if-not-table_good.true))

pub loop-t-preserved : goal.loop-t-preserved
loop-t-preserved c =
    let l = c.loop-t in
    (l.invariant ∙ tables_next c.args.schema.now c.args.n c.args.rows.now l.t (omega (arith, c.table_count-k.ensures, c.loop-t-test.true)) (sym c.table_good.ensures ∙ c.if-not-table_good.false))

pub returns : goal.returns
returns c =
    let l = c.loop-t in
    sym (l.invariant ∙ tables_last c.args.schema.now c.args.n c.args.rows.now l.t (omega (arith, c.table_count-k.ensures, c.loop-t-test.false)))
