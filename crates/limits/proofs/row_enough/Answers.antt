-- `limits::row_enough` meets its contract.
use mathlib.Core.Path.{◌≡◌, sym, ap, ◌∙◌}
use native.Mathlib.Omega.{arith}
use Prim.Native.Nat.{ℕ, ◌<◌}
use lib.ListN.{length, get_or}
use Rattle.model.specs.Schema.{columns_of}
use mathlib.Core.List.{[]}
use Rattle.model.specs.Catalog.{packed_tables, column_from, column_place}
use Rattle.inner.specs.Working.{table_in}
use Rattle.references.proofs.Packs.{few_columns_lem}
use Rattle.limits.proofs.Enough.{least, enough_all, enough_end, enough_here, enough_on}
use Rattle.limits.proofs.row_enough.Goals as goal

pub width-w-requires : goal.width-w-requires
width-w-requires c = c.requires

pub loop-c-init : goal.loop-c-init
loop-c-init c = enough_all c.args.schema.now c.args.row.now

pub count_of-requires : goal.count_of-requires
count_of-requires c =
    omega (arith, few_columns_lem c.args.schema.now c.requires c.table_of-table.result, c.width-w.ensures, c.loop-c-test.true)

pub minimum-requires : goal.minimum-requires
minimum-requires c = record { accepted = c.requires; c_in_bounds = omega (arith, c.width-w.ensures, c.loop-c-test.true) }

pub returns-then-count_of-minimum : goal.returns-then-count_of-minimum
returns-then-count_of-minimum c =
    let at : ℕ = c.loop-c.c in
    let table : c.table_of-table.result ≡ table_in c.args.row.now = c.table_of-table.ensures in
    let within : at < length (columns_of (packed_tables c.args.schema.now) (table_in c.args.row.now)) = omega (arith, c.loop-c-test.true, c.width-w.ensures, ap (λ (t : ℕ). length (columns_of (packed_tables c.args.schema.now) t)) table) in
    let low : c.minimum.result ≡ least c.args.schema.now c.args.row.now c.requires at within = c.minimum.ensures ∙ ap (λ (t : ℕ). (column_from (get_or c.args.schema.now (column_place t at) [])).min) table in
    let l = c.loop-c in
    sym (l.invariant ∙ enough_here c.args.schema.now c.args.row.now c.requires l.c (within) (omega (arith, c.if-count_of-minimum.true, c.count_of.ensures, low)))

pub loop-c-preserved : goal.loop-c-preserved
loop-c-preserved c =
    let at : ℕ = c.loop-c.c in
    let table : c.table_of-table.result ≡ table_in c.args.row.now = c.table_of-table.ensures in
    let within : at < length (columns_of (packed_tables c.args.schema.now) (table_in c.args.row.now)) = omega (arith, c.loop-c-test.true, c.width-w.ensures, ap (λ (t : ℕ). length (columns_of (packed_tables c.args.schema.now) t)) table) in
    let low : c.minimum.result ≡ least c.args.schema.now c.args.row.now c.requires at within = c.minimum.ensures ∙ ap (λ (t : ℕ). (column_from (get_or c.args.schema.now (column_place t at) [])).min) table in
    let l = c.loop-c in
    (l.invariant ∙ enough_on c.args.schema.now c.args.row.now c.requires l.c (within) (omega (arith, c.if-count_of-minimum.false, c.count_of.ensures, low)))

pub returns : goal.returns
returns c =
    let l = c.loop-c in
    let w = c.width-w.ensures ∙ ap (λ (t : ℕ). length (columns_of (packed_tables c.args.schema.now) t)) c.table_of-table.ensures in
    sym (l.invariant ∙ enough_end c.args.schema.now c.args.row.now l.c (omega (arith, w, c.loop-c-test.false)))
