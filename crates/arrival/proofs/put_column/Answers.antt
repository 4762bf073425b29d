-- `arrival::put_column` meets its contract.
use mathlib.Core.Path.{◌≡◌, sym, ap, ◌∙◌}
use Prim.Native.Nat.{ℕ, ◌<◌}
use native.Mathlib.Omega.{arith}
use lib.ListN.{replicate}
use Rattle.catalog.proofs.Laws.{few_tables, few_columns_lem}
use Rattle.model.specs.Limits.{most_tables}
use Rattle.model.specs.Catalog.{table_count}
use Rattle.inner.specs.Working.{table_in}
use Rattle.arrival.proofs.Changes.{no_table, no_column, that_column}
use Rattle.arrival.proofs.put_column.Goals as goal

pub returns-then-tables-t : goal.returns-then-tables-t
returns-then-tables-t c =
    let table : ℕ = c.wide-t.result in
    let here : table ≡ table_in c.args.row.now = c.wide-t.ensures ∙ c.table_of.ensures in
    let tables : c.wide-tables.result ≡ table_count c.args.schema.now = c.wide-tables.ensures ∙ c.table_count.ensures in
    c.clear.ensures
    ∙ ap (λ (n : ℕ). replicate n 0) c.requires.out_len
    ∙ sym (no_table c.args.schema.now c.requires.accepted c.args.row.now c.args.c (table) (here) (omega (arith, tables, c.if-tables-t.true)))

pub bounds-schema-t : goal.bounds-schema-t
bounds-schema-t c =
    let tables : c.wide-tables.result ≡ table_count c.args.schema.now = c.wide-tables.ensures ∙ c.table_count.ensures in
    let n = few_tables _ c.requires.accepted in
    omega (arith, n, tables, c.if-tables-t.false)

pub returns-then-columns-c : goal.returns-then-columns-c
returns-then-columns-c c =
    let table : ℕ = c.wide-t.result in
    let here : table ≡ table_in c.args.row.now = c.wide-t.ensures ∙ c.table_of.ensures in
    let tables : c.wide-tables.result ≡ table_count c.args.schema.now = c.wide-tables.ensures ∙ c.table_count.ensures in
    c.clear-then-columns-c.ensures
    ∙ ap (λ (n : ℕ). replicate n 0) c.requires.out_len
    ∙ sym (no_column c.args.schema.now c.requires.accepted c.args.row.now c.args.c (table) (here) (omega (arith, tables, c.if-tables-t.false)) (omega (arith, c.wide-columns.ensures, c.width.ensures, c.if-columns-c.true)))

pub put_value-requires : goal.put_value-requires
put_value-requires c =
    let table : ℕ = c.wide-t.result in
    let tables : c.wide-tables.result ≡ table_count c.args.schema.now = c.wide-tables.ensures ∙ c.table_count.ensures in
    let t = table in
    let h : t < most_tables = omega (arith, tables, c.if-tables-t.false, few_tables _ c.requires.accepted) in
    record { c_lt_most_columns = omega (arith, c.if-columns-c.false, c.wide-columns.ensures, c.width.ensures, few_columns_lem _ c.requires.accepted t h); out_len = c.requires.out_len }

pub returns : goal.returns
returns c =
    let table : ℕ = c.wide-t.result in
    let here : table ≡ table_in c.args.row.now = c.wide-t.ensures ∙ c.table_of.ensures in
    let tables : c.wide-tables.result ≡ table_count c.args.schema.now = c.wide-tables.ensures ∙ c.table_count.ensures in
    c.put_value.ensures
    ∙ sym (that_column c.args.schema.now c.requires.accepted c.args.row.now c.args.c (table) (here) (omega (arith, tables, c.if-tables-t.false)) (omega (arith, c.wide-columns.ensures, c.width.ensures, c.if-columns-c.false)))
