-- `references::row_found` meets its contract.
use mathlib.Core.Path.{◌≡◌, sym, ap, ◌∙◌}
use Prim.Native.Nat.{ℕ, ◌<◌}
use native.Mathlib.Omega.{arith}
use lib.ListN.{length}
use Rattle.model.specs.Base.{all}
use Rattle.model.specs.Schema.{columns_of}
use Rattle.model.specs.Catalog.{packed_tables}
use Rattle.inner.specs.Working.{table_in}
use Rattle.references.specs.Links.{pick, referred}
use Rattle.references.proofs.Packs.{few_columns_lem}
use Rattle.references.proofs.Links.{here, rest_all, rest_end, all_rest_here, all_rest_on, here_target}
use Rattle.references.proofs.row_found.Invariants.{found}
use Rattle.references.proofs.row_found.Goals as goal

pub width-w-requires : goal.width-w-requires
width-w-requires c = c.requires.accepted

pub loop-c-init : goal.loop-c-init
unfolding referred
loop-c-init c =
    let a = c.args in
    ap (all (found a.schema.now a.n a.rows.now)) (rest_all (pick a.how) a.schema.now a.row.now)

pub refers-to-requires : goal.refers-to-requires
refers-to-requires c = record { accepted = c.requires.accepted; c_in_bounds = omega (arith, c.width-w.ensures, c.loop-c-test.true) }

pub column_found-requires : goal.column_found-requires
column_found-requires c =
    (omega (arith, few_columns_lem c.args.schema.now c.requires.accepted c.table_of-table.result, c.width-w.ensures), c.requires.ordered)

pub returns-then-not-column_found : goal.returns-then-not-column_found
returns-then-not-column_found c =
    let at : ℕ = c.loop-c.c in
    let table : c.table_of-table.result ≡ table_in c.args.row.now = c.table_of-table.ensures in
    let within : at < length (columns_of (packed_tables c.args.schema.now) (table_in c.args.row.now)) = omega (arith, c.loop-c-test.true, c.width-w.ensures, ap (λ (t : ℕ). length (columns_of (packed_tables c.args.schema.now) t)) table) in
    let step : all (found c.args.schema.now c.args.n c.args.rows.now) (here (pick c.args.how) c.args.schema.now c.args.row.now at) ≡ c.column_found.result = sym (c.column_found.ensures (packed_tables c.args.schema.now)
    ∙ ap (all (found c.args.schema.now c.args.n c.args.rows.now)) (here_target c.args.schema.now c.args.row.now c.args.how c.table_of-table.result at table c.refers-to.result c.refers-to.ensures)) in
    sym (c.loop-c.invariant ∙ all_rest_here (pick c.args.how) c.args.schema.now c.args.row.now c.requires.accepted (at) (within) (found c.args.schema.now c.args.n c.args.rows.now) (step ∙ c.if-not-column_found.true))

pub loop-c-preserved : goal.loop-c-preserved
loop-c-preserved c =
    let at : ℕ = c.loop-c.c in
    let table : c.table_of-table.result ≡ table_in c.args.row.now = c.table_of-table.ensures in
    let within : at < length (columns_of (packed_tables c.args.schema.now) (table_in c.args.row.now)) = omega (arith, c.loop-c-test.true, c.width-w.ensures, ap (λ (t : ℕ). length (columns_of (packed_tables c.args.schema.now) t)) table) in
    let step : all (found c.args.schema.now c.args.n c.args.rows.now) (here (pick c.args.how) c.args.schema.now c.args.row.now at) ≡ c.column_found.result = sym (c.column_found.ensures (packed_tables c.args.schema.now)
    ∙ ap (all (found c.args.schema.now c.args.n c.args.rows.now)) (here_target c.args.schema.now c.args.row.now c.args.how c.table_of-table.result at table c.refers-to.result c.refers-to.ensures)) in
    c.loop-c.invariant ∙ all_rest_on (pick c.args.how) c.args.schema.now c.args.row.now c.requires.accepted (at) (within) (found c.args.schema.now c.args.n c.args.rows.now) (step ∙ c.if-not-column_found.false)

pub returns : goal.returns
returns c =
    let l = c.loop-c in
    let w = c.width-w.ensures ∙ ap (λ (t : ℕ). length (columns_of (packed_tables c.args.schema.now) t)) c.table_of-table.ensures in
    sym (l.invariant ∙ ap (all (found c.args.schema.now c.args.n c.args.rows.now)) (rest_end (pick c.args.how) c.args.schema.now c.args.row.now l.c (omega (arith, w, c.loop-c-test.false))))
