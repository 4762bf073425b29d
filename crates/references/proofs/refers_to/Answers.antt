-- `references::refers_to` meets its contract.
use mathlib.Core.Path.{◌≡◌, sym, ap, ◌∙◌}
use Prim.Native.Nat.{ℕ, ◌<◌}
use native.Mathlib.Omega.{arith}
use lib.Dec.{eqb}
use lib.ListN.{length}
use Rattle.model.specs.Base.{any}
use Rattle.model.specs.Schema.{columns_of}
use Rattle.model.specs.Commit.{strongly}
use Rattle.model.specs.Catalog.{packed_tables}
use Rattle.inner.specs.Working.{key_in, table_in}
use Rattle.references.specs.Links.{pick}
use Rattle.references.proofs.Packs.{few_columns_lem}
use Rattle.references.proofs.Links.{here, rest_all, rest_end, any_rest_here, any_rest_on, here_target}
use Rattle.references.proofs.refers_to.Goals as goal

pub width-w-requires : goal.width-w-requires
width-w-requires c = c.requires

pub loop-c-init : goal.loop-c-init
unfolding pick
loop-c-init c =
    let a = c.args in
    ap (any (eqb (key_in a.other.now))) (rest_all strongly a.schema.now a.row.now)

pub refers-to-requires : goal.refers-to-requires
refers-to-requires c = record { accepted = c.requires; c_in_bounds = omega (arith, c.width-w.ensures, c.loop-c-test.true) }

pub column_names-requires : goal.column_names-requires
column_names-requires c =
    omega (arith, few_columns_lem c.args.schema.now c.requires c.table_of-table.result, c.width-w.ensures)

pub returns-then-column_names : goal.returns-then-column_names
returns-then-column_names c =
    let at : ℕ = c.loop-c.c in
    let table : c.table_of-table.result ≡ table_in c.args.row.now = c.table_of-table.ensures in
    let within : at < length (columns_of (packed_tables c.args.schema.now) (table_in c.args.row.now)) = omega (arith, c.loop-c-test.true, c.width-w.ensures, ap (λ (t : ℕ). length (columns_of (packed_tables c.args.schema.now) t)) table) in
    let step : any (eqb (key_in c.args.other.now)) (here (pick 1) c.args.schema.now c.args.row.now at) ≡ c.column_names.result = sym (c.column_names.ensures
    ∙ ap (any (eqb (key_in c.args.other.now))) (here_target c.args.schema.now c.args.row.now 1 c.table_of-table.result at table c.refers-to.result c.refers-to.ensures)) in
    sym (c.loop-c.invariant ∙ any_rest_here (pick 1) c.args.schema.now c.args.row.now c.requires (at) (within) (eqb (key_in c.args.other.now)) (step ∙ c.if-column_names.true))

pub loop-c-preserved : goal.loop-c-preserved
loop-c-preserved c =
    let at : ℕ = c.loop-c.c in
    let table : c.table_of-table.result ≡ table_in c.args.row.now = c.table_of-table.ensures in
    let within : at < length (columns_of (packed_tables c.args.schema.now) (table_in c.args.row.now)) = omega (arith, c.loop-c-test.true, c.width-w.ensures, ap (λ (t : ℕ). length (columns_of (packed_tables c.args.schema.now) t)) table) in
    let step : any (eqb (key_in c.args.other.now)) (here (pick 1) c.args.schema.now c.args.row.now at) ≡ c.column_names.result = sym (c.column_names.ensures
    ∙ ap (any (eqb (key_in c.args.other.now))) (here_target c.args.schema.now c.args.row.now 1 c.table_of-table.result at table c.refers-to.result c.refers-to.ensures)) in
    c.loop-c.invariant ∙ any_rest_on (pick 1) c.args.schema.now c.args.row.now c.requires (at) (within) (eqb (key_in c.args.other.now)) (step ∙ c.if-column_names.false)

pub returns : goal.returns
returns c =
    let l = c.loop-c in
    let w = c.width-w.ensures ∙ ap (λ (t : ℕ). length (columns_of (packed_tables c.args.schema.now) t)) c.table_of-table.ensures in
    sym (l.invariant ∙ ap (any (eqb (key_in c.args.other.now))) (rest_end (pick 1) c.args.schema.now c.args.row.now l.c (omega (arith, w, c.loop-c-test.false))))
