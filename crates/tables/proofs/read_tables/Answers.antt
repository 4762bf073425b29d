-- `tables::read_tables` meets its contract.
use Prim.Native.Nat.{◌≤◌}
use native.Mathlib.Omega.{arith}
use lib.ListN.{length}
use Rattle.inner.specs.Positions.{tree_at}
use Rattle.tables.proofs.All.{too_many, heads_are, all_good, all_bad}
use Rattle.tables.proofs.read_tables.Goals as goal

pub returns-then-n-gt-TABLES : goal.returns-then-n-gt-TABLES
returns-then-n-gt-TABLES c =
    let s = c.args.text.now in
    too_many s (tree_at s c.args.at) c.args.cells.now c.collect-n.ensures c.if-n-gt-TABLES.true

pub read_each-requires : goal.read_each-requires
read_each-requires c =
    let s = c.args.text.now in
    let l = c.if-n-gt-TABLES.false in
    let k = c.collect-n.auto.places in
    let room : c.collect-n.result ≤ length c.collect-n.new.places = omega (arith, k, l) in
    record { says = c.requires.says; heads = heads_are s (tree_at s c.args.at) c.args.cells.now c.collect-n.ensures l room c.name_cells-heads.result c.name_cells-heads.ensures.0 c.name_cells-heads.ensures.1; cells_len = c.requires.cells_len }

pub returns-then-read_each : goal.returns-then-read_each
returns-then-read_each c =
    let s = c.args.text.now in
    let l = c.if-n-gt-TABLES.false in
    let k = c.collect-n.auto.places in
    let room : c.collect-n.result ≤ length c.collect-n.new.places = omega (arith, k, l) in
    all_good s (tree_at s c.args.at) c.args.cells.now c.collect-n.ensures l room c.name_cells-heads.result c.name_cells-heads.ensures.0 c.name_cells-heads.ensures.1 c.read_each.ensures c.if-read_each.true

pub returns-else-read_each : goal.returns-else-read_each
returns-else-read_each c =
    let s = c.args.text.now in
    let l = c.if-n-gt-TABLES.false in
    let k = c.collect-n.auto.places in
    let room : c.collect-n.result ≤ length c.collect-n.new.places = omega (arith, k, l) in
    all_bad s (tree_at s c.args.at) c.args.cells.now c.collect-n.ensures l room c.name_cells-heads.result c.name_cells-heads.ensures.0 c.name_cells-heads.ensures.1 c.read_each.ensures c.if-read_each.false
