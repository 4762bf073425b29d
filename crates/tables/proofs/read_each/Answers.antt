-- `tables::read_each` meets its contract.
use mathlib.Core.Path.{◌≡◌, ap, ◌∙◌}
use mathlib.Core.List.{List, [], map}
use lib.ListN.{length, get_or, drop, length-drop}
use Rattle.inner.specs.Positions.{tree_at}
use Rattle.model.specs.Catalog.{entry_name}
use Rattle.tables.specs.Tables.{TableRead}
use Prim.Native.Nat.{ℕ, ◌+◌, ◌*◌, ◌-◌, ◌≤◌}
use native.Mathlib.Omega.{arith}
use borrow.Author.Tests.{not-true, not-false}
use Rattle.octets.proofs.Rests.{mid_rest, put_rest}
use Rattle.tables.proofs.Each.{each_end, each_bad, each_more, here_only, here_well}
use Rattle.tables.proofs.read_each.Goals as goal

pub read_table-r-requires : goal.read_table-r-requires
read_table-r-requires c =
    let low : c.loop-i.i ≤ 4 = omega (arith, c.loop-i.invariant.few, c.requires.heads.few) in
    let h = c.requires.heads in
    let first = 5 + 6 * (c.loop-i.i - 1) in
    let w = here_well c.args.text.now c.args.places.now c.args.heads.now c.args.cells.now h c.loop-i.invariant c.loop-i-test.true c.member_value-v.ensures in
    let o = here_only c.args.text.now c.args.places.now c.args.heads.now c.args.cells.now h c.loop-i.invariant c.loop-i-test.true in
    record { says = c.requires.says; at_value = w; name_only = o; tables_value = h.ids; tables_len_bound = h.few; most_columns_in_bounds = rw (mid_rest first c.loop-i.cells) (omega (arith, length-drop first c.loop-i.cells, low, c.loop-i.invariant.size)) }

pub loop-i-preserved : goal.loop-i-preserved
loop-i-preserved c =
    let cells : List (List ℕ) = c.loop-i.cells in
    let first : ℕ = 5 + 6 * (c.loop-i.i - 1) in
    let ys : List (List ℕ) = c.read_table-r.new.columns in
    let read : TableRead (map entry_name c.args.heads.now) (entry_name (get_or c.args.heads.now (c.loop-i.i - 1) [])) (tree_at c.args.text.now c.member_value-v.result) c.read_table-r.result (drop first cells) ys = rw (mid_rest first cells) at c.read_table-r.ensures in
    let long : length (ys) ≡ length (drop (first) (cells)) = c.read_table-r.auto.columns ∙ ap length (mid_rest (first) (cells)) in
    rw (put_rest (first) (cells) (ys)) (each_more c.args.text.now c.args.places.now c.args.heads.now c.args.cells.now c.requires.heads c.loop-i.invariant c.loop-i-test.true c.member_value-v.ensures (read) long (not-false c.read_table-r.result.fits c.if-not-r.false))

pub returns-then-not-r : goal.returns-then-not-r
returns-then-not-r c =
    let cells : List (List ℕ) = c.loop-i.cells in
    let first : ℕ = 5 + 6 * (c.loop-i.i - 1) in
    let ys : List (List ℕ) = c.read_table-r.new.columns in
    let read : TableRead (map entry_name c.args.heads.now) (entry_name (get_or c.args.heads.now (c.loop-i.i - 1) [])) (tree_at c.args.text.now c.member_value-v.result) c.read_table-r.result (drop first cells) ys = rw (mid_rest first cells) at c.read_table-r.ensures in
    rw (put_rest (first) (cells) (ys)) (each_bad c.args.text.now c.args.places.now c.args.heads.now c.args.cells.now c.requires.heads c.loop-i.invariant c.loop-i-test.true c.member_value-v.ensures (read) (not-true c.read_table-r.result.fits c.if-not-r.true))

pub returns : goal.returns
returns c =
    each_end c.args.text.now c.args.places.now c.args.heads.now c.args.cells.now c.requires.heads c.loop-i.invariant c.loop-i-test.false
