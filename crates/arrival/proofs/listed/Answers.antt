-- `arrival::listed` meets its contract.
use Prim.Native.Nat.{◌≤◌}
use native.Mathlib.Omega.{arith}
use borrow.Author.Rules.{rules}
use lib.ListN.{length}
use lib.Seq.{length-take-le}
use Rattle.catalog.proofs.Laws.{few_tables}
use Rattle.arrival.proofs.listed.Goals as goal

pub slice_bounds-counts-end : goal.slice_bounds-counts-end
slice_bounds-counts-end c =
    let n = few_tables _ c.requires.accepted in
    search rules

pub slice_bounds-listed-end : goal.slice_bounds-listed-end
slice_bounds-listed-end c =
    let r = c.counts_of-counts.result in
    let h : c.wide-tables.result ≤ length r = omega (arith, c.wide-tables.ensures, c.table_count.ensures, few_tables _ c.requires.accepted) in
    omega (arith, length-take-le c.wide-tables.result r h)
