-- `conditions::lookup::table_at` meets its contract.
use Prim.Native.Nat.{ℕ, ◌+◌, ◌-◌, ◌≤◌}
use mathlib.Core.Path.{◌≡◌, ap, ◌∙◌}
use mathlib.Core.List.{map}
use lib.ListN.{length, take, drop}
use Rattle.model.specs.Catalog.{column_from}
use Rattle.conditions.specs.Lookup.{column_in}
use native.Mathlib.Omega.{arith}
use Rattle.inner.specs.Positions.{tree_at}
use Rattle.conditions.proofs.Tables.{table_named_lem}
use Rattle.conditions.proofs.lookup.table_at.Goals as goal

pub returns : goal.returns
returns c =
    let k = c.wide-n.ensures ∙ c.table_count.ensures in
    let cells = c.args.cells.now in
    let n = c.wide-n.result in
    let j = tree_at c.args.text.now c.args.at in
    let e : 1 + n - 1 ≡ n = omega arith in
    let l : 1 + n ≤ length cells = omega (arith, c.all-1.given, c.requires, k) in
    c.column_at.ensures ∙ ap (λ (k : ℕ). (column_in (map column_from (take k (drop 1 cells))) j)) e ∙ table_named_lem cells n k l j
