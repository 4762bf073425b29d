-- `garbage::some_root` meets its contract.
use mathlib.Core.Path.{◌≡◌, ap, ◌∙◌}
use mathlib.Core.List.{List}
use Prim.Native.Nat.{ℕ, ◌+◌, ◌-◌}
use native.Mathlib.Omega.{arith}
use lib.ListN.{take, drop}
use Rattle.std.proofs.Common.{rules, tests}
use Rattle.std.proofs.lemmas.Iterator.{YieldsList-from_slice}
use Rattle.std.proofs.lemmas.Iterator.Search.{any_from_yields_List}
use Rattle.model.specs.Catalog.{table_count}
use Rattle.catalog.proofs.Laws.{few_tables}
use Rattle.garbage.proofs.Searches.{says, any_tables}
use Rattle.garbage.proofs.some_root.Goals as goal

pub slice_bounds-iter-end : goal.slice_bounds-iter-end
slice_bounds-iter-end c =
    let few = few_tables c.args.schema.now c.requires in
    search rules

pub returns : goal.returns
returns c =
    let cells : List (List ℕ) = c.args.schema.now in
    let many : (1 + c.wide-n.result) - 1 ≡ table_count cells = omega (arith, c.wide-n.ensures, c.table_count.ensures) in
    any_from_yields_List says _ _ c.any.result c.any.ensures.ran (YieldsList-from_slice (take (table_count cells) (drop 1 cells)) (c.iter.ensures.rest ∙ ap (λ (k : ℕ). take k (drop 1 cells)) many)) (λ x b f k. search (rules, tests))
    ∙ any_tables cells 0 (table_count cells) (omega (arith, few_tables cells c.requires, c.told-schema))
