-- `catalog::rules::is_table` meets its contract.
use Rattle.std.proofs.Common.{◌≡◌, ◌+◌, true, [], get_or, arith}
use Rattle.std.proofs.lemmas.Grind.{common_steps}
use Rattle.catalog.specs.Judging.{is_head}
use Rattle.catalog.proofs.Tables.{narrow_head, table_code, table_not}
use Rattle.catalog.proofs.rules.is_table.Goals as goal

pub columns_of-columns-requires : goal.columns_of-columns-requires
columns_of-columns-requires c = grind (arith, common_steps, narrow_head)

pub slice_bounds-are_blank-count : goal.slice_bounds-are_blank-count
slice_bounds-are_blank-count c = grind (arith, common_steps, narrow_head)

pub slice_bounds-are_blank-start : goal.slice_bounds-are_blank-start
slice_bounds-are_blank-start c = grind (arith, common_steps, narrow_head)

pub returns-then-not-is_head : goal.returns-then-not-is_head
returns-then-not-is_head c = grind (arith, common_steps, table_not)

pub returns-then-are_distinct : goal.returns-then-are_distinct
returns-then-are_distinct c =
    let s = c.args in
    let head : is_head (get_or s.catalog.now (1 + s.t) []) ≡ true = cc in
    grind (arith, common_steps, table_code s.n s.catalog.now s.t _ head c.wide-k.ensures c.columns_of-columns.ensures.0)

pub returns-else-are_distinct : goal.returns-else-are_distinct
returns-else-are_distinct c =
    let s = c.args in
    let head : is_head (get_or s.catalog.now (1 + s.t) []) ≡ true = cc in
    grind (arith, common_steps, table_code s.n s.catalog.now s.t _ head c.wide-k.ensures c.columns_of-columns.ensures.0)
