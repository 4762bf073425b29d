-- `limits::minimum` meets its contract.
use mathlib.Core.Path.{ap, ◌∙◌}
use native.Mathlib.Omega.{arith}
use mathlib.Core.List.{List, []}
use Prim.Native.Nat.{ℕ}
use lib.ListN.{get_or}
use Rattle.model.specs.Catalog.{column_place, min_offset}
use Rattle.catalog.proofs.Laws.{few_tables}
use Rattle.references.proofs.Packs.{has_columns, few_columns_lem}
use Rattle.limits.proofs.minimum.Goals as goal

pub column-requires : goal.column-requires
column-requires c =
    let cells = c.args.schema.now in
    let t = c.args.table in
    (omega (arith, few_tables cells c.requires.accepted, has_columns cells c.requires.accepted t c.args.c c.requires.c_in_bounds, c.wide.ensures), omega (arith, few_columns_lem cells c.requires.accepted t, c.requires.c_in_bounds))

pub returns : goal.returns
returns c =
    let e = c.column.ensures ∙ ap (λ (t : ℕ). get_or c.args.schema.now (column_place t c.args.c) []) c.wide.ensures in
    c.minimum.ensures ∙ ap (λ (x : List ℕ). get_or x min_offset 0) e
