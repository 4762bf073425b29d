-- `references::refers` meets its contract.
use mathlib.Core.Path.{ap, ◌∙◌}
use mathlib.Core.List.{List, []}
use Prim.Native.Nat.{ℕ}
use native.Mathlib.Omega.{arith}
use lib.ListN.{get_or}
use Rattle.model.specs.Catalog.{refers_from, refers_offset, target_offset, column_place}
use Rattle.references.specs.Links.{pick, refers_at}
use Rattle.catalog.proofs.Laws.{few_tables}
use Rattle.references.proofs.Packs.{has_columns, few_columns_lem}
use Rattle.references.proofs.refers.Goals as goal

pub column-column-requires : goal.column-column-requires
column-column-requires c =
    let cells = c.args.schema.now in
    let t = c.args.table in
    (omega (arith, few_tables cells c.requires.accepted, has_columns cells c.requires.accepted t c.args.c c.requires.c_in_bounds, c.wide.ensures), omega (arith, few_columns_lem cells c.requires.accepted t, c.requires.c_in_bounds))

pub returns : goal.returns
unfolding refers_at
returns c =
    let cells = c.args.schema.now in
    let e = c.column-column.ensures ∙ ap (λ (t : ℕ). get_or cells (column_place t c.args.c) []) c.wide.ensures in
    let k = c.refers.ensures ∙ ap (λ (x : List ℕ). get_or x refers_offset 0) e in
    let t = c.target.ensures ∙ ap (λ (x : List ℕ). get_or x target_offset 0) e in
    c.picked.ensures ∙ (λ j. pick c.args.how (refers_from (k j) (t j)))
