-- `arrival::born` meets its contract.
use mathlib.Core.Path.{sym, ap, ◌∙◌}
use mathlib.Core.List.{List, map}
use Prim.Native.Nat.{ℕ, ◌<◌}
use native.Mathlib.Omega.{arith}
use Rattle.catalog.proofs.Laws.{few_tables, few_columns_lem}
use Rattle.model.specs.Limits.{most_tables}
use Rattle.model.specs.Octets.{value}
use Rattle.model.specs.Catalog.{column_from, packed_tables}
use Rattle.model.specs.Schema.{columns_of}
use Rattle.inner.specs.Working.{minimums}
use Rattle.catalog.specs.Entries.{columns_at}
use Rattle.area.proofs.Schemas.{columns_in}
use Rattle.arrival.proofs.Doing.{known_here, narrow, added_left}
use Rattle.arrival.proofs.born.Goals as goal

pub columns_of-requires : goal.columns_of-requires
columns_of-requires c =
    let h = known_here c.args.schema.now c.requires.accepted c.args.table (value c.args.id.now) c.requires.id_value in
    let l : c.wide.result < most_tables = omega (arith, c.wide.ensures, h, few_tables _ c.requires.accepted) in
    (l, few_columns_lem _ c.requires.accepted c.wide.result l)

pub returns : goal.returns
returns c =
    let a = c.args in
    let x = a.schema.now in
    let k = c.requires.id_value in
    let f = narrow x c.requires.accepted a.table (value a.id.now) k in
    let h = known_here x c.requires.accepted a.table (value a.id.now) k in
    let e = c.columns_of.ensures.0 ∙ ap (columns_at x) c.wide.ensures in
    added_left x c.requires.accepted a.table (value a.id.now) k a.count a.rows.now c.add.new.rows c.new_row-row.result (omega (arith, c.requires.count_lt_most_rows))
    (c.new_row-row.ensures.value (columns_of (packed_tables x) a.table) f (c.minimums_of-mins.ensures ∙ ap minimums (ap (λ (l : List (List ℕ)). map column_from l) e ∙ sym (columns_in x a.table h))))
    c.add.ensures
