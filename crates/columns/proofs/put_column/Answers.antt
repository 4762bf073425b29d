-- `columns::put_column` meets its contract.
use mathlib.Core.Path.{◌∙◌}
use mathlib.Core.List.{◌++◌}
use lib.ListN.{drop}
use Rattle.catalog.specs.Writing.{column_bytes}
use Rattle.columns.specs.Columns.{shape_bytes}
use Rattle.columns.proofs.put_column.Goals as goal

pub returns : goal.returns
unfolding shape_bytes
returns c =
    let k = c.args.t.key in
    c.put_column.ensures
    ∙ (λ i. (c.args.name.now ++ column_bytes (record { base = k.base; how = k.how; target = k.target; min = c.small.ensures i; max = c.small-2.ensures i; mutable = c.bit.ensures i; low = k.low; high = k.high })) ++ drop 47 c.args.out.now)
