-- `area::rows_good` meets its contract.
use Rattle.std.proofs.Common.{arith}
use Rattle.std.proofs.lemmas.Grind.{common_steps}
use Rattle.model.specs.Catalog.{packed_tables}
use Rattle.area.proofs.Schemas.{rows_no, rows_apart, rows_all}
use Rattle.area.proofs.rows_good.Goals as goal
use Rattle.area.proofs.rows_good.Goals.{then-each_good, else-each_good}

pub returns-then-ascending : goal.returns-then-ascending
returns-then-ascending c =
    let a = c.args in
    let s = packed_tables a.schema.now in
    elim c.if-each_good.branch [
      | then-each_good w ↦ grind (arith, common_steps, c.distinct.ensures s, w.ascending.ensures s, rows_all a.schema.now a.n a.rows.now)
      | else-each_good w ↦ grind (arith, common_steps)
    ]

pub returns-else-ascending : goal.returns-else-ascending
returns-else-ascending c =
    let a = c.args in
    let s = packed_tables a.schema.now in
    elim c.if-each_good.branch [
      | then-each_good w ↦ grind (arith, common_steps, w.ascending.ensures s, rows_apart a.schema.now a.n a.rows.now)
      | else-each_good w ↦ grind (arith, common_steps, rows_no a.schema.now a.n a.rows.now)
    ]
