-- `garbage::is_root` meets its contract.
use mathlib.Core.Path.{◌≡◌, sym, ap, ◌∙◌}
use mathlib.Core.Bool.{not}
use Prim.Native.Nat.{◌<◌}
use native.Mathlib.Omega.{arith}
use borrow.Author.Tests.{le-leb}
use Rattle.model.specs.Catalog.{table_count}
use Rattle.model.proofs.Tests.{clash}
use Rattle.catalog.proofs.Laws.{few_tables}
use Rattle.garbage.proofs.Roots.{root_said, is_root_past, is_root_says, is_root_none}
use Rattle.garbage.proofs.is_root.Goals as goal
use Rattle.garbage.proofs.is_root.Goals.{then-table_count-table, else-table_count-table}

pub bounds-schema-wide : goal.bounds-schema-wide
bounds-schema-wide c = omega (arith, few_tables c.args.schema.now c.requires)

pub returns-then-says_root : goal.returns-then-says_root
returns-then-says_root c = elim c.if-table_count-table.branch [
  | then-table_count-table w ↦ c.if-says_root.true ∙ sym (is_root_past c.args.schema.now c.args.table (omega (arith, c.table_count.ensures, w.if-table_count-table.true)))
  | else-table_count-table w ↦
      let there : c.args.table < table_count c.args.schema.now = omega (arith, c.table_count.ensures, w.if-table_count-table.false) in
      let said : root_said c.args.schema.now c.args.table ≡ w.says_root.result = sym (w.says_root.ensures ∙ ap (root_said c.args.schema.now) w.wide.ensures) in
      c.if-says_root.true ∙ sym (is_root_says c.args.schema.now c.args.table there (said ∙ sym w.value-is ∙ c.if-says_root.true))
]

pub returns-else-says_root : goal.returns-else-says_root
returns-else-says_root c = elim c.if-table_count-table.branch [
  | then-table_count-table w ↦ absurd (clash _ (le-leb _ _ w.if-table_count-table.true) (sym w.value-is ∙ c.if-says_root.false))
  | else-table_count-table w ↦
      let there : c.args.table < table_count c.args.schema.now = omega (arith, c.table_count.ensures, w.if-table_count-table.false) in
      let said : root_said c.args.schema.now c.args.table ≡ w.says_root.result = sym (w.says_root.ensures ∙ ap (root_said c.args.schema.now) w.wide.ensures) in
      ap not c.some_root.ensures ∙ sym (is_root_none c.args.schema.now c.args.table there (said ∙ sym w.value-is ∙ c.if-says_root.false))
]
