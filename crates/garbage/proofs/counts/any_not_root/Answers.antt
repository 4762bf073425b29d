-- `garbage::counts::any_not_root` meets its contract.
use mathlib.Core.Path.{sym, ◌∙◌}
use mathlib.Core.List.{List}
use Prim.Native.Nat.{ℕ}
use lib.ListN.{take}
use Rattle.std.proofs.Common.{rules, tests}
use Rattle.std.proofs.lemmas.Iterator.{YieldsList-from_slice}
use Rattle.std.proofs.lemmas.Iterator.Search.{any_from_yields_List}
use Rattle.model.specs.Areas.{row_from}
use Rattle.model.specs.Catalog.{packed_tables}
use Rattle.inner.specs.Working.{working}
use Rattle.inner.proofs.Working.{row_table}
use Rattle.garbage.proofs.Marking.{not_root, unsaid_none}
use Rattle.garbage.proofs.Searches.{any_rows}
use Rattle.garbage.proofs.counts.any_not_root.Goals as goal

pub returns-else-some_root : goal.returns-else-some_root
returns-else-some_root c =
    let s = packed_tables c.args.schema.now in
    c.if-some_root.false ∙ sym (unsaid_none s (sym c.some_root.ensures ∙ c.if-some_root.false) (working s c.args.n c.args.rows.now))

pub returns-then-some_root : goal.returns-then-some_root
returns-then-some_root c =
    let s = packed_tables c.args.schema.now in
    any_from_yields_List (λ (r : List (List ℕ)). not_root s (row_from s r)) _ _ c.any.result c.any.ensures.ran (YieldsList-from_slice (take c.args.n c.args.rows.now) (cc)) (λ x b f k. search (rules, tests, row_table s x.now))
    ∙ any_rows s c.args.n c.args.rows.now (not_root s)
