-- `garbage::is_held` meets its contract.
use mathlib.Core.Path.{◌∙◌}
use lib.ListN.{take}
use Rattle.std.proofs.Common.{rules, tests}
use Rattle.std.proofs.lemmas.Iterator.{YieldsList-from_slice}
use Rattle.std.proofs.lemmas.Iterator.Search.{any_from_yields_List}
use Rattle.model.specs.Areas.{row_from}
use Rattle.model.specs.Catalog.{packed_tables}
use Rattle.inner.specs.Working.{key_in}
use Rattle.garbage.specs.Loose.{holds}
use Rattle.garbage.proofs.Searches.{any_rows}
use Rattle.garbage.proofs.is_held.Goals as goal

pub returns : goal.returns
returns c =
    let s = packed_tables c.args.schema.now in
    let q = holds s (key_in c.args.row.now) in
    any_from_yields_List (λ r. q (row_from s r)) _ _ c.any.result c.any.ensures.ran (YieldsList-from_slice (take c.args.n c.args.rows.now) (cc)) (λ x b f k. search (rules, tests))
    ∙ any_rows s c.args.n c.args.rows.now q
