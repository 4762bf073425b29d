-- `catalog::tidied_tables::headed` meets its contract.
use Rattle.std.proofs.Common.{◌∙◌}
use Rattle.catalog.proofs.Slots.{headed}
use Rattle.catalog.proofs.tidied_tables.headed.Goals as goal

pub returns : goal.returns
returns c =
    c.put_head.ensures ∙ headed c.args.e.now c.requires c.named-out.result _ _ _ _ c.named-out.ensures c.width.ensures c.says_root.ensures c.is_limited.ensures c.most_rows.ensures
