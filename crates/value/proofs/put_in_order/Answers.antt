-- `value::put_in_order` meets its contract.
use Rattle.std.proofs.Common.{◌∙◌}
use Rattle.model.specs.Catalog.{base_numbered}
use Rattle.value.proofs.Fours.{put_placed}
use Rattle.value.proofs.put_in_order.Goals as goal

pub insert_at-requires : goal.insert_at-requires
insert_at-requires c =
    (put_placed (base_numbered c.args.kind) c.args.x c.args.atoms c.args.n c.place-p.result c.well_formed.1.0.1.0.1 c.requires c.place-p.ensures).0

pub returns : goal.returns
returns c =
    c.insert_at.ensures ∙ (put_placed (base_numbered c.args.kind) c.args.x c.args.atoms c.args.n c.place-p.result c.well_formed.1.0.1.0.1 c.requires c.place-p.ensures).1
