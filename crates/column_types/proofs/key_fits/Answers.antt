-- `column_types::key_fits` meets its contract.
use Rattle.column_types.proofs.Keys.{key_allowed_lem}
use Rattle.column_types.proofs.key_fits.Goals as goal

pub returns : goal.returns
returns c =
    key_allowed_lem c.args.text.now c.args.f c.args.k _ _ _ _ _ _ c.limit_fits-a.ensures c.limit_fits-b.ensures c.limit_fits-c.ensures c.limit_fits-d.ensures c.at_most-o.ensures c.is_found-t.ensures
