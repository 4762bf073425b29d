-- `columns::drop_at` meets its contract.
use Rattle.columns.proofs.Kept.{moved_down}
use Rattle.columns.proofs.drop_at.Goals as goal

pub returns : goal.returns
returns c =
    let r = c.requires in
    record { dropped = moved_down r.i_lt_n r.n_in_bounds c.copy_within.ensures.after; dropped_2 = moved_down r.i_lt_n r.n_in_bounds_2 c.copy_within-2.ensures.after }
