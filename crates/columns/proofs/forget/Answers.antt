-- `columns::forget` meets its contract.
use Rattle.columns.proofs.Kept.{forgot_none}
use Rattle.columns.proofs.forget.Goals as goal

pub returns : goal.returns
returns c =
    forgot_none c.requires.n_in_bounds c.requires.n_in_bounds_2 c.met-i.ensures c.if-i-n.false
