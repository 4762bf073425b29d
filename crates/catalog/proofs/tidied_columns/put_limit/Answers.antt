-- `catalog::tidied_columns::put_limit` meets its contract.
use mathlib.Core.Path.{sym, ap, ◌∙◌}
use mathlib.Core.List.{◌++◌}
use Prim.Native.Nat.{ℕ}
use lib.ListN.{drop}
use Rattle.model.specs.Octets.{big}
use Rattle.catalog.proofs.Twos.{twos_back}
use Rattle.catalog.proofs.tidied_columns.put_limit.Goals as goal

pub returns : goal.returns
returns c =
    c.put_number.ensures ∙ ap (λ (x : ℕ). big 8 x ++ drop 8 c.args.out.now) (sym (twos_back c.args.x c.ranges.x.fits))
