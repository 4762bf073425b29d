-- `catalog::put_limits` meets its contract.
use mathlib.Core.List.{◌++◌}
use lib.ListN.{drop}
use mathlib.Core.Path.{refl, ◌∙◌}
use Rattle.model.specs.Octets.{big}
use Rattle.octets.proofs.Rests.{write_next}
use Rattle.catalog.specs.Writing.{limit_bytes}
use Rattle.catalog.proofs.put_limits.Goals as goal

pub returns : goal.returns
unfolding limit_bytes
returns c =
    write_next (big 8 c.bits.result) (big 8 c.bits-2.result) c.args.out.now _ _ 8 8 refl c.put_number.ensures c.put_number-2.ensures
    ∙ (λ i. (big 8 (c.bits.ensures i) ++ big 8 (c.bits-2.ensures i)) ++ drop 16 c.args.out.now)
