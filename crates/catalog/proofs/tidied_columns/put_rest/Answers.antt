-- `catalog::tidied_columns::put_rest` meets its contract.
use mathlib.Core.Path.{refl, ◌∙◌}
use mathlib.Core.List.{◌++◌}
use lib.ListN.{drop}
use Rattle.octets.proofs.Rests.{write_next}
use Rattle.catalog.specs.Renewed.{known_bytes, twos_bytes, rest_bytes}
use Rattle.catalog.proofs.tidied_columns.put_rest.Goals as goal

pub returns : goal.returns
unfolding known_bytes rest_bytes
returns c =
    let e = c.args.e.now in
    let xs = c.args.out.now in
    let e1 = write_next (known_bytes e) (twos_bytes c.low.result) xs _ _ 6 8 refl c.put_known.ensures c.put_limit.ensures in
    let e2 = write_next (known_bytes e ++ twos_bytes c.low.result) (twos_bytes c.high.result) xs _ _ 14 8 refl e1 c.put_limit-2.ensures in
    e2 ∙ (λ i. ((known_bytes e ++ twos_bytes (c.low.ensures i)) ++ twos_bytes (c.high.ensures i)) ++ drop 22 xs)
