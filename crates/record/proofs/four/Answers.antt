-- `record::four` meets its contract.
use mathlib.Core.Path.{◌≡◌, ap, ◌∙◌}
use mathlib.Core.List.{List}
use Prim.Native.Nat.{ℕ}
use lib.ListN.{take}
use Rattle.model.specs.Octets.{value, part}
use Rattle.octets.proofs.Rests.{mid_rest}
use Rattle.model.proofs.Octets.{octets, part_lt}
use Rattle.record.proofs.four.Goals as goal

pub overflow_cast-result : goal.overflow_cast-result
overflow_cast-result c =
    let read : c.number.result ≡ value (part c.args.at 4 c.args.bytes.now) = c.number.ensures ∙ ap (λ (l : List ℕ). value (take 4 l)) (mid_rest c.args.at c.args.bytes.now) in
    let k = c.type_inv.bytes in
    record { fits = rw (read) (part_lt c.args.at 4 c.args.bytes.now (octets c.args.bytes.now (λ i. (k i).fits))) }
