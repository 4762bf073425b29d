-- `record::put_start` meets its contract.
use mathlib.Core.Path.{refl}
use mathlib.Core.List.{[], ◌∷◌}
use Rattle.model.specs.Octets.{big}
use Rattle.octets.proofs.Rests.{write_next}
use Rattle.record.specs.Writing.{start_bytes}
use Rattle.record.proofs.put_start.Goals as goal

pub returns : goal.returns
unfolding start_bytes
returns c =
    let a = c.args in
    let xs = a.out.now in
    let e1 = write_next (a.kind ∷ []) (big 4 a.run) xs _ _ 1 4 refl c.put_byte.ensures c.put_number.ensures in
    write_next (a.kind ∷ big 4 a.run) (big 4 a.number) xs _ _ 5 4 refl e1 c.put_number-2.ensures
