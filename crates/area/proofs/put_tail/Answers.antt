-- `area::put_tail` meets its contract.
use mathlib.Core.Path.{refl}
use mathlib.Core.List.{[], ◌∷◌, ◌++◌}
use Rattle.model.specs.Octets.{big}
use Rattle.octets.proofs.Rests.{write_next}
use Rattle.area.proofs.put_tail.Goals as goal

pub returns : goal.returns
returns c =
    let a = c.args in
    let xs = a.out.now in
    let b = big 4 a.top in
    let e1 = write_next b (a.heard ∷ []) xs _ _ 4 1 refl c.put_number.ensures c.put_byte.ensures in
    write_next (b ++ a.heard ∷ []) (a.whole ∷ []) xs _ _ 5 1 refl e1 c.put_byte-2.ensures
