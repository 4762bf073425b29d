-- `area::write_tail` meets its contract.
use mathlib.Core.Path.{◌∙◌}
use mathlib.Core.List.{[], ◌∷◌, ◌++◌}
use Rattle.model.specs.Limits.{store_bytes}
use Rattle.model.specs.Octets.{big}
use Rattle.area.specs.Writing.{placed, tail_bytes}
use Rattle.area.proofs.Writes.{place_rest}
use Rattle.area.proofs.write_tail.Goals as goal

pub returns : goal.returns
unfolding tail_bytes
returns c =
    let w = c.bit-w.ensures in
    let h = c.bit-h.ensures in
    let a = c.args in
    place_rest store_bytes 6 _ _ _ c.put_tail.ensures ∙ (λ j. placed store_bytes 6 (big 4 a.top ++ h j ∷ w j ∷ []) a.area.now)
