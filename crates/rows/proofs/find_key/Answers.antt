-- `rows::find_key` meets its contract.
use mathlib.Core.Path.{ap, ◌∙◌}
use Prim.Native.Nat.{ℕ}
use native.Mathlib.Omega.{arith}
use Rattle.inner.specs.Working.{working, place}
use Rattle.rows.specs.Post.{key_of_halves}
use Rattle.rows.proofs.Search.{key_of_id, found_place}
use Rattle.rows.proofs.find_key.Goals as goal

pub returns : goal.returns
returns c =
    λ s.
    let a = c.args in
    let high = c.word-high in
    let low = c.word-low in
    let w = c.narrowed-span in
    found_place s a.n a.rows.now c.requires.0 (key_of_halves a.table high.result low.result) w.result.from w.result.to w.ensures c.find_by_fours.result c.find_by_fours.ensures
    ∙ ap (λ (k : ℕ). place k (working s a.n a.rows.now)) (key_of_id a.table high.result low.result a.id.now (omega arith) high.ensures low.ensures)
