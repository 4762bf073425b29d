-- `rows::slot_of` meets its contract.
use mathlib.Core.Path.{◌≡◌, refl, sym, ap, ◌∙◌}
use mathlib.Core.Bool.{true, false}
use mathlib.Core.List.{List, map}
use Prim.Native.Nat.{ℕ}
use native.Mathlib.Omega.{arith}
use lib.Dec.{ltb}
use lib.ListN.{take}
use lib.Seq.{length-take-le}
use Rattle.std.proofs.Common.{rules, tests, unwrap_or}
use Rattle.std.proofs.lemmas.Iterator.{YieldsList-from_slice, IsFirst-from_position, index_from_first}
use Rattle.model.specs.Areas.{row_from}
use Rattle.inner.specs.Working.{working, key_in, slot}
use Rattle.rows.proofs.Search.{slot_hit, slot_miss}
use Rattle.rows.proofs.slot_of.Goals as goal

pub returns-clause-value : goal.returns-clause-value
unfolding working
returns-clause-value c =
    λ s.
    let a = c.args in
    let k = key_in a.row.now in
    let l = take a.n a.rows.now in
    let first = IsFirst-from_position _ _ c.position.result (λ (r : List (List ℕ)). ltb k (key_in r) ≡ true) (λ (r : List (List ℕ)). ltb k (key_in r) ≡ false) c.position.ensures.ran (YieldsList-from_slice l cc) (λ x q k. search (rules, tests)) (λ x q k. search (rules, tests)) in
    let e = index_from_first (λ (m : List (List (List ℕ))). slot k (map (row_from s) m)) (λ (r : List (List ℕ)). ltb k (key_in r) ≡ true) (λ (r : List (List ℕ)). ltb k (key_in r) ≡ false) refl (slot_hit s k) (slot_miss s k) l c.position.result first in
    c.unwrap_or.ensures ∙ sym (e ∙ ap (unwrap_or c.position.result) (length-take-le a.n a.rows.now (omega arith)))
