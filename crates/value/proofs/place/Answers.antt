-- `value::place` meets its contract.
use Rattle.std.proofs.Common.{◌≡◌, ℕ, List, true, false, refl, sym, ◌∙◌, rules, tests, arith}
use Rattle.std.proofs.lemmas.Iterator.{YieldsList-from_slice, IsFirst-from_position, index_from_first}
use Rattle.model.specs.Value.{less_atom}
use Rattle.model.specs.Catalog.{base_numbered}
use Rattle.value.specs.Places.{place_in}
use Rattle.value.proofs.place.Goals as goal

pub returns : goal.returns
returns c =
    let k = base_numbered c.args.kind in
    let x = c.args.x.now in
    let l = c.args.l.now in
    let yes = λ (e : List ℕ). less_atom k x e ≡ true in
    let no = λ (e : List ℕ). less_atom k x e ≡ false in
    c.unwrap_or.ensures
    ∙ sym (index_from_first (place_in k x) yes no refl (λ y ys h. rw h) (λ y ys h. rw h (omega arith)) l c.position.result
    (IsFirst-from_position _ _ c.position.result yes no c.position.ensures.ran (YieldsList-from_slice l cc) (λ e q h. search (rules, tests)) (λ e q h. search (rules, tests))))
