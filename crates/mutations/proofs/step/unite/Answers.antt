-- `mutations::step::unite` meets its contract.
use mathlib.Core.Path.{◌≡◌, ap, ◌∙◌}
use mathlib.Core.List.{List}
use Prim.Native.Nat.{ℕ, ◌≤◌}
use native.Mathlib.Omega.{arith}
use lib.ListN.{length, take}
use Rattle.model.specs.Catalog.{base_numbered}
use Rattle.model.specs.Value.{union}
use Rattle.value.proofs.Fours.{padded}
use Rattle.mutations.proofs.Uniting.{first_front, united_on, united_end}
use Rattle.mutations.proofs.step.unite.Goals as goal

pub loop-x-preserved : goal.loop-x-preserved
loop-x-preserved c =
    let front : take c.args.n c.first-s.result ≡ take c.args.n c.args.atoms = let a = c.args in
    (first_front a.atoms c.first-s.result a.n c.well_formed.1.0.1.0.1 c.requires.n_le_most_elements c.first-s.ensures).0 in
    let fit : length (union (base_numbered c.args.kind) (take c.args.n c.first-s.result) c.args.more.now) ≤ 4 = let a = c.args in
    omega (arith, ap (λ (x : List (List ℕ)). length (union (base_numbered a.kind) x a.more.now)) (front), c.requires.more_len_bound) in
    let a = c.args in
    united_on (base_numbered a.kind) (take a.n c.first-s.result) a.more.now (fit) c.loop-x.x-index c.loop-x.m c.loop-x.s c.loop-x.invariant c.loop-x-test.true c.insert_count-k.result c.insert-s.result (c.insert_count-k.ensures (base_numbered a.kind)) c.insert-s.ensures

pub returns : goal.returns
returns c =
    let front : take c.args.n c.first-s.result ≡ take c.args.n c.args.atoms = let a = c.args in
    (first_front a.atoms c.first-s.result a.n c.well_formed.1.0.1.0.1 c.requires.n_le_most_elements c.first-s.ensures).0 in
    let fit : length (union (base_numbered c.args.kind) (take c.args.n c.first-s.result) c.args.more.now) ≤ 4 = let a = c.args in
    omega (arith, ap (λ (x : List (List ℕ)). length (union (base_numbered a.kind) x a.more.now)) (front), c.requires.more_len_bound) in
    let a = c.args in
    united_end (base_numbered a.kind) (take a.n c.first-s.result) a.more.now (fit) c.loop-x.x-index c.loop-x.m c.loop-x.s c.loop-x.invariant c.loop-x-test.false
    ∙ ap (λ (x : List (List ℕ)). padded (union (base_numbered a.kind) x a.more.now)) (front)
