-- `uuids::id_at` meets its contract.
use mathlib.Core.Path.{◌≡◌, sym, ap, subst, ◌∙◌}
use native.Mathlib.Omega.{arith}
use lib.ListN.{length, replicate}
use Rattle.model.specs.Strings.{body_at}
use Rattle.model.specs.Json.{str}
use Rattle.inner.specs.Positions.{tree_at}
use Rattle.model.specs.Written.{uuid_from}
use Rattle.text.proofs.Words.{place_tree, place_none}
use Rattle.uuids.specs.Ids.{Spells}
use Rattle.uuids.proofs.Spelling.{not_36}
use Rattle.uuids.proofs.Decoded.{fitted, over, no_id, id_string}
use Rattle.uuids.proofs.id_at.Goals as goal

pub returns-in_default : goal.returns-in_default
unfolding Spells
returns-in_default c =
    let a = c.args in
    no_id (tree_at a.text.now a.at) (place_none a.text.now a.at (sym c.body_at-f.ensures ∙ c.in_default.is))

pub slice_bounds-buf-end : goal.slice_bounds-buf-end
slice_bounds-buf-end c =
    let f = fitted {before = replicate 36 0} c.decode-w.ensures c.in-Some-w.is in
    omega (arith, f.0, f.1)

pub slice_bounds-id_of-end : goal.slice_bounds-id_of-end
slice_bounds-id_of-end c =
    let f = fitted {before = replicate 36 0} c.decode-w.ensures c.in-Some-w.is in
    f.0 ∙ sym (ap length f.2)

pub returns-in-Some-w : goal.returns-in-Some-w
returns-in-Some-w c =
    let tree : tree_at c.args.text.now c.args.at ≡ str (body_at c.args.text.now c.in-Some.i).tree = place_tree c.args.text.now c.args.at (sym c.body_at-f.ensures ∙ c.in-Some.is) in
    let f = fitted {before = replicate 36 0} c.decode-w.ensures c.in-Some-w.is in
    subst (Spells c.id_of.result) (ap (uuid_from 0 0) f.2 ∙ sym (id_string (tree))) c.id_of.ensures

pub returns-in-None : goal.returns-in-None
unfolding Spells
returns-in-None c =
    let tree : tree_at c.args.text.now c.args.at ≡ str (body_at c.args.text.now c.in-Some.i).tree = place_tree c.args.text.now c.args.at (sym c.body_at-f.ensures ∙ c.in-Some.is) in
    let g = over {before = replicate 36 0} c.decode-w.ensures c.in-None.is in
    id_string (tree) ∙ not_36 0 0 (body_at c.args.text.now c.in-Some.i).tree (λ e. omega (arith, e, g))
