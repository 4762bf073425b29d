-- `catalog::tidied_columns::put_known` meets its contract.
use mathlib.Core.Path.{ap, ◌∙◌}
use mathlib.Core.List.{[], ◌∷◌, ◌++◌}
use Prim.Native.Nat.{ℕ}
use lib.ListN.{drop}
use Rattle.model.specs.SchemaText.{base_number}
use Rattle.model.specs.Catalog.{base_numbered, refers_from, how_refers, target, bit}
use Rattle.catalog.specs.Renewed.{known_bytes}
use Rattle.catalog.proofs.tidied_columns.put_known.Goals as goal

pub returns : goal.returns
unfolding known_bytes
returns c =
    let how = c.refers-how.ensures in
    let base = c.base_of.ensures ∙ ap (λ (x : ℕ). base_number (base_numbered x)) c.kind.ensures in
    let refer = c.how_of.ensures ∙ ap (λ (x : ℕ). how_refers (refers_from x 0)) how in
    let to-which = c.target_of.ensures ∙ (λ i. target (refers_from (how i) (c.target.ensures i))) in
    let changed = c.bit.ensures ∙ ap bit c.is_mutable.ensures in
    c.put_six.ensures ∙ (λ i. (base i ∷ refer i ∷ to-which i ∷ c.minimum.ensures i ∷ c.maximum.ensures i ∷ changed i ∷ []) ++ drop 6 c.args.out.now)
