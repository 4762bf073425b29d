-- `area::atoms_at` meets its contract.
use mathlib.Core.Path.{◌≡◌, sym, ap, ◌∙◌}
use mathlib.Core.List.{[], ◌∷◌}
use Prim.Native.Nat.{◌+◌, ◌*◌}
use lib.ListN.{take, drop}
use lib.Seq.{drop-drop}
use Rattle.area.proofs.atoms_at.Goals as goal

pub returns : goal.returns
returns c =
    let a = c.args.area.now in
    let at = c.args.at in
    let two : drop (at + 25 * 2) a ≡ drop 25 (drop 25 (drop at a)) = sym (drop-drop 25 25 (drop at a) ∙ drop-drop 50 at a) in
    let three : drop (at + 25 * 3) a ≡ drop 25 (drop 25 (drop 25 (drop at a))) = sym (ap (drop 25) (drop-drop 25 25 (drop at a)) ∙ drop-drop 25 50 (drop at a) ∙ drop-drop 75 at a) in
    λ j. c.bytes_at.ensures j
    ∷ (c.bytes_at-2.ensures ∙ ap (take 25) (sym (drop-drop 25 at a))) j
    ∷ (c.bytes_at-3.ensures ∙ ap (take 25) two) j
    ∷ (c.bytes_at-4.ensures ∙ ap (take 25) three) j
    ∷ []
