-- `request::parts` meets its contract.
use Rattle.std.specs.Prelude.{Option, ℕ}
use mathlib.Core.Path.{refl, sym, ap, subst, ◌∙◌}
use mathlib.Core.Bool.{Bool, ◌&&◌}
use Rattle.model.specs.Nav.{is_text}
use Rattle.nav.proofs.FirstByte.{items_in_lem}
use Rattle.nav.proofs.Walk.{walk_fine}
use Rattle.request.proofs.Objects.{parted_none, parted_some}
use Rattle.request.specs.Reading.{Counted}
use Rattle.inner.specs.Positions.{items_from}
use Rattle.request.proofs.parts.Goals as goal

pub returns-in_default : goal.returns-in_default
returns-in_default c =
    parted_none c.args.text.now (sym c.first-f.ensures ∙ c.in_default.is) c.requires.text_value c.refused.result c.refused.ensures

pub few_objects-o-requires : goal.few_objects-o-requires
few_objects-o-requires c =
    let s = c.args.text.now in
    record { says = c.requires.says; f_value = rw c.next_item-g.ensures (walk_fine s (sym c.first-f.ensures ∙ c.in-Some.is) (items_in_lem s 0 c.requires.text_value).1).1 }

pub returns : goal.returns
returns c =
    let s = c.args.text.now in
    let n = c.next_item-g.ensures in
    parted_some s (sym c.first-f.ensures ∙ c.in-Some.is) c.requires.text_value _ refl n
    (subst (λ (g : Option ℕ). Counted (items_from s g) c.few_objects-o.result) n c.few_objects-o.ensures) (ap (λ (b : Bool). b && c.few_objects-o.result.few) (c.is_kind-t.ensures ∙ ap is_text c.kind_at-k.ensures)) refl
