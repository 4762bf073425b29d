-- `text::string_at` meets its contract.
use mathlib.Core.Path.{◌≡◌, sym, ◌∙◌}
use Prim.Native.Nat.{◌+◌}
use mathlib.Core.Bool.{true}
use Rattle.model.specs.Scan.{spaces_at}
use Rattle.model.specs.Nav.{kind_of, is_text}
use Rattle.inner.specs.Positions.{tree_at}
use Rattle.text.proofs.Words.{place_text, place_none, none_held, plain_from, plain_held, decoded_held}
use Rattle.text.proofs.string_at.Goals as goal

pub returns-in_default : goal.returns-in_default
returns-in_default c =
    let a = c.args in
    none_held a.text.now a.at _ (place_none a.text.now a.at (sym c.body_at-f.ensures ∙ c.in_default.is))

pub overflow_sub-result : goal.overflow_sub-result
overflow_sub-result c =
    let told : (is_text (kind_of (tree_at c.args.text.now c.args.at)) ≡ true) × (c.in-Some.j ≡ spaces_at c.args.text.now c.args.at + 1) = place_text c.args.text.now c.args.at (sym c.body_at-f.ensures ∙ c.in-Some.is) in
    let a = c.args in
    plain_from a.text.now a.at (told).0 (told).1 (sym c.quote-q.ensures ∙ c.in-Some-q.is)

pub returns-in-Some-q : goal.returns-in-Some-q
returns-in-Some-q c =
    let told : (is_text (kind_of (tree_at c.args.text.now c.args.at)) ≡ true) × (c.in-Some.j ≡ spaces_at c.args.text.now c.args.at + 1) = place_text c.args.text.now c.args.at (sym c.body_at-f.ensures ∙ c.in-Some.is) in
    let a = c.args in
    plain_held a.text.now a.at (told).0 (told).1 _ (sym c.quote-q.ensures ∙ c.in-Some-q.is)

pub returns-in-None : goal.returns-in-None
returns-in-None c =
    let told : (is_text (kind_of (tree_at c.args.text.now c.args.at)) ≡ true) × (c.in-Some.j ≡ spaces_at c.args.text.now c.args.at + 1) = place_text c.args.text.now c.args.at (sym c.body_at-f.ensures ∙ c.in-Some.is) in
    decoded_held c.args.text.now c.args.at (told).0 (told).1 (sym c.quote-q.ensures ∙ c.in-None.is) c.requires c.decode-w.ensures c.count.ensures
