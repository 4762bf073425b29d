-- `names::name_at` meets its contract.
use mathlib.Core.Path.{◌≡◌, sym, ◌∙◌}
use mathlib.Core.Bool.{true}
use Prim.Native.Nat.{◌+◌}
use native.Mathlib.Omega.{arith}
use Rattle.model.specs.Scan.{spaces_at}
use Rattle.model.specs.Nav.{kind_of, is_text}
use Rattle.inner.specs.Positions.{tree_at}
use Rattle.text.proofs.Words.{place_text, place_none}
use Rattle.names.proofs.Cells.{name_none, name_long, name_short}
use Rattle.names.proofs.name_at.Goals as goal

pub returns-in_default : goal.returns-in_default
returns-in_default c =
    name_none _ (place_none c.args.text.now c.args.at (sym c.body_at-f.ensures ∙ c.in_default.is))

pub overflow_cast-cell : goal.overflow_cast-cell
overflow_cast-cell c =
    let told : (is_text (kind_of (tree_at c.args.text.now c.args.at)) ≡ true) × (c.in-Some.i ≡ spaces_at c.args.text.now c.args.at + 1) = place_text c.args.text.now c.args.at (sym c.body_at-f.ensures ∙ c.in-Some.is) in
    let a = c.args in
    omega (arith, (name_short a.text.now a.at (told).0 (told).1 c.decode-w.ensures c.in-Some-w.is).0)

pub returns-in-Some-w : goal.returns-in-Some-w
returns-in-Some-w c =
    let told : (is_text (kind_of (tree_at c.args.text.now c.args.at)) ≡ true) × (c.in-Some.i ≡ spaces_at c.args.text.now c.args.at + 1) = place_text c.args.text.now c.args.at (sym c.body_at-f.ensures ∙ c.in-Some.is) in
    let a = c.args in
    (name_short a.text.now a.at (told).0 (told).1 c.decode-w.ensures c.in-Some-w.is).1

pub returns-in-None : goal.returns-in-None
returns-in-None c =
    let told : (is_text (kind_of (tree_at c.args.text.now c.args.at)) ≡ true) × (c.in-Some.i ≡ spaces_at c.args.text.now c.args.at + 1) = place_text c.args.text.now c.args.at (sym c.body_at-f.ensures ∙ c.in-Some.is) in
    let a = c.args in
    name_long a.text.now a.at (told).0 (told).1 c.decode-w.ensures c.in-None.is
