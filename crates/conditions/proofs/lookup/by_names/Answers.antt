-- `conditions::lookup::by_names` meets its contract.
use Rattle.std.specs.Prelude.{Some, None}
use mathlib.Core.Path.{◌≡◌, sym, ap, ◌∙◌}
use mathlib.Core.Bool.{Bool, true, false, ◌&&◌}
use Prim.Native.Nat.{ℕ}
use Rattle.inner.specs.Positions.{tree_at}
use Rattle.model.specs.Nav.{kind_of, is_text}
use Rattle.conditions.specs.Lookup.{by_names}
use Rattle.conditions.proofs.lookup.by_names.Goals as goal

chosen : (x y p q t : Bool) (a b c : ℕ) → x ≡ p → y ≡ q → (x && y) ≡ t → (elim t [ true ↦ Some (a, b, c) | false ↦ None ]) ≡ by_names p q a b c
unfolding by_names
chosen x y p q t a b c e f h = ap (λ z. elim z [ true ↦ Some (a, b, c) | false ↦ None ]) (sym h ∙ ap (λ z. z && y) e ∙ ap (λ z. p && z) f)

pub returns-then-x-y : goal.returns-then-x-y
returns-then-x-y c =
    let s = c.args.text.now in
    chosen c.is_kind-x.result c.is_kind-y.result (is_text (kind_of (tree_at s c.args.a))) (is_text (kind_of (tree_at s c.args.b))) true c.args.a c.args.b c.args.c (c.is_kind-x.ensures ∙ ap is_text c.kind_at-k.ensures) (c.is_kind-y.ensures ∙ ap is_text c.kind_at-l.ensures) c.if-x-y.true

pub returns : goal.returns
returns c =
    let s = c.args.text.now in
    chosen c.is_kind-x.result c.is_kind-y.result (is_text (kind_of (tree_at s c.args.a))) (is_text (kind_of (tree_at s c.args.b))) false c.args.a c.args.b c.args.c (c.is_kind-x.ensures ∙ ap is_text c.kind_at-k.ensures) (c.is_kind-y.ensures ∙ ap is_text c.kind_at-l.ensures) c.if-x-y.false
