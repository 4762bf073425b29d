-- `element_atoms::put_boolean` meets its contract.
use mathlib.Core.Path.{sym, ap, ◌∙◌}
use mathlib.Core.List.{List}
use Prim.Native.Nat.{ℕ}
use lib.ListN.{set, replicate}
use Rattle.model.specs.Value.{bool_atom}
use Rattle.element_atoms.proofs.put_boolean.Goals as goal

pub returns-then-b : goal.returns-then-b
returns-then-b c =
    ap (λ (z : List ℕ). set z 0 1) (c.clear.ensures ∙ ap (λ (n : ℕ). replicate {A = ℕ} n 0) c.requires) ∙ ap bool_atom (sym c.if-b.true)

pub returns-else-b : goal.returns-else-b
returns-else-b c =
    c.clear.ensures ∙ ap (λ (n : ℕ). replicate {A = ℕ} n 0) c.requires ∙ ap bool_atom (sym c.if-b.false)
