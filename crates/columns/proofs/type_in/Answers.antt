-- `columns::type_in` meets its contract.
use Prim.Native.Nat.{ℕ, zero, suc, ◌<◌}
use mathlib.Core.Path.{◌≡◌, refl, sym, subst}
use mathlib.Core.List.{map}
use native.Mathlib.Omega.{arith}
use borrow.Author.Tests.{eqb-false, eqb-true}
use Rattle.model.specs.Json.{Json}
use Rattle.model.specs.Catalog.{entry_name}
use Rattle.members.proofs.Slotted.{at_some}
use Rattle.column_types.specs.Types.{TypeRead}
use Rattle.columns.proofs.type_in.Goals as goal

positive : (p : ℕ) → (p ≡ 0 → ⊥) → 0 < p
positive zero h = absurd (h refl)
positive (suc p) h = omega arith

pub returns-then-p-eq0 : goal.returns-then-p-eq0
returns-then-p-eq0 c = record { none = λ e. c.no_type.ensures; some = λ e. absurd (eqb-false _ 0 e c.if-p-eq0.true) }

pub returns-else-p-eq0 : goal.returns-else-p-eq0
returns-else-p-eq0 c =
    record {
      none = λ e. absurd (c.if-p-eq0.false (eqb-true _ 0 e));
      some = λ e. subst (λ (x : Json). TypeRead (map entry_name c.args.tables.now) x c.read_type.result) (sym (at_some c.args.text.now c.if-p-eq0.false)) c.read_type.ensures;
    }
