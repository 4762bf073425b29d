-- An operation that no row matches leaves the rows as they were. Assumes nothing.
use Rattle.std.specs.Prelude.{Option}
use mathlib.Core.Path.{◌≡◌, refl, ap}
use mathlib.Core.Bool.{Bool, true, false, not}
use mathlib.Core.List.{List, [], ◌∷◌, map}
use Prim.Native.Nat.{ℕ, suc}
use native.Mathlib.Omega.{arith}
use borrow.Author.Tests.{ltb-false}
use Rattle.model.specs.Base.{keep, count}
use Rattle.model.specs.Value.{Value}
use Rattle.model.specs.Rows.{Row}
use Rattle.model.specs.Faults.{Judged}
use Rattle.model.specs.Mutations.{Mutation, steps}
use Rattle.model.specs.declared.Fault.TheVariants.{Fine}
use Rattle.model.specs.Operations as Model
use Rattle.model.proofs.Tests.{split}
use Rattle.operations.specs.declared.on_table.Reply.TheVariants.{Count}
use Rattle.operations.specs.Ran.{may_change}

-- of rows of which none matches the first does not, and neither does one of the others
none_match : {A : Type 0} (p : A → Bool) (a : A) (l : List A) → count p (a ∷ l) ≡ 0 → (p a ≡ false) × (count p l ≡ 0)
none_match p a l e = split (p a) (λ t. absurd (omega (arith, one t))) (λ f. (f, rw f at e))
  where
    one : p a ≡ true → suc (count p l) ≡ 0
    one t = rw t at e

module _ (p : Row → Bool) where
  pub update_none : (os : List (Option Value)) (rows : List Row) → count p rows ≡ 0 → map (Model.update_row p os) rows ≡ rows
  update_none os [] e = refl
  update_none os (r ∷ rs) e = let n = none_match p r rs e in rw (n.0, update_none os rs n.1)

  pub delete_none : (rows : List Row) → count p rows ≡ 0 → keep (λ (r : Row). not (p r)) rows ≡ rows
  delete_none [] e = refl
  delete_none (r ∷ rs) e = let n = none_match p r rs e in rw (n.0, delete_none rs n.1)

  pub mutate_none : (ms : List Mutation) (rows : List Row) → count p rows ≡ 0 → (Model.mutate_rows p ms rows).got ≡ rows
  mutate_none ms [] e = refl
  mutate_none ms (r ∷ rs) e =
      let n = none_match p r rs e in
      let by : Bool → Judged Row = λ (b : Bool). elim b [ true ↦ steps ms r | false ↦ record { fault = Fine; got = r } ] in
      let one : (Model.mutate_row p ms r).got ≡ r = ap (λ (b : Bool). (by b).got) n.0 in
      cc (one, mutate_none ms rs n.1)

-- a reply that counts no row tells it
pub counts_none : {c k : ℕ} → c ≡ k → may_change (Count c) ≡ false → k ≡ 0
counts_none {c} {k} e h = omega (arith, e, ltb-false 0 c h)
