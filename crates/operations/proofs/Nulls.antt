-- Nulls, one for each operation that did not run. Assumes nothing.
use Rattle.std.specs.Prelude.{Option, Some, None}
use mathlib.Core.Path.{◌≡◌, ap}
use mathlib.Core.List.{List, [], ◌++◌, map}
use mathlib.Core.Bool.{false}
use Prim.Native.Nat.{ℕ}
use Rattle.inner.specs.Positions.{next_item}
use Rattle.json_writer.specs.Texts.{comma_text, joined, null_text}
use Rattle.nav.proofs.Walk.{walk_end, walk_rest}
use Rattle.operations.specs.Running.{nulls_from}

module _ (s : List ℕ) {g : Option ℕ} where
  pub nulls_next : {p : ℕ} → g ≡ Some p → joined false (nulls_from s g) ≡ comma_text false ++ (null_text ++ joined false (nulls_from s (next_item s p)))
  unfolding nulls_from
  nulls_next h = ap (λ l. joined false (map (λ j. null_text) l)) (walk_rest s h)

  pub nulls_end : g ≡ None → joined false (nulls_from s g) ≡ []
  unfolding nulls_from
  nulls_end h = ap (λ l. joined false (map (λ j. null_text) l)) (walk_end s h)
