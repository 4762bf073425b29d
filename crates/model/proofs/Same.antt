-- A commit writes nothing exactly when it changes nothing. Assumes nothing.
use Rattle.std.specs.Prelude.{Some}
use mathlib.Core.Path.{◌≡◌, refl, subst}
use mathlib.Core.List.{List, [], ◌∷◌, ◌++◌}
use Prim.Native.Nat.{ℕ, suc}
use native.Mathlib.Omega.{arith}
use borrow.Author.Tests.{eq-eqb, ne_eqb}
use Rattle.model.specs.Schema.{Schema}
use Rattle.model.specs.Value.{Value, same_value}
use Rattle.model.specs.Rows.{Row, key, find}
use Rattle.model.specs.Records.{gones, writes, walk, diff}
use Rattle.model.proofs.Order.{Sorted, Good}
use lib.Seq.{append_snoc}
use Rattle.model.proofs.Tests.{value_self}
use Rattle.model.proofs.Seams.{Below, has_at, below_at}
use Rattle.model.proofs.Heart.{diff_acts}

writes_self : (t i c : ℕ) (vs : List Value) → writes same_value t i c vs vs ≡ []
writes_self t i c [] = refl
writes_self t i c (v ∷ vs) = rw (value_self v, writes_self t i (suc c) vs)

find_at : (d : List Row) (r : Row) (p : List Row) → Below d (key r) → find (key r) (d ++ r ∷ p) ≡ Some r
find_at [] r p h = rw (eq-eqb (key r) (key r) refl)
find_at (x ∷ d) r p h = rw (ne_eqb (key r) (key x) (omega arith), find_at d r p h.1)

-- the rows of a list that ends in `rest`, looked for in the whole of it
module _ (s : Schema) where
  gones_self : (d rest : List Row) → gones (d ++ rest) rest ≡ []
  gones_self d [] = refl
  gones_self d (r ∷ rest) = rw (has_at d r rest) (subst (λ (l : List Row). gones l rest ≡ []) (append_snoc d r rest) (gones_self (d ++ r ∷ []) rest))

  walk_self : (d rest : List Row) → Sorted (d ++ rest) → walk s (d ++ rest) rest ≡ []
  walk_self d [] o = refl
  walk_self d (r ∷ rest) o =
      rw (find_at d r rest (below_at d r rest o), writes_self r.table r.id 0 r.columns)
      (subst (λ (l : List Row). walk s l rest ≡ []) (append_snoc d r rest) (walk_self (d ++ r ∷ []) rest (rw (append_snoc d r rest) o)))

  pub diff_self : (rows : List Row) → Sorted rows → diff s rows rows ≡ []
  diff_self rows o = rw (gones_self [] rows, walk_self [] rows o)

  pub diff_none : (before after : List Row) → Good s before → Good s after → diff s before after ≡ [] → before ≡ after
  diff_none before after g h e = rw e at (diff_acts s before after g h)
