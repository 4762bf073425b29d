-- The two collections agree: whatever keeps the promise of collection leaves the same rows, as many. Assumes nothing.
use mathlib.Core.Path.{◌≡◌, sym, ap, ◌∙◌}
use mathlib.Core.List.{List}
use Prim.Native.Nat.{ℕ}
use lib.ListN.{length}
use Rattle.model.specs.Schema.{Schema}
use Rattle.inner.specs.Working.{working}
use Rattle.inner.proofs.Working.{working_length}
use Rattle.garbage.specs.Loose.{Collected}

-- for every schema and all rows: what one leaves and what the other leaves
module _ (s : Schema) (n a b : ℕ) (entry x y : List (List (List ℕ))) (p : Collected s n a entry x) (q : Collected s n b entry y) where
  pub collections_agree : working s a x ≡ working s b y
  collections_agree = p.rows ∙ sym q.rows

  pub counts_agree : a ≡ b
  counts_agree = sym (working_length s x a p.ordered.there) ∙ ap length collections_agree ∙ working_length s y b q.ordered.there
