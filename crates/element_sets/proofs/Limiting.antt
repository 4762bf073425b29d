-- The limits of a column, as the code compares them. Assumes nothing.
use mathlib.Core.Path.{◌≡◌, sym, ap, ◌∙◌}
use mathlib.Core.Bool.{true, not}
use mathlib.Core.List.{List}
use Prim.Native.Nat.{ℕ, ◌<◌}
use native.Mathlib.Omega.{arith}
use lib.Dec.{eqb, ltb, leb}
use lib.Signed.{le_z}
use borrow.Author.Tests.{eqb-true, eqb-false}
use Rattle.std.proofs.lemmas.Bool.Decides.{nat_tests}
use Rattle.model.specs.Schema.{Column}
use Rattle.model.specs.Catalog.{base_numbered}
use Rattle.model.specs.Value.{from_twos, atom_in_limits}
use Rattle.model.proofs.Tests.{split}
use Rattle.model.proofs.Signed.{le_z_is}
use Rattle.leaf.specs.Bytes.{halves}
use Rattle.atom.proofs.Types.{base_boolean, base_uuid, halves_less}

leb_is : (a b : ℕ) → leb a b ≡ not (ltb b a)
leb_is a b = grind (arith, nat_tests)

pub at_most_is : (x y : ℕ) → x < 18446744073709551616 → y < 18446744073709551616 → leb (halves x) (halves y) ≡ le_z (from_twos x) (from_twos y)
at_most_is x y h g = leb_is (halves x) (halves y) ∙ ap not (halves_less y x g h) ∙ sym (le_z_is (from_twos x) (from_twos y))

-- truth values and ids have none
pub unlimited : (c : Column) (k : ℕ) (a : List ℕ) → (k ≡ 0 → ⊥) → (k ≡ 2 → ⊥) → atom_in_limits c (base_numbered k) a ≡ true
unlimited c k a h g = split (eqb k 1)
    (λ e. ap (λ b. atom_in_limits c b a) (base_boolean k (eqb-true k 1 e)))
    (λ e. ap (λ b. atom_in_limits c b a) (base_uuid k h (eqb-false k 1 e) g))
