-- What an atom's type says of it: 25 bytes. Assumes nothing.
use mathlib.Core.Path.{◌≡◌}
use mathlib.Core.Bool.{true}
use mathlib.Core.List.{List}
use Prim.Native.Nat.{ℕ}
use borrow.Author.Tests.{eq-eqb}
use lib.ListN.{length}
use Rattle.model.specs.Base.{all}
use Rattle.model.specs.Value.{byte_atom}
use Rattle.model.proofs.Octets.{octet}

pub sized_atom : (a : List ℕ) → length a ≡ 25 → all octet a ≡ true → byte_atom a ≡ true
sized_atom a n h = rw (eq-eqb (length a) 25 n, h)
