-- A text that was read to its end: its value is the one at 0, and can be walked. Assumes nothing.
use Rattle.std.specs.Prelude.{Ok, Err}
use Rattle.model.specs.Scan.{Read}
use mathlib.Core.Path.{◌≡◌, refl}
use mathlib.Core.List.{List}
use mathlib.Core.Bool.{true, false}
use Prim.Native.Nat.{ℕ}
use native.Mathlib.Omega.{arith}
use Rattle.model.specs.Scan.{and_then}
use Rattle.model.specs.Json.{value_at, text_at}
use Rattle.model.specs.Nav.{is_read}
use Rattle.inner.specs.Positions.{well_at, tree_at}

pub text_well : (s : List ℕ) → is_read (text_at s).read ≡ true → (well_at s 0 ≡ true) × ((text_at s).tree ≡ tree_at s 0)
unfolding text_at and_then well_at tree_at is_read
text_well s h = go (value_at 12 s 0).read refl
  where
    go : (r : Read) → (value_at 12 s 0).read ≡ r → (well_at s 0 ≡ true) × ((text_at s).tree ≡ tree_at s 0)
    go (Ok e) r = (rw r, rw r)
    go (Err e) r = absurd (let k : false ≡ true = rw (text_at, r) at h in let z : ◌≡◌ {A = ℕ} 0 1 = cc in omega arith)
