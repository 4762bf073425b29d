-- What a column's type says fits the bytes that its cell has for it. Assumes nothing.
use mathlib.Core.Path.{◌≡◌, ap, ◌∙◌}
use mathlib.Core.List.{List}
use mathlib.Core.Bool.{true}
use Prim.Native.Nat.{ℕ, ◌≤◌}
use native.Mathlib.Omega.{arith}
use borrow.Author.Tests.{leb-true}
use lib.IntN.{ℤ}
use Rattle.model.specs.Octets.{big, value, twos}
use Rattle.model.specs.Json.{Json, Named}
use Rattle.model.specs.Schema.{Base}
use Rattle.model.specs.Value.{from_twos}
use Rattle.model.specs.SchemaText.{low_of, high_of, min_of, max_of, type_tests, type_members, type_fits}
use Rattle.model.proofs.Tests.{parts}
use Rattle.model.proofs.Octets.{value_big_fits}
use Rattle.model.proofs.SchemaLaws.{max_sane}
use Rattle.model.proofs.Signed.{fits64, twos_fits}
use Rattle.model.proofs.Wholes.{low_fits, high_fits}

-- what eight bytes say of an integer that fits them
back : (z : ℤ) → fits64 z ≡ true → from_twos (value (big 8 (twos 64 z))) ≡ z
back z h = ap from_twos (value_big_fits 8 (twos 64 z) (twos_fits z h).1) ∙ (twos_fits z h).0

pub low_back : (k : Base) (ms : List Named) {z : ℤ} → z ≡ low_of k ms → from_twos (value (big 8 (twos 64 z))) ≡ low_of k ms
low_back k ms e = ap (λ (x : ℤ). from_twos (value (big 8 (twos 64 x)))) e ∙ back (low_of k ms) (low_fits k ms)

pub high_back : (k : Base) (ms : List Named) {z : ℤ} → z ≡ high_of k ms → from_twos (value (big 8 (twos 64 z))) ≡ high_of k ms
high_back k ms e = ap (λ (x : ℤ). from_twos (value (big 8 (twos 64 x)))) e ∙ back (high_of k ms) (high_fits k ms)

-- ── how many elements ──
pub sizes_few : (tables : List (List ℕ)) (j : Json) → type_fits tables j ≡ true → (min_of (type_members j) ≤ 4) × (max_of (type_members j) ≤ 4)
unfolding type_fits
sizes_few tables j h =
    let ts : List Named = type_members j in
    let t = parts (type_tests tables ts) h in
    let m = (max_sane ts t.1.1.1.0).1 in
    let n = leb-true (min_of ts) (max_of ts) t.1.1.1.1.0 in
    (omega arith, m)
