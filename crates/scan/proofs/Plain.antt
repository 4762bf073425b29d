-- A plain byte is a character by itself, a quote is the last one, and a name with its colon is the colon after a string. Assumes nothing.
use Rattle.std.specs.Prelude.{Ok, Err}
use Rattle.std.specs.declared.ops.ControlFlow.TheVariants.{Continue, Break}
use Rattle.model.specs.Scan.{Read}
use mathlib.Core.Path.{◌≡◌, refl}
use mathlib.Core.List.{List}
use mathlib.Core.Bool.{true, not, ◌&&◌}
use Prim.Native.Nat.{ℕ, ◌+◌, ◌<◌, ◌≤◌}
use lib.ListN.{length}
use lib.Dec.{ltb, leb, eqb}
use borrow.Author.Tests.{ltb-true, leb-true, eqb-false, not-true, ne_eqb, eq-eqb, le-ltb}
use Rattle.model.specs.Scan.{byte, spaces_at, and_then, then_read}
use Rattle.model.specs.Strings.{char_by, string_at}
use Rattle.model.specs.Json.{key_at}
use Rattle.scan.specs.Strings.{is_plain, colon_at}
use Rattle.model.proofs.Tests.{and_l, and_r}
use Rattle.scan.proofs.Bytes.{inside_test}
use Rattle.scan.proofs.Same.{ascii_goes}

-- where a plain byte stands, the text goes on
pub inside_plain : (s : List ℕ) (i : ℕ) → is_plain (byte s i) ≡ true → i < length s
unfolding is_plain
inside_plain s i e = inside_test is_plain refl s i e

-- what a plain byte is
pub plain_is : (b : ℕ) → is_plain b ≡ true → (32 ≤ b) × (b < 128) × (b ≡ 34 → ⊥) × (b ≡ 92 → ⊥)
unfolding is_plain
plain_is b e =
    let q = and_l (leb 32 b && ltb b 128 && not (eqb b 34)) (not (eqb b 92)) e in
    let r = and_l (leb 32 b && ltb b 128) (not (eqb b 34)) q in
    (leb-true 32 b (and_l (leb 32 b) (ltb b 128) r), ltb-true b 128 (and_r (leb 32 b) (ltb b 128) r), apart 34 (and_r (leb 32 b && ltb b 128) (not (eqb b 34)) q), apart 92 (and_r (leb 32 b && ltb b 128 && not (eqb b 34)) (not (eqb b 92)) e))
  where
    apart : (n : ℕ) → not (eqb b n) ≡ true → b ≡ n → ⊥
    apart n h = eqb-false b n (not-true (eqb b n) h)

pub plain_next : (s : List ℕ) (at b : ℕ) → is_plain b ≡ true → char_by s at b ≡ Continue (at + 1)
unfolding char_by
plain_next s at b e =
    let p = plain_is b e in
    rw (char_by, ne_eqb _ _ p.2, ne_eqb _ _ p.3, le-ltb _ _ p.0, ascii_goes s at b p.1)

-- a quote ends the characters
pub quote_ends : (s : List ℕ) (at b : ℕ) → b ≡ 34 → char_by s at b ≡ Break (Ok (at + 1))
unfolding char_by
quote_ends s at b e = rw (char_by, eq-eqb _ _ e)

pub colon_key : (s : List ℕ) (at : ℕ) → colon_at s (string_at s (spaces_at s at)).read ≡ (key_at s at).read
unfolding colon_at key_at then_read and_then
colon_key s at = go (string_at s (spaces_at s at)).read refl
  where
    go : (r : Read) → (string_at s (spaces_at s at)).read ≡ r → colon_at s (string_at s (spaces_at s at)).read ≡ (key_at s at).read
    go (Ok e) h = rw (colon_at, key_at, h)
    go (Err e) h = rw (colon_at, key_at, h)
