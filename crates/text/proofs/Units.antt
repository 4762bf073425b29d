-- The character that the code makes of a \u escape is the one that the definitions say. Assumes nothing.
use Rattle.std.specs.Prelude.{Ok, Err}
use Rattle.scan.specs.Units.{Hex}
use mathlib.Core.Path.{◌≡◌, refl, sym, ap, subst, ◌∙◌}
use mathlib.Core.List.{List}
use Prim.Native.Nat.{ℕ, ◌<◌, ◌≤◌}
use native.Mathlib.Omega.{arith}
use Rattle.model.specs.Scan.{within_at}
use Rattle.model.specs.Strings.{◌to◌, in_range, is_first_half, utf8, pair_of, paired, escaped_from, escaped_at}
use Rattle.scan.specs.Units.{hex_at, low_at}
use Rattle.text.specs.Units.{unit_or, unit_end, character_of, escape_bytes}
use Rattle.model.proofs.Tests.{split}
use Rattle.model.proofs.Utf8.{of_range}
use Rattle.model.proofs.TextUtf8.{Number, First, Second, unit_is, second_from_lem}
use Rattle.scan.proofs.Same.{parsed, unit_same, second_half_same}

unit_tree : (h : Hex) → unit_or h ≡ (parsed h).tree
unit_tree (Ok (e, v)) = refl
unit_tree (Err e) = refl

module _ (s : List ℕ) where
  -- four digits, and those of a second half
  pub unit_below : (at : ℕ) → unit_or (hex_at s at) < 65536
  unit_below at = go (hex_at s at) (subst (Number First) (sym (unit_same s at)) (unit_is s at))
    where
      go : (h : Hex) → Number First (parsed h) → unit_or h < 65536
      go (Ok (e, v)) f = f.1.0
      go (Err e) f = omega arith

  pub second_below : (e : ℕ) → unit_or (low_at s e) ≤ 57343
  second_below e = go (low_at s e) (subst (Number Second) (sym (second_half_same s e)) (second_from_lem s (within_at s 117 117 (within_at s 92 92 (Ok e)))))
    where
      go : (h : Hex) → Number Second (parsed h) → unit_or h ≤ 57343
      go (Ok (e, v)) f = f.1
      go (Err e) f = omega arith

  -- the character of an escape
  character_tree : (h : Hex) → character_of (unit_or h) (unit_or (low_at s (unit_end h))) ≡ (escaped_from s (parsed h)).tree
  unfolding character_of escaped_from paired in_range
  character_tree (Err e) = refl
  character_tree (Ok (e, v)) = split (is_first_half v)
      (λ t. rw (character_of, escaped_from, t) (ap (pair_of v) (unit_tree (low_at s e) ∙ ap (λ p. p.tree) (second_half_same s e))))
      (λ t. rw (character_of, escaped_from, t))

  pub escape_bytes_same : (at : ℕ) → escape_bytes s (hex_at s at) ≡ utf8 (escaped_at s at).tree
  escape_bytes_same at = ap utf8 (character_tree (hex_at s at) ∙ ap (λ p. (escaped_from s p).tree) (unit_same s at))

-- a character is at most 10FFFF
pub character_below : (v w : ℕ) → v < 65536 → w ≤ 57343 → character_of v w < 1114112
unfolding character_of
character_below v w h g = split (is_first_half v) (λ t. let r = of_range (55296 to 56319) v t in rw (character_of, t) (omega (arith, r.1))) (λ t. rw (character_of, t) (omega arith))
