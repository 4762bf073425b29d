-- How long characters are, and strings without escapes. Assumes nothing.
use Rattle.std.specs.Prelude.{Ok, Err}
use Rattle.model.specs.declared.ReadError.TheVariants.{Stop}
use Rattle.std.specs.declared.ops.ControlFlow.TheVariants.{Continue, Break}
use Rattle.model.specs.Scan.{Read, Next}
use Rattle.std.specs.Prelude.{Some, None}
use mathlib.Core.Path.{◌≡◌, refl, sym, ap, subst, ◌∙◌}
use mathlib.Core.List.{List, ◌++◌}
use mathlib.Core.Bool.{Bool, true, false}
use Prim.Native.Nat.{ℕ, zero, suc, ◌+◌, ◌-◌, ◌<◌, ◌≤◌}
use native.Mathlib.Nat.{sub_self}
use native.Mathlib.Omega.{arith}
use lib.Dec.{eqb, ltb}
use borrow.Author.Tests.{eqb-true, eq-eqb}
use lib.ListN.{length, take, drop, length-append, length-take}
use lib.Seq.{take-add, drop-drop}
use Rattle.model.specs.Scan.{byte, between, run}
use Rattle.model.specs.Strings.{short_of, utf8, escaped_at, going, escape_by, char_by, char_bytes, char_adds, char_turn}
use Rattle.inner.specs.Positions.{quote_end, quote_from}
use Rattle.scan.proofs.Past.{by_test, Past, PastNext, char_past, unit_far}
use Rattle.nav.proofs.FirstByte.{split}

-- at most four bytes a character that is written as an escape
Small : List ℕ → Type 0
Small bs = length bs ≤ 4

utf8_small : (v : ℕ) → Small (utf8 v)
unfolding utf8 Small
utf8_small v =
    by_test Small (ltb v 128) (λ t. omega arith) (λ t. by_test Small (ltb v 2048) (λ t. omega arith) (λ t. by_test Small (ltb v 65536) (λ t. omega arith) (λ t. omega arith)))

module _ (s : List ℕ) where
  pub escape_small : (at e b : ℕ) → b ≡ 92 → length (char_bytes s at e b) ≤ 4
  unfolding char_bytes Small
  escape_small at e b h =
      rw (char_bytes, eq-eqb b 92 h)
      (by_test Small (eqb (byte s (at + 1)) 117) (λ t. utf8_small (escaped_at s (at + 2)).tree) (λ t. omega arith))

  between_size : (a e : ℕ) → length (between s a e) ≤ e - a
  between_size a e = omega (arith, length-take (e - a) (drop a s))

  -- a character stands for no more bytes than it is written with
  pub char_size : (at e : ℕ) → char_by s at (byte s at) ≡ Continue e → length (char_bytes s at e (byte s at)) ≤ e - at
  unfolding char_by char_bytes escape_by short_of
  char_size at e h = split (eqb (byte s at) 92) back plain
    where
      plain : eqb (byte s at) 92 ≡ false → length (char_bytes s at e (byte s at)) ≤ e - at
      plain t = rw (char_bytes, t) (between_size at e)

      back : eqb (byte s at) 92 ≡ true → length (char_bytes s at e (byte s at)) ≤ e - at
      back t =
          let b : byte s at ≡ 92 = eqb-true (byte s at) 92 t in
          let c = byte s (at + 1) in
          let g : escape_by s (at + 1) c ≡ Continue e = sym (ap (char_by s at) b) ∙ h in
          split (eqb c 117)
          (λ u. let f : going (escaped_at s (at + 1 + 1)).read ≡ Continue e = sym (ap (escape_by s (at + 1)) (eqb-true c 117 u)) ∙ g in
          omega (arith, unit_far s (at + 1 + 1) e f, escape_small at e (byte s at) b))
          (λ u. split (eqb (short_of c) 0)
          (λ z. absurd (let f : Break (Err (Stop (at + 1))) ≡ Continue e = rw (escape_by, z, u) at g in let y : ◌≡◌ {A = ℕ} 0 1 = cc in omega arith))
          (λ z. let f : Continue (at + 1 + 1) ≡ Continue e = rw (escape_by, z) at g in let y : at + 1 + 1 ≡ e = cc in rw (char_bytes, t, u) (omega arith)))

  pub string_size : (n at : ℕ) → length (run (char_turn s) n at).tree ≤ length s - at
  unfolding run char_adds
  string_size zero at = omega arith
  string_size (suc n) at = go (char_by s at (byte s at)) refl (char_past s at) (string_size n)
    where
      go : (q : Next) → char_by s at (byte s at) ≡ q → PastNext s (suc at) (char_by s at (byte s at)) → ((e : ℕ) → length (run (char_turn s) n e).tree ≤ length s - e) → length (run (char_turn s) (suc n) at).tree ≤ length s - at
      go (Continue e) h past ih =
          let p = subst (PastNext s (suc at)) h past in
          let rest = (run (char_turn s) n e).tree in
          rw (run, h, h) (omega (arith, length-append (char_bytes s at e (byte s at)) rest, char_size at e h, ih e, p.0, p.1))
      go (Break r) h past ih = rw (run, h, h) (omega arith)

  join : (a b e : ℕ) → a ≤ b → b ≤ e → between s a b ++ between s b e ≡ between s a e
  join a b e h g =
      let z : e - a ≡ (b - a) + (e - b) = omega arith in
      let y : a + (b - a) ≡ b = omega arith in
      sym (ap (λ n. take n (drop a s)) z ∙ take-add (b - a) (e - b) (drop a s) ∙ ap (λ l. take (b - a) (drop a s) ++ take (e - b) l) (drop-drop (b - a) a s ∙ ap (λ n. drop n s) y))

  -- a string without escapes stands in the text as it is
  pub quote_is : (n at q : ℕ) → quote_from s n at ≡ Some q → ((run (char_turn s) n at).tree ≡ between s at q) × (at ≤ q) × (q < length s)
  unfolding quote_from quote_end run char_adds char_bytes
  quote_is zero at q h = absurd (let y : ◌≡◌ {A = ℕ} 0 1 = cc in omega arith)
  quote_is (suc n) at q h = go (eqb (byte s at) 92) refl (char_by s at (byte s at)) refl (char_past s at) (quote_is n)
    where
      end : (r : Read) → Past s (suc at) r → quote_end at r ≡ Some q → (at ≡ q) × (at < length s)
      end (Ok e) p g = (let y : at ≡ q = cc in y, omega (arith, p.0, p.1))
      end (Err e) p g = absurd (let y : ◌≡◌ {A = ℕ} 0 1 = cc in omega arith)

      go : (b : Bool) → eqb (byte s at) 92 ≡ b → (k : Next) → char_by s at (byte s at) ≡ k → PastNext s (suc at) (char_by s at (byte s at)) →
          ((e p : ℕ) → quote_from s n e ≡ Some p → ((run (char_turn s) n e).tree ≡ between s e p) × (e ≤ p) × (p < length s)) →
          ((run (char_turn s) (suc n) at).tree ≡ between s at q) × (at ≤ q) × (q < length s)
      go true t k c past ih = absurd (let f : None ≡ Some q = rw (quote_from, t) at h in let y : ◌≡◌ {A = ℕ} 0 1 = cc in omega arith)
      go false t (Continue e) c past ih =
          let p = subst (PastNext s (suc at)) c past in
          let r = ih e q (rw (quote_from, t, c) at h) in
          (rw (run, c, c, char_bytes, t) (ap (λ l. between s at e ++ l) r.0 ∙ join at e q (omega (arith, p.0)) r.1), omega (arith, p.0, r.1), r.2)
      go false t (Break r) c past ih =
          let p = subst (PastNext s (suc at)) c past in
          let f = end r p (rw (quote_from, t, c) at h) in
          (rw (run, c, c, ← f.0, sub_self), omega (arith, f.0), rw (← f.0) f.1)
