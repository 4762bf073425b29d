-- The characters of a string, which as many turns as the text has bytes pass: from one position to the next it makes no difference how many are left. Assumes nothing.
use Rattle.std.specs.Prelude.{Err}
use Rattle.model.specs.declared.ReadError.TheVariants.{Stop}
use Rattle.std.specs.declared.ops.ControlFlow.TheVariants.{Continue, Break}
use Rattle.model.specs.Scan.{Read, Next}
use mathlib.Core.Path.{◌≡◌, refl, sym, subst, ◌∙◌}
use mathlib.Core.List.{List}
use mathlib.Core.Bool.{Bool, true, false}
use Prim.Native.Nat.{ℕ, zero, suc, ◌+◌, ◌<◌, ◌≤◌}
use native.Mathlib.Omega.{arith}
use lib.ListN.{length, get_or-eq_default}
use Rattle.model.specs.Scan.{byte, run, passing}
use Rattle.model.specs.Strings.{char_by, char_turn, body_at, going, form_at, rest_of, in_range}
use Rattle.scan.specs.Strings.{is_plain}
use Rattle.scan.proofs.Past.{PastNext, char_past}
use Rattle.scan.proofs.Plain.{plain_next}

module _ (s : List ℕ) where
  -- a character begins within the text and ends past where it begins
  pub goes_on : (i e : ℕ) → char_by s i (byte s i) ≡ Continue e → (i < e) × (e ≤ length s)
  goes_on i e q = subst (PastNext s (suc i)) q (char_past s i)

  past_end : (i : ℕ) → length s ≤ i → char_by s i (byte s i) ≡ Break (Err (Stop i))
  unfolding char_by going form_at rest_of in_range
  past_end i h = rw (get_or-eq_default s 256 h)

  -- a turn that goes on, and the last one
  more : (n i : ℕ) {e : ℕ} → char_by s i (byte s i) ≡ Continue e → (run (char_turn s) (suc n) i).read ≡ (run (char_turn s) n e).read
  unfolding run
  more n i q = rw (run, q)

  last : (n i : ℕ) {r : Read} → char_by s i (byte s i) ≡ Break r → (run (char_turn s) (suc n) i).read ≡ r
  unfolding run
  last n i q = rw (run, q)

  same : (n m i : ℕ) → length s ≤ n + i → length s ≤ m + i → (run (char_turn s) n i).read ≡ (run (char_turn s) m i).read
  unfolding run
  same zero zero i h g = refl
  same zero (suc m) i h g = sym (last m i (past_end i (omega arith)))
  same (suc n) zero i h g = last n i (past_end i (omega arith))
  same (suc n) (suc m) i h g = go (char_by s i (byte s i)) refl (same n m)
    where
      go : (q : Next) → char_by s i (byte s i) ≡ q → ((e : ℕ) → length s ≤ n + e → length s ≤ m + e → (run (char_turn s) n e).read ≡ (run (char_turn s) m e).read)
          → (run (char_turn s) (suc n) i).read ≡ (run (char_turn s) (suc m) i).read
      go (Continue e) q ih = let o = goes_on i e q in more n i q ∙ ih e (omega (arith, o.0)) (omega (arith, o.0)) ∙ sym (more m i q)
      go (Break r) q ih = last n i q ∙ sym (last m i q)

  -- one turn more
  turned : (i : ℕ) → (body_at s i).read ≡ (run (char_turn s) (suc (length s)) i).read
  turned i = same (length s) (suc (length s)) i (omega arith) (omega arith)

  pub body_more : (i e : ℕ) → char_by s i (byte s i) ≡ Continue e → (body_at s i).read ≡ (body_at s e).read
  body_more i e q = turned i ∙ more (length s) i q

  pub body_done : (i : ℕ) (r : Read) → char_by s i (byte s i) ≡ Break r → (body_at s i).read ≡ r
  body_done i r q = turned i ∙ last (length s) i q

  -- plain bytes are passed at once
  pub body_passing : (n i : ℕ) → (body_at s i).read ≡ (body_at s (passing is_plain s n i)).read
  unfolding passing
  body_passing zero i = refl
  body_passing (suc n) i = go (is_plain (byte s i)) refl (body_passing n (i + 1))
    where
      go : (b : Bool) → is_plain (byte s i) ≡ b → (body_at s (i + 1)).read ≡ (body_at s (passing is_plain s n (i + 1))).read → (body_at s i).read ≡ (body_at s (passing is_plain s (suc n) i)).read
      go true e ih = rw (passing, e) (body_more i (i + 1) (plain_next s i (byte s i) e) ∙ ih)
      go false e ih = rw (passing, e)

  pub passing_from : (f : ℕ → Bool) (n i : ℕ) → i ≤ passing f s n i
  unfolding passing
  passing_from f zero i = omega arith
  passing_from f (suc n) i = go (f (byte s i)) refl (passing_from f n (i + 1))
    where
      go : (b : Bool) → f (byte s i) ≡ b → i + 1 ≤ passing f s n (i + 1) → i ≤ passing f s (suc n) i
      go true e h = rw (passing, e) (omega arith)
      go false e h = rw (passing, e) (omega arith)
