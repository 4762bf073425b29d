-- What the table of ends tells: where a value ends, where a member's value begins, and what follows. Assumes nothing.
use Rattle.std.specs.Prelude.{Ok}
use Rattle.model.specs.Scan.{Read}
use mathlib.Core.Path.{◌≡◌, sym, ap, ◌∙◌}
use mathlib.Core.Logic.{⊎_elim}
use mathlib.Core.List.{List}
use Prim.Native.Nat.{ℕ, ◌+◌}
use lib.Dec.{eqb}
use lib.ListN.{get_or}
use Rattle.model.specs.Scan.{byte, spaces_at, within_at, then_read, and_then}
use Rattle.model.specs.Json.{after_item, comma_or, key_at, value_at, member_at}
use Rattle.model.proofs.Tests.{split}
use Rattle.scan.specs.Strings.{colon_at}
use Rattle.scan.proofs.Plain.{colon_key}
use Rattle.scan.proofs.Values.{string_value}
use Rattle.inner.specs.Positions.{Says, found_of}
use Rattle.nav.specs.Known.{next_after}

-- what follows what ends at e
next_known : (s : List ℕ) (close e : ℕ) → next_after s e ≡ found_of (after_item s close (Ok e))
unfolding next_after found_of after_item comma_or
next_known s close e = split (eqb (byte s (spaces_at s e)) 44) (λ t. rw (next_after, comma_or, t)) (λ f. rw (next_after, comma_or, f))

pub next_is : (s : List ℕ) (close : ℕ) {e : ℕ} {r : Read} → Ok e ≡ r → next_after s e ≡ found_of (after_item s close r)
next_is s close {e} h = next_known s close e ∙ ap (λ (r : Read). found_of (after_item s close r)) h

module _ (s ends : List ℕ) (says : Says s ends) where
  -- an entry that is not 0 is where the value ends
  pub end_known : (at : ℕ) {e : ℕ} → e ≡ get_or ends at 0 → (e ≡ 0 → ⊥) → Ok e ≡ (value_at 12 s at).read
  unfolding Says
  end_known at h some = ⊎_elim (λ z. absurd (some (h ∙ z))) (λ q. ap Ok h ∙ sym q) (says at)

  -- a name of which it is known where it ends, and the colon behind it
  pub key_known : (at : ℕ) {e : ℕ} → e ≡ get_or ends at 0 → (e ≡ 0 → ⊥) → byte s (spaces_at s at) ≡ 34 → byte s (spaces_at s e) ≡ 58 → (key_at s at).read ≡ Ok (spaces_at s e + 1)
  unfolding colon_at then_read within_at
  key_known at {e} h some quote colon =
      let name = end_known at h some ∙ string_value 12 s at quote in
      let past : colon_at s (Ok e) ≡ Ok (spaces_at s e + 1) = rw (colon_at, within_at, colon, colon) in
      sym (colon_key s at) ∙ ap (colon_at s) (sym name) ∙ past

  -- a member of which both are known
  pub member_known : (at : ℕ) {v e : ℕ} → (key_at s at).read ≡ Ok v → e ≡ get_or ends v 0 → (e ≡ 0 → ⊥) → Ok e ≡ (member_at (value_at 12 s) s at).read
  unfolding member_at and_then
  member_known at {v} k h some = rw (member_at, k) (end_known v h some)
