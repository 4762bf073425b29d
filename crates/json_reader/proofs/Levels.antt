-- What a table of ends says stays true when an end is kept. Assumes nothing.
use Rattle.std.specs.Prelude.{Ok, Err}
use Rattle.model.specs.Scan.{Read}
use mathlib.Core.Path.{◌≡◌, refl, sym, ap, ◌∙◌}
use mathlib.Core.Logic.{◌⊎◌, inr}
use mathlib.Core.List.{List}
use mathlib.Core.Bool.{Bool, true, false}
use Prim.Native.Nat.{ℕ, ◌-◌, ◌<◌, ◌≤◌}
use native.Mathlib.Omega.{arith}
use native.Mathlib.Decide.{dec_lt}
use borrow.Author.Tests.{eqb-true, eqb-false}
use lib.ListN.{length, get_or, set}
use lib.Dec.{ltb, eqb}
use lib.Seq.{set_out, get_or-set_same, get_or-set_other}
use Rattle.model.specs.Scan.{spaces_at}
use Rattle.model.specs.Strings.{string_at}
use Rattle.model.specs.Json.{value_at}
use Rattle.scan.proofs.Values.{string_quote, string_value}
use Rattle.inner.specs.Positions.{Says}
use Rattle.json_reader.proofs.Mono.{levels_more}
use Rattle.json_reader.specs.Table.{noted}

module _ (s ends : List ℕ) (says : Says s ends) (at : ℕ) where
  says_set : (e : ℕ) → (value_at 12 s at).read ≡ Ok e → Says s (set ends at e)
  unfolding Says
  says_set e h p = go (dec_lt at (length ends)) (eqb p at) refl
    where
      go : Dec (at < length ends) → (b : Bool) → eqb p at ≡ b → (get_or (set ends at e) p 0 ≡ 0) ⊎ ((value_at 12 s p).read ≡ Ok (get_or (set ends at e) p 0))
      go (no n) b d = rw (set_out ends at e (omega (arith, n))) (says p)
      go (yes y) true d = let q = eqb-true p at d in rw (q, get_or-set_same ends at e 0 y) (inr h)
      go (yes y) false d = let n = eqb-false p at d in rw (get_or-set_other ends at p e 0 n) (says p)

  says_noted : (r : Read) → ((e : ℕ) → r ≡ Ok e → (value_at 12 s at).read ≡ Ok e) → Says s (noted ends at r)
  unfolding noted
  says_noted (Ok e) h = go (ltb e 65536) refl
    where
      go : (b : Bool) → ltb e 65536 ≡ b → Says s (noted ends at (Ok e))
      go true t = rw (noted, t) (says_set e (h e refl))
      go false t = rw (noted, t) says
  says_noted (Err e) h = says

  -- the theorem: what was read with at most 12 levels is true with 12
  pub says_level : (l : ℕ) → l ≤ 12 → {r : Read} → r ≡ (value_at l s at).read → Says s (noted ends at r)
  says_level l g {r} h = says_noted r (λ e q. let k = sym h ∙ q in ap (λ x. x.read) (levels_more s (12 - l) l 12 (omega arith) at e k) ∙ k)

  -- and so is where a name ended: a string is the value at its place
  pub says_name : {r : Read} → r ≡ (string_at s (spaces_at s at)).read → Says s (noted ends at r)
  says_name {r} h =
      says_noted r (λ e q. let k = sym h ∙ q in string_value 12 s at (string_quote s (spaces_at s at) e k) ∙ k)
