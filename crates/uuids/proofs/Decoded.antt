-- Strings decoded into a small buffer. Assumes nothing.
use Rattle.std.specs.Prelude.{Option, Some, None}
use mathlib.Core.Path.{◌≡◌, refl, sym, ap, ◌∙◌}
use mathlib.Core.Bool.{false}
use mathlib.Core.List.{List}
use Prim.Native.Nat.{ℕ, ◌<◌, ◌≤◌}
use native.Mathlib.Omega.{arith}
use native.Mathlib.Decide.{dec_lt}
use lib.ListN.{length, take}
use Rattle.model.specs.Json.{Json, null, bool, num, str, arr, obj}
use Rattle.model.specs.Nav.{kind_of, is_text}
use Rattle.model.specs.Written.{string_in, uuid_from}
use Rattle.text.specs.Push.{Pushed, count_of}
use Rattle.text.proofs.Pushing.{held, pushed_whole, pushed_over}
use Rattle.uuids.specs.Ids.{id_in}

-- what was written is the string, or there was no room for it
module _ {before bs after : List ℕ} {r : Option ℕ} (p : Pushed before (Some 0) bs r after) where
  pub fitted : {n : ℕ} → r ≡ Some n → (n ≡ length bs) × (length bs ≤ length before) × (take n after ≡ bs) × (length after ≡ length before)
  unfolding count_of
  fitted {n} q = go (dec_lt (length before) (length bs))
    where
      go : Dec (length before < length bs) → (n ≡ length bs) × (length bs ≤ length before) × (take n after ≡ bs) × (length after ≡ length before)
      go (yes g) = absurd (let k : None ≡ Some n = sym (p.to ∙ pushed_over (length before) 0 bs (omega arith) (omega arith)) ∙ q in let z : ◌≡◌ {A = ℕ} 0 1 = cc in omega arith)
      go (no g) =
          let l : length bs ≤ length before = omega (arith, g) in
          let f = held p l in
          let e : n ≡ length bs = sym (ap count_of q) ∙ f.0 in
          (e, l, ap (λ (m : ℕ). take m after) e ∙ f.1, f.2)

  pub over : r ≡ None → length before < length bs
  over q = go (dec_lt (length before) (length bs))
    where
      go : Dec (length before < length bs) → length before < length bs
      go (yes g) = g
      go (no g) = absurd (let k : None ≡ Some (length bs) = sym q ∙ (pushed_whole p (omega (arith, g))).0 in let z : ◌≡◌ {A = ℕ} 0 1 = cc in omega arith)

pub no_string : (j : Json) → is_text (kind_of j) ≡ false → string_in j ≡ None
unfolding kind_of
no_string null h = refl
no_string (bool b) h = refl
no_string (num t) h = refl
no_string (str t) h = cc
no_string (arr xs) h = refl
no_string (obj ms) h = refl

pub no_id : (j : Json) → is_text (kind_of j) ≡ false → id_in j ≡ None
unfolding id_in
no_id j h = ap (λ o. elim o [ None ↦ None | Some t ↦ uuid_from 0 0 t ]) (no_string j h)

pub id_string : {j : Json} {t : List ℕ} → j ≡ str t → id_in j ≡ uuid_from 0 0 t
unfolding id_in
id_string e = ap id_in e
