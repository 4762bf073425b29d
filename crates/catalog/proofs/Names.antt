-- The name in an entry, as the code reads it, and against the bytes that it was made of. Assumes nothing.
use mathlib.Core.Path.{◌≡◌, refl, sym, ap, ◌∙◌}
use mathlib.Core.Bool.{true, false, ◌&&◌}
use mathlib.Core.List.{List, [], ◌∷◌, ◌++◌}
use Prim.Native.Nat.{ℕ, suc, ◌+◌, ◌-◌, ◌≤◌, ◌<◌}
use native.Mathlib.Omega.{arith}
use borrow.Author.Tests.{eqb-true}
use lib.ListN.{length, get_or, take, drop, replicate, length-take, length-drop}
use lib.Seq.{take-add, drop_at, length-take-le}
use Rattle.model.specs.Octets.{part}
use Rattle.model.specs.Base.{all}
use Rattle.model.specs.SchemaText.{is_id}
use Rattle.model.specs.Catalog.{entry_name, name_bytes}
use Rattle.model.proofs.Tests.{and_l, and_r}
use Rattle.model.proofs.Lists.{all_same, all_head, all_tail}
use Rattle.model.proofs.Catalogs.{id_short}
use Rattle.catalog.specs.Judging.{is_zero, name_fine}
use Rattle.catalog.proofs.Ids.{id_long}

-- zeros are as many zeros
pub zeros_are : (l : List ℕ) → all is_zero l ≡ true → l ≡ replicate (length l) 0
zeros_are [] h = refl
zeros_are (b ∷ l) h = λ j. eqb-true b 0 (all_head is_zero b l h) j ∷ zeros_are l (all_tail is_zero b l h) j

pub zeros_all : (n : ℕ) → all is_zero (replicate n 0) ≡ true
zeros_all n = all_same is_zero n 0 refl

module _ (e : List ℕ) (size : length e ≡ 48) where
  name_size : length (entry_name e) ≡ get_or e 0 0 → get_or e 0 0 ≤ 47
  name_size h = omega (arith, length-take (get_or e 0 0) (drop 1 e), length-drop 1 e)

  pub name_long : 24 < get_or e 0 0 → name_fine e ≡ false
  unfolding name_fine
  name_long h = rw (id_long (entry_name e) (omega (arith, length-take (get_or e 0 0) (drop 1 e), length-drop 1 e)))

  pub name_code : (n : ℕ) → n ≡ get_or e 0 0 → name_fine e ≡ (is_id (take (1 + n - 1) (drop 1 e)) && all is_zero (take (25 - (1 + n)) (drop (1 + n) e)))
  unfolding name_fine
  name_code n q =
      let a : 1 + n - 1 ≡ get_or e 0 0 = omega arith in
      let b : 25 - (1 + n) ≡ 24 - get_or e 0 0 = omega arith in
      let d : 1 + n ≡ 1 + get_or e 0 0 = omega arith in
      rw (a, b, d)

  -- an id is short
  pub name_short : is_id (entry_name e) ≡ true → get_or e 0 0 ≤ 24
  name_short h = omega (arith, id_short (entry_name e) h, length-take (get_or e 0 0) (drop 1 e), length-drop 1 e)

  module _ (short : get_or e 0 0 ≤ 24) where
    pub name_sized : length (entry_name e) ≡ get_or e 0 0
    name_sized = length-take-le (get_or e 0 0) (drop 1 e) (omega (arith, length-drop 1 e))

    tail : List ℕ
    tail = part (1 + get_or e 0 0) (24 - get_or e 0 0) e

    tail_length : length tail ≡ 24 - get_or e 0 0
    unfolding tail
    tail_length = length-take-le (24 - get_or e 0 0) (drop (1 + get_or e 0 0) e) (omega (arith, length-drop (1 + get_or e 0 0) e))

name_front : (e : List ℕ) → length e ≡ 48 → get_or e 0 0 ≤ 24 → take 25 e ≡ get_or e 0 0 ∷ entry_name e ++ part (1 + get_or e 0 0) (24 - get_or e 0 0) e
name_front [] size h = absurd (omega arith)
name_front (x ∷ xs) size h =
    let s : 1 + x ≡ suc x = omega arith in
    let k : x + (24 - x) ≡ 24 = omega arith in
    let f : take 24 xs ≡ take x xs ++ take (24 - x) (drop x xs) = ap (λ (m : ℕ). take m xs) (sym k) ∙ take-add x (24 - x) xs in
    ap (λ (l : List ℕ). x ∷ l) f ∙ ap (λ (m : ℕ). x ∷ take x xs ++ take (24 - x) (drop m (x ∷ xs))) (sym s)

module _ (e : List ℕ) (size : length e ≡ 48) where
  -- a fine name is its bytes
  pub name_to : name_fine e ≡ true → (is_id (entry_name e) ≡ true) × (name_bytes (entry_name e) ≡ take 25 e)
  unfolding name_fine tail
  name_to h =
      let i = and_l (is_id (entry_name e)) _ h in
      let z = and_r (is_id (entry_name e)) _ h in
      let s = name_short e size i in
      let n = name_sized e size s in
      let t : part (1 + get_or e 0 0) (24 - get_or e 0 0) e ≡ replicate (24 - get_or e 0 0) 0 = zeros_are (part (1 + get_or e 0 0) (24 - get_or e 0 0) e) z ∙ ap (λ (m : ℕ). replicate m 0) (tail_length e size s) in
      (i, (λ j. n j ∷ entry_name e ++ replicate (24 - n j) 0) ∙ ap (λ (l : List ℕ). get_or e 0 0 ∷ entry_name e ++ l) (sym t) ∙ sym (name_front e size s))

  pub name_from : is_id (entry_name e) ≡ true → name_bytes (entry_name e) ≡ take 25 e → name_fine e ≡ true
  unfolding name_fine
  name_from i h =
      let s = name_short e size i in
      let w = entry_name e in
      let r : List ℕ = replicate (24 - length w) 0 in
      let p = part (1 + get_or e 0 0) (24 - get_or e 0 0) e in
      let q : r ≡ p = sym (drop_at w r (length w) refl) ∙ ap (drop (suc (length w))) (h ∙ name_front e size s) ∙ drop_at w p (length w) refl in
      rw i (ap (all is_zero) (sym q) ∙ zeros_all (24 - length w))
