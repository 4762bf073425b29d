-- Entries made anew from what they say. Assumes nothing.
use mathlib.Core.Path.{◌≡◌, sym, ap, ◌∙◌}
use mathlib.Core.List.{List, [], ◌∷◌, ◌++◌, append_assoc, append-nil}
use Prim.Native.Nat.{ℕ, zero, suc, ◌+◌, ◌-◌, ◌≤◌}
use native.Mathlib.Omega.{arith}
use lib.Dec.{eqb}
use borrow.Rule.Slice.PartMut.{mid_of, put_mid}
use lib.ListN.{length, get_or, set, drop, replicate, length-append, length-take}
use lib.Seq.{set_at}
use Rattle.model.specs.Octets.{value, part}
use Rattle.model.specs.SchemaText.{base_number}
use Rattle.model.specs.Catalog.{base_numbered, refers_from, how_refers, target, bit, is_set, entry_name, name_bytes, column_from, column_entry}
use Rattle.model.proofs.Tests.{split}
use Rattle.model.proofs.Catalogs.{name_length}
use Rattle.octets.proofs.Rests.{write_next}
use Rattle.catalog.specs.Tidied.{database_tidied}
use Rattle.catalog.specs.Renewed.{known_bytes, twos_bytes, rest_bytes}
use Rattle.catalog.proofs.Names.{name_sized}

-- zeros in two parts, and zeros behind the first of them
zeros_add : (n m : ℕ) → ◌≡◌ {A = List ℕ} (replicate (n + m) 0) (replicate n 0 ++ replicate m 0)
zeros_add zero m = let f : 0 + m ≡ m = omega arith in rw f
zeros_add (suc n) m = let f : suc n + m ≡ suc (n + m) = omega arith in rw f (ap (λ (l : List ℕ). 0 ∷ l) (zeros_add n m))

zeros_rest : (k n m : ℕ) → k ≤ n → ◌≡◌ {A = List ℕ} (drop k (replicate (n + m) 0)) (replicate (n - k) 0 ++ replicate m 0)
zeros_rest zero n m h = let f : n - 0 ≡ n = omega arith in rw f (zeros_add n m)
zeros_rest (suc k) zero m h = absurd (omega arith)
zeros_rest (suc k) (suc n) m h =
    let f : suc n + m ≡ suc (n + m) = omega arith in
    let g : suc n - suc k ≡ n - k = omega arith in
    rw (f, g) (zeros_rest k n m (omega arith))

-- ── names ──
module _ (e : List ℕ) (size : length e ≡ 48) (short : get_or e 0 0 ≤ 24) where
  pub name_fits : length (entry_name e) ≤ 24
  name_fits = omega (arith, name_sized e size short)

  -- a length, a name and zeros
  pub name_made : (w ys : List ℕ) → w ≡ entry_name e → ys ≡ w ++ drop (length w) (replicate 47 0) → get_or e 0 0 ∷ ys ++ [] ≡ name_bytes (entry_name e) ++ replicate 23 0
  name_made w ys p q =
      let n = name_sized e size short in
      let r : ys ≡ (entry_name e ++ replicate (24 - length (entry_name e)) 0) ++ replicate 23 0 =
      q ∙ ap (λ (l : List ℕ). l ++ drop (length l) (replicate 47 0)) p
      ∙ ap (λ (l : List ℕ). entry_name e ++ l) (zeros_rest (length (entry_name e)) 24 23 name_fits)
      ∙ sym (append_assoc (entry_name e) (replicate (24 - length (entry_name e)) 0) (replicate 23 0)) in
      λ j. sym n j ∷ (append-nil ys ∙ r) j

-- ── what follows a column's name ──
how_any : (how s t : ℕ) → how_refers (refers_from how s) ≡ how_refers (refers_from how t)
unfolding refers_from
how_any how s t = split (eqb how 0) (λ a. rw (refers_from, a)) (λ a. split (eqb how 1) (λ b. rw (refers_from, a, b)) (λ b. rw (refers_from, a, b)))

-- what follows the name, and the last byte
rest_is : (e : List ℕ) → rest_bytes e ++ (0 ∷ []) ≡
    base_number (base_numbered (get_or e 25 0)) ∷ how_refers (refers_from (get_or e 26 0) (get_or e 27 0)) ∷ target (refers_from (get_or e 26 0) (get_or e 27 0)) ∷ get_or e 28 0 ∷ get_or e 29 0 ∷ bit (is_set e 30) ∷ twos_bytes (value (part 31 8 e)) ++ (twos_bytes (value (part 39 8 e)) ++ 0 ∷ [])
unfolding rest_bytes known_bytes
rest_is e = λ j. base_number (base_numbered (get_or e 25 0)) ∷ how_any (get_or e 26 0) 0 (get_or e 27 0) j ∷ target (refers_from (get_or e 26 0) (get_or e 27 0)) ∷ get_or e 28 0 ∷ get_or e 29 0 ∷ bit (is_set e 30) ∷ twos_bytes (value (part 31 8 e)) ++ (twos_bytes (value (part 39 8 e)) ++ 0 ∷ [])

-- ── entries that were a name and zeros ──
module _ (e cur : List ℕ) (short : get_or e 0 0 ≤ 24) (was : cur ≡ name_bytes (entry_name e) ++ replicate 23 0) where
  fits : length (name_bytes (entry_name e)) ≡ 25
  fits = name_length (entry_name e) (omega (arith, length-take (get_or e 0 0) (drop 1 e)))

  cur_length : length cur ≡ 48
  cur_length = ap length was ∙ length-append (name_bytes (entry_name e)) (replicate 23 0) ∙ ap (λ (k : ℕ). k + 23) fits

  pub column_made : (ys : List ℕ) → ys ≡ rest_bytes e ++ drop 22 (mid_of 25 23 cur) → put_mid 25 23 cur ys ≡ column_entry (column_from e)
  column_made ys y =
      let k : 23 ≡ length cur - 25 = omega (arith, cur_length) in
      ap (λ (n : ℕ). put_mid 25 n cur ys) k
      ∙ write_next (name_bytes (entry_name e)) (rest_bytes e) (replicate 48 0) cur ys 25 22 fits was (y ∙ ap (λ (n : ℕ). rest_bytes e ++ drop 22 (mid_of 25 n cur)) k)
      ∙ append_assoc (name_bytes (entry_name e)) (rest_bytes e) (0 ∷ [])
      ∙ ap (λ (l : List ℕ). name_bytes (entry_name e) ++ l) (rest_is e)

  pub database_made : (n : ℕ) → n ≡ get_or e 25 0 → set cur 25 n ≡ database_tidied e
  unfolding database_tidied
  database_made n h = (λ j. set (was j) 25 (h j)) ∙ set_at (name_bytes (entry_name e)) 0 (replicate 22 0) (get_or e 25 0) 25 fits
