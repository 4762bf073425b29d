-- The minimums of columns, one after another. Assumes nothing.
use mathlib.Core.Path.{◌≡◌, refl, sym, ap, ◌∙◌}
use mathlib.Core.List.{List, [], ◌∷◌, ◌++◌, map, append_assoc}
use Prim.Native.Nat.{ℕ, zero, suc, ◌+◌, ◌-◌, ◌≤◌, ◌<◌}
use native.Mathlib.Numerals.{add-one}
use native.Mathlib.Omega.{arith}
use lib.ListN.{length, get_or, take, set, replicate, length-map}
use lib.Seq.{length-take-le, take-suc, take_all, set_at}
use Rattle.model.specs.Schema.{Column}
use Rattle.model.specs.Catalog.{column_from}
use Rattle.inner.specs.Working.{minimums}

abbrev pub mins_of : List (List ℕ) → List ℕ
mins_of cells = map (λ (x : Column). x.min) (map column_from cells)

pub mins_length : (cells : List (List ℕ)) → length (mins_of cells) ≡ length cells
mins_length cells = length-map (map column_from cells) (λ (x : Column). x.min) ∙ length-map cells column_from

mins_at : (cells : List (List ℕ)) (c : ℕ) → c < length cells → get_or (mins_of cells) c 0 ≡ get_or (get_or cells c []) 28 0
mins_at [] c h = absurd (omega arith)
mins_at (x ∷ cells) zero h = refl
mins_at (x ∷ cells) (suc c) h = mins_at cells c (omega arith)

fill_more : (l : List ℕ) (c : ℕ) → c < length l → length l ≤ 6 → set (take c l ++ replicate (6 - c) 0) c (get_or l c 0) ≡ take (c + 1) l ++ replicate (6 - (c + 1)) 0
fill_more l c h g =
    let e : 6 - c ≡ suc (6 - (c + 1)) = omega arith in
    rw (e, add-one c)
    (set_at (take c l) 0 (replicate (6 - suc c) 0) (get_or l c 0) c (length-take-le c l (omega arith))
    ∙ sym (ap (λ (q : List ℕ). q ++ replicate (6 - suc c) 0) (take-suc l c 0 h) ∙ append_assoc (take c l) (get_or l c 0 ∷ []) (replicate (6 - suc c) 0)))

module _ (cells : List (List ℕ)) (few : length cells ≤ 6) (c : ℕ) {mins : List ℕ} (so : mins ≡ take c (mins_of cells) ++ replicate (6 - c) 0) where
  pub mins_more : c < length cells → set mins c (get_or (get_or cells c []) 28 0) ≡ take (c + 1) (mins_of cells) ++ replicate (6 - (c + 1)) 0
  mins_more h =
      ap (λ (m : List ℕ). set m c (get_or (get_or cells c []) 28 0)) so
      ∙ ap (set (take c (mins_of cells) ++ replicate (6 - c) 0) c) (sym (mins_at cells c h))
      ∙ fill_more (mins_of cells) c (omega (arith, mins_length cells)) (omega (arith, mins_length cells))

  pub mins_end : c ≡ length cells → mins ≡ minimums (map column_from cells)
  unfolding minimums
  mins_end e =
      so ∙ ap (λ (l : List ℕ). l ++ replicate (6 - c) 0) (take_all c (mins_of cells) (omega (arith, mins_length cells)))
      ∙ ap (λ (k : ℕ). mins_of cells ++ replicate (6 - k) 0) (e ∙ sym (length-map cells column_from))
