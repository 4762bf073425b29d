-- What an area in good order holds, part by part: the store that is decoded of it is encoded as it lies there. Assumes nothing.
use mathlib.Core.Path.{◌≡◌, refl, sym, ap, ◌∙◌}
use mathlib.Core.Bool.{true}
use mathlib.Core.List.{List, [], ◌∷◌, ◌++◌, map}
use Prim.Native.Nat.{ℕ, zero, suc, ◌+◌, ◌-◌, ◌*◌, ◌≤◌}
use native.Mathlib.Omega.{arith}
use lib.ListN.{length, get_or, take, drop, replicate, length-drop}
use lib.Seq.{drop-drop, drop-cons, take-add, length-take-le}
use Rattle.model.specs.Octets.{big, value, part}
use Rattle.model.specs.Limits.{entry_bytes, entry_count, catalog_bytes, catalog_offset, count_offset, rows_offset, store_bytes}
use Rattle.model.specs.Catalog.{catalog_of}
use Rattle.model.specs.Base.{all, flat}
use Rattle.model.specs.Schema.{Schema}
use Rattle.model.specs.Value.{zeros}
use Rattle.model.specs.Rows.{Row}
use Rattle.model.specs.Records.{cut}
use Rattle.model.specs.Areas.{row_from, rows_bytes, rows_from, encode_store, entries_in, database_in, decode_store}
use Rattle.inner.specs.Working.{TidyRow, Tidy}
use Rattle.model.proofs.Lists.{all_take, all_drop}
use Rattle.model.proofs.Octets.{octet, big_value}
use Rattle.area.specs.Layout.{rows_in, bytes_of}
use Rattle.area.proofs.Copies.{flat_chunks}
use Rattle.area.proofs.Tidied.{zeros_are}

-- ── rows ──
pub flat_cut : (n : ℕ) (b : List ℕ) → 25 * n ≤ length b → flat (cut n b) ≡ take (25 * n) b
flat_cut n b h = flat_chunks 25 n b h

pub rows_are : (s : Schema) (n : ℕ) (b : List ℕ) → rows_from s n b ≡ map (row_from s) (rows_in n b)
rows_are s zero b = refl
rows_are s (suc n) b = ap (λ (l : List Row). row_from s (cut 25 b) ∷ l) (rows_are s n (drop 625 b))

pub rows_count : (s : Schema) (n : ℕ) (b : List ℕ) → length (rows_from s n b) ≡ n
rows_count s zero b = refl
rows_count s (suc n) b = ap suc (rows_count s n (drop 625 b))

-- tidy rows are written as they lie there
pub rows_back : (s : Schema) (n : ℕ) (b : List ℕ) → 625 * n ≤ length b → Tidy s (rows_in n b) → rows_bytes (rows_from s n b) ≡ take (625 * n) b
unfolding TidyRow
rows_back s zero b h t = refl
rows_back s (suc n) b h t =
    let e : 625 + 625 * n ≡ 625 * suc n = omega arith in
    (λ j. (ap flat t.0 ∙ flat_cut 25 b (omega arith)) j ++ rows_back s n (drop 625 b) (omega (arith, length-drop 625 b)) t.1 j)
    ∙ sym (take-add 625 (625 * n) b) ∙ ap (λ (k : ℕ). take k b) e

-- and tidy rows in cells are written as the rows that they stand for
pub bytes_are : (s : Schema) (cells : List (List (List ℕ))) → Tidy s cells → bytes_of cells ≡ rows_bytes (map (row_from s) cells)
unfolding TidyRow
bytes_are s [] t = refl
bytes_are s (r ∷ cells) t = λ j. flat (sym t.0 j) ++ bytes_are s cells t.1 j

-- ── the whole ──
part_add : (at m n : ℕ) (a : List ℕ) → part at (m + n) a ≡ part at m a ++ part (at + m) n a
part_add at m n a = take-add m n (drop at a) ∙ ap (λ (l : List ℕ). part at m a ++ take n l) (drop-drop m at a)

module _ (a : List ℕ) (size : store_bytes ≤ length a) (bytes : all octet a ≡ true) where
  size_of : (at n : ℕ) → at + n ≤ store_bytes → length (part at n a) ≡ n
  size_of at n h = length-take-le n (drop at a) (omega (arith, length-drop at a))

  part_bytes : (at n : ℕ) → all octet (part at n a) ≡ true
  part_bytes at n = all_take octet n (drop at a) (all_drop octet at a bytes)

  pub number_back : (at n : ℕ) → at + n ≤ store_bytes → big n (value (part at n a)) ≡ part at n a
  number_back at n h = big_value n (part at n a) (size_of at n h) (part_bytes at n)

  zero_part : (at n : ℕ) → at + n ≤ store_bytes → zeros (part at n a) ≡ true → replicate n 0 ≡ part at n a
  zero_part at n h z = ap (λ (k : ℕ). replicate k 0) (sym (size_of at n h)) ∙ sym (zeros_are (part at n a) z)

  -- how many rows
  abbrev n : ℕ
  n = get_or a count_offset 0

  module _ (few : n ≤ 32) where
    -- a catalog that is the encoding of what it says lies there as it is encoded
    catalog_back : catalog_of (database_in a) ≡ entries_in a → flat (catalog_of (database_in a)) ≡ part catalog_offset catalog_bytes a
    catalog_back e = ap flat e ∙ flat_chunks entry_bytes entry_count (drop catalog_offset a) (omega (arith, length-drop catalog_offset a))

    rows_part_lem : (s : Schema) → zeros (part (rows_offset + 625 * n) (625 * (32 - n)) a) ≡ true → Tidy s (rows_in n (drop rows_offset a))
        → length (rows_from s n (drop rows_offset a)) ∷ rows_bytes (rows_from s n (drop rows_offset a)) ++ replicate (625 * (32 - length (rows_from s n (drop rows_offset a)))) 0 ≡ part count_offset 20001 a
    rows_part_lem s z t =
        let e : 625 * n + 625 * (32 - n) ≡ 20000 = omega arith in
        let r = rows_count s n (drop rows_offset a) in
        (λ j. r j ∷ rows_back s n (drop rows_offset a) (omega (arith, length-drop rows_offset a)) t j ++ replicate (625 * (32 - r j)) 0)
        ∙ (λ j. n ∷ part rows_offset (625 * n) a ++ zero_part (rows_offset + 625 * n) (625 * (32 - n)) (omega arith) z j)
        ∙ ap (λ (l : List ℕ). n ∷ l) (sym (part_add rows_offset (625 * n) (625 * (32 - n)) a) ∙ ap (λ (k : ℕ). part rows_offset k a) e)
        ∙ sym (ap (take 20001) (drop-cons a count_offset 0 (omega arith)))

    -- an area whose unused bytes are zero is the encoding of the store that is decoded of it
    pub store_back : catalog_of (database_in a) ≡ entries_in a → zeros (part (rows_offset + 625 * n) (625 * (32 - n)) a) ≡ true → Tidy (database_in a).tables (rows_in n (drop rows_offset a))
        → encode_store (decode_store a) ≡ take store_bytes a
    unfolding encode_store decode_store
    store_back y z t =
        (λ j. number_back 0 4 (omega arith) j ++ (number_back 4 4 (omega arith) j ++ (catalog_back y j ++ rows_part_lem (database_in a).tables z t j)))
        ∙ ap (λ (l : List ℕ). part 0 4 a ++ (part 4 4 a ++ l)) (sym (part_add catalog_offset catalog_bytes 20001 a))
        ∙ ap (λ (l : List ℕ). part 0 4 a ++ l) (sym (part_add 4 4 (catalog_bytes + 20001) a))
        ∙ sym (part_add 0 4 (4 + catalog_bytes + 20001) a)
