-- Cells and rows copied one after another, and the cells of bytes. Assumes nothing.
use mathlib.Core.Path.{◌≡◌, refl, sym, ap, ◌∙◌}
use mathlib.Core.List.{List, [], ◌∷◌, ◌++◌, append_assoc, append-nil}
use Prim.Native.Nat.{ℕ, zero, suc, ◌+◌, ◌-◌, ◌*◌, ◌≤◌, ◌<◌}
use native.Mathlib.Nat.{add_comm, mul-suc, mul-zero}
use native.Mathlib.Numerals.{add-one}
use native.Mathlib.Omega.{arith}
use borrow.Rule.Slice.PartMut.{put_mid}
use lib.ListN.{length, take, drop, get_or, length-drop}
use lib.Seq.{drop-drop, take-add, take-suc, take_at, drop_at, length-take-le, get_or-take, get_or-drop}
use Rattle.model.specs.Octets.{part, chunks}
use Rattle.model.specs.Base.{flat}
use Rattle.model.specs.Records.{cut}
use Rattle.model.specs.Limits.{rows_offset}
use Rattle.inner.specs.Working.{value_in}
use Rattle.area.specs.Layout.{rows_in, row_at, rows_at, bytes_of}

-- parts of one width, the cells of bytes among them, and the rows
module _ (w : ℕ) where
  pub chunks_length : (n : ℕ) (b : List ℕ) → length (chunks w n b) ≡ n
  chunks_length zero b = refl
  chunks_length (suc n) b = ap suc (chunks_length n (drop w b))

  pub chunks_at : (n j : ℕ) (b : List ℕ) → j < n → get_or (chunks w n b) j [] ≡ part (w * j) w b
  chunks_at zero j b h = absurd (omega arith)
  chunks_at (suc n) zero b h = ap (λ (k : ℕ). part k w b) (sym (mul-zero w))
  chunks_at (suc n) (suc j) b h =
      let e : w + w * j ≡ w * suc j = add_comm w (w * j) ∙ sym (mul-suc w j) in
      chunks_at n j (drop w b) (omega arith) ∙ ap (take w) (drop-drop (w * j) w b ∙ ap (λ (k : ℕ). drop k b) e)

  -- from a place on
  pub chunk_from : (a : List ℕ) (at n j : ℕ) → j < n → get_or (chunks w n (drop at a)) j [] ≡ part (at + w * j) w a
  chunk_from a at n j h = chunks_at n j (drop at a) h ∙ ap (take w) (drop-drop (w * j) at a)

  pub byte_in : (a : List ℕ) (at k : ℕ) → k < w → get_or (part at w a) k 0 ≡ get_or a (at + k) 0
  byte_in a at k h = get_or-take w (drop at a) k 0 h ∙ get_or-drop at a k 0

  pub part_size : (a : List ℕ) (at : ℕ) → at + w ≤ length a → length (part at w a) ≡ w
  part_size a at h = length-take-le w (drop at a) (omega (arith, length-drop at a))

  pub flat_chunks : (n : ℕ) (b : List ℕ) → w * n ≤ length b → flat (chunks w n b) ≡ take (w * n) b
  flat_chunks zero b h = ap (λ (k : ℕ). take k b) (sym (mul-zero w))
  flat_chunks (suc n) b h =
      let e : w + w * n ≡ w * suc n = add_comm w (w * n) ∙ sym (mul-suc w n) in
      ap (λ (l : List ℕ). take w b ++ l) (flat_chunks n (drop w b) (omega (arith, length-drop w b, e))) ∙ sym (take-add w (w * n) b) ∙ ap (λ (k : ℕ). take k b) e

pub cut_length : (n : ℕ) (b : List ℕ) → length (cut n b) ≡ n
cut_length n b = chunks_length 25 n b

pub rows_length : (n : ℕ) (b : List ℕ) → length (rows_in n b) ≡ n
rows_length zero b = refl
rows_length (suc n) b = ap suc (rows_length n (drop 625 b))

pub rows_at_lem : (n i : ℕ) (b : List ℕ) → i < n → get_or (rows_in n b) i [] ≡ cut 25 (drop (625 * i) b)
rows_at_lem zero i b h = absurd (omega arith)
rows_at_lem (suc n) zero b h = refl
rows_at_lem (suc n) (suc i) b h =
    let e : 625 + 625 * i ≡ 625 * suc i = omega arith in
    rows_at_lem n i (drop 625 b) (omega arith) ∙ ap (cut 25) (drop-drop (625 * i) 625 b ∙ ap (λ (k : ℕ). drop k b) e)

-- the same from a place on
module _ (a : List ℕ) (at : ℕ) where
  pub byte_at : (k : ℕ) → k < 25 → get_or (part at 25 a) k 0 ≡ get_or a (at + k) 0
  byte_at k h = byte_in 25 a at k h

  pub cell_from : (j : ℕ) → j < 25 → get_or (cut 25 (drop at a)) j [] ≡ part (at + 25 * j) 25 a
  cell_from j h = chunk_from 25 a at 25 j h

  pub row_from : (n i : ℕ) → i < n → get_or (rows_in n (drop at a)) i [] ≡ cut 25 (drop (at + 625 * i) a)
  row_from n i h = rows_at_lem n i (drop at a) h ∙ ap (cut 25) (drop-drop (625 * i) at a)

  pub part_length : at + 25 ≤ length a → length (part at 25 a) ≡ 25
  part_length h = part_size 25 a at h

-- ── a column of a row in an area ──
cut_take : (n k : ℕ) (b : List ℕ) → n ≤ k → take n (cut k b) ≡ cut n b
cut_take zero k b h = refl
cut_take (suc n) zero b h = absurd (omega arith)
cut_take (suc n) (suc k) b h = ap (λ (l : List (List ℕ)). take 25 b ∷ l) (cut_take n k (drop 25 b) (omega arith))

cut_drop : (n m k : ℕ) (b : List ℕ) → m + n ≤ k → take n (drop m (cut k b)) ≡ cut n (drop (25 * m) b)
cut_drop n zero k b h = cut_take n k b (omega arith)
cut_drop n (suc m) zero b h = absurd (omega arith)
cut_drop n (suc m) (suc k) b h =
    let e : 25 + 25 * m ≡ 25 * suc m = omega arith in
    cut_drop n m k (drop 25 b) (omega arith) ∙ ap (cut n) (drop-drop (25 * m) 25 b ∙ ap (λ (j : ℕ). drop j b) e)

module _ (a : List ℕ) (at c : ℕ) (h : c < 6) where
  count_at : get_or (get_or (cut 25 (drop at a)) 0 []) (17 + c) 0 ≡ get_or a (at + 17 + c) 0
  count_at = let e : at + (17 + c) ≡ at + 17 + c = omega arith in byte_at a at (17 + c) (omega arith) ∙ ap (λ (j : ℕ). get_or a j 0) e

  atoms_of_lem : take 4 (drop (1 + 4 * c) (cut 25 (drop at a))) ≡ cut 4 (drop (at + 25 * (1 + 4 * c)) a)
  atoms_of_lem = cut_drop 4 (1 + 4 * c) 25 (drop at a) (omega arith) ∙ ap (cut 4) (drop-drop (25 * (1 + 4 * c)) at a)

module _ (a : List ℕ) (i : ℕ) where
  abbrev from : ℕ
  from = rows_offset + 625 * i

  pub value_at_lem : (c : ℕ) → c < 6 → value_in c (row_at a i) ≡ record { count = get_or a (from + 17 + c) 0; atoms = cut 4 (drop (from + 25 * (1 + 4 * c)) a) }
  unfolding value_in row_at
  value_at_lem c h = λ j. record { count = count_at a from c h j; atoms = atoms_of_lem a from c h j }

  pub head_at : get_or (row_at a i) 0 [] ≡ part from 25 a
  unfolding row_at
  head_at = refl

  pub rows_are : (n : ℕ) → i < n → get_or (rows_at n a) i [] ≡ row_at a i
  unfolding row_at
  rows_are n h = row_from a rows_offset n i h

-- ── written cell by cell ──
flat_append : (l m : List (List ℕ)) → flat (l ++ m) ≡ flat l ++ flat m
flat_append [] m = refl
flat_append (a ∷ l) m = ap (λ (x : List ℕ). a ++ x) (flat_append l m) ∙ sym (append_assoc a (flat l) (flat m))

pub flat_more : (row : List (List ℕ)) (j : ℕ) → j < length row → flat (take (j + 1) row) ≡ flat (take j row) ++ get_or row j []
flat_more row j h =
    rw (add-one j, take-suc row j [] h) (flat_append (take j row) (get_or row j [] ∷ []) ∙ ap (λ (x : List ℕ). flat (take j row) ++ x) (append-nil (get_or row j [])))

-- A list is written from its front, piece by piece, as in `write_next`; here a callee that was lent a part of n bytes has written a piece all over it.
pub write_part : (done piece xs cur : List ℕ) (at n : ℕ) → length done ≡ at → cur ≡ done ++ drop at xs → put_mid at (at + n - at) cur piece ≡ (done ++ piece) ++ drop (at + n) xs
write_part done piece xs cur at n l c =
    let e : at + n - at ≡ n = omega arith in
    ap (λ (m : ℕ). put_mid at m cur piece) e
    ∙ ap (λ (a : List ℕ). take at a ++ (piece ++ drop n (drop at a))) c
    ∙ (λ i. take_at done (drop at xs) at l i ++ (piece ++ drop n (drop_at done (drop at xs) at l i)))
    ∙ ap (λ (a : List ℕ). done ++ (piece ++ a)) (drop-drop n at xs)
    ∙ sym (append_assoc done piece (drop (at + n) xs))

-- ── written row by row ──
bytes_append : (l m : List (List (List ℕ))) → bytes_of (l ++ m) ≡ bytes_of l ++ bytes_of m
bytes_append [] m = refl
bytes_append (r ∷ l) m = ap (λ (x : List ℕ). flat r ++ x) (bytes_append l m) ∙ sym (append_assoc (flat r) (bytes_of l) (bytes_of m))

pub bytes_more : (rows : List (List (List ℕ))) (i : ℕ) → i < length rows → bytes_of (take (i + 1) rows) ≡ bytes_of (take i rows) ++ flat (get_or rows i [])
bytes_more rows i h =
    rw (add-one i, take-suc rows i [] h) (bytes_append (take i rows) (get_or rows i [] ∷ []) ∙ ap (λ (x : List ℕ). bytes_of (take i rows) ++ x) (append-nil (flat (get_or rows i []))))

pub take_short : {A : Type 0} (n : ℕ) (l : List A) → length (take n l) ≤ n
take_short zero l = omega arith
take_short (suc n) [] = omega arith
take_short (suc n) (a ∷ l) = omega (arith, take_short n l)
