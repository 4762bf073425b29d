-- Bytes written to a place of an area, and what they make of the encoding of a state. Assumes nothing.
use mathlib.Core.Path.{◌≡◌, refl, sym, ap, ◌∙◌}
use mathlib.Core.Bool.{Bool}
use mathlib.Core.List.{List, [], ◌∷◌, ◌++◌, map, append_assoc, append-nil}
use Prim.Native.Nat.{ℕ, ◌-◌, ◌*◌, ◌≤◌}
use native.Mathlib.Omega.{arith}
use borrow.Rule.Slice.PartMut.{mid_of, put_mid}
use lib.ListN.{length, set, take, drop, replicate, length-map}
use lib.Seq.{take_at, drop_at, drop-drop, length-take-le}
use Rattle.model.specs.Limits.{count_offset, store_bytes, mirror_bytes}
use Rattle.model.specs.Base.{flat}
use Rattle.model.specs.Catalog.{catalog_of}
use Rattle.model.specs.Octets.{big}
use Rattle.model.specs.Schema.{Schema, Database}
use Rattle.model.specs.Rows.{Row}
use Rattle.model.specs.Mirror.{Mirror}
use Rattle.model.specs.Areas.{row_from, rows_bytes, Store, encode_store, MirrorState, store_part, encode_mirror}
use Rattle.inner.specs.Working.{working, Tidy}
use Rattle.model.proofs.Catalogs.{catalog_bytes_lem}
use Rattle.model.proofs.Areas.{Fits, store_length}
use Rattle.octets.proofs.Rests.{mid_rest, put_rest}
use Rattle.area.specs.Writing.{placed, rows_part, tail_bytes, store_in}
use Rattle.area.proofs.Whole.{bytes_are}

pub first : (l : List ℕ) (b : ℕ) → 1 ≤ length l → set l 0 b ≡ b ∷ drop 1 l
first [] b h = absurd (omega arith)
first (x ∷ l) b h = refl

-- a callee that was lent the rest from a place on and put n bytes at its front has put them at that place
pub place_rest : (at n : ℕ) (b a ys : List ℕ) → ys ≡ b ++ drop n (mid_of at (length a - at) a) → put_mid at (length a - at) a ys ≡ placed at n b a
unfolding placed
place_rest at n b a ys y =
    put_rest at a ys ∙ ap (λ (l : List ℕ). take at a ++ l) (y ∙ ap (λ (l : List ℕ). b ++ drop n l) (mid_rest at a) ∙ ap (λ (l : List ℕ). b ++ l) (drop-drop n at a))

-- ── the encoding of a state ──
-- rows as the model encodes them
pub rows_of : List Row → List ℕ
rows_of rows = length rows ∷ rows_bytes rows ++ replicate (625 * (32 - length rows)) 0

module _ (s : Schema) (cells : List (List (List ℕ))) (n : ℕ) (h : n ≤ length cells) (t : Tidy s (take n cells)) where
  pub rows_are : rows_part n cells ≡ rows_of (working s n cells)
  unfolding rows_part rows_of working
  rows_are =
      let e : n ≡ length (map (row_from s) (take n cells)) = sym (simp length-map (length-take-le n cells h)) in
      λ j. e j ∷ bytes_are s (take n cells) t j ++ replicate (625 * (32 - e j)) 0

pub store_are : (d : Database) (catalog : List (List ℕ)) → catalog_of d ≡ catalog → (cells : List (List (List ℕ))) (n : ℕ) → n ≤ length cells → Tidy d.tables (take n cells) → (run number : ℕ)
    → big 4 run ++ (big 4 number ++ (flat catalog ++ rows_part n cells)) ≡ encode_store (store_in d run number n cells)
unfolding encode_store store_in rows_of
store_are d catalog e cells n h t run number = λ j. big 4 run ++ (big 4 number ++ (flat (sym e j) ++ rows_are d.tables cells n h t j))

-- a store with another number, and with other rows
abbrev pub with_number : ℕ → Store → Store
with_number x st = record { run = st.run; number = x; database = st.database; rows = st.rows }

abbrev pub with_rows : List Row → Store → Store
with_rows rows st = record { run = st.run; number = st.number; database = st.database; rows = rows }

abbrev before : Store → List ℕ
before st = big 4 st.run ++ (big 4 st.number ++ flat (catalog_of st.database))

module _ (st : Store) (f : Fits st) (tail : List ℕ) where
  pub number_put : (x : ℕ) → placed 4 4 (big 4 x) (encode_store st ++ tail) ≡ encode_store (with_number x st) ++ tail
  unfolding placed encode_store
  number_put x = refl

  before_length : length (before st) ≡ count_offset
  before_length = omega (arith, catalog_bytes_lem st.database f.accepted)

  -- in an area whose number was written before them
  pub rows_put : (x : ℕ) (rows : List Row) → placed count_offset 20001 (rows_of rows) (encode_store (with_number x st) ++ tail) ≡ encode_store (with_rows rows (with_number x st)) ++ tail
  unfolding placed encode_store rows_of
  rows_put x rows =
      let b = before (with_number x st) in
      let e : encode_store (with_number x st) ≡ b ++ rows_of st.rows = refl in
      let p : take count_offset (encode_store (with_number x st) ++ tail) ≡ b =
      ap (take count_offset) (append_assoc b (rows_of st.rows) tail) ∙ take_at b (rows_of st.rows ++ tail) count_offset before_length in
      let q : drop store_bytes (encode_store (with_number x st) ++ tail) ≡ tail = drop_at (encode_store (with_number x st)) tail store_bytes (store_length st f) in
      (λ j. p j ++ (rows_of rows ++ q j)) ∙ sym (append_assoc b (rows_of rows) tail)

  pub tail_put : (top : ℕ) (heard whole : Bool) → length tail ≡ 6 → placed store_bytes 6 (tail_bytes top heard whole) (encode_store st ++ tail) ≡ encode_store st ++ tail_bytes top heard whole
  unfolding placed
  tail_put top heard whole l =
      let p = take_at (encode_store st) tail store_bytes (store_length st f) in
      let q : drop mirror_bytes (encode_store st ++ tail) ≡ [] = sym (drop-drop 6 store_bytes (encode_store st ++ tail)) ∙ ap (drop 6) (drop_at (encode_store st) tail store_bytes (store_length st f)) ∙ drop_none tail 6 l in
      (λ j. p j ++ (tail_bytes top heard whole ++ q j)) ∙ ap (λ (x : List ℕ). encode_store st ++ x) (append-nil (tail_bytes top heard whole))
    where
      drop_none : (x : List ℕ) (n : ℕ) → length x ≡ n → drop n x ≡ []
      drop_none x n e = ap (drop n) (sym (append-nil x)) ∙ drop_at x [] n e

-- a mirror's area with n, the rows and its own bytes written anew is the encoding of the mirror with them
abbrev pub with_mirror : Mirror → MirrorState → MirrorState
with_mirror x m = record { run = m.run; database = m.database; mirror = x }

module _ (m : MirrorState) (f : Fits (store_part m)) (x : Mirror) (h : Fits (store_part (with_mirror x m))) where
  pub mirror_put : placed store_bytes 6 (tail_bytes x.top x.heard x.whole) (placed count_offset 20001 (rows_of x.rows) (placed 4 4 (big 4 x.n) (encode_mirror m))) ≡ encode_mirror (with_mirror x m)
  unfolding encode_mirror tail_bytes
  mirror_put =
      let b = tail_bytes m.mirror.top m.mirror.heard m.mirror.whole in
      ap (λ (a : List ℕ). placed store_bytes 6 (tail_bytes x.top x.heard x.whole) a) (ap (placed count_offset 20001 (rows_of x.rows)) (number_put (store_part m) f b x.n) ∙ rows_put (store_part m) f b x.n x.rows)
      ∙ tail_put (store_part (with_mirror x m)) h b x.top x.heard x.whole refl

  -- and with its own bytes alone
  pub own_put : x.n ≡ m.mirror.n → x.rows ≡ m.mirror.rows → placed store_bytes 6 (tail_bytes x.top x.heard x.whole) (encode_mirror m) ≡ encode_mirror (with_mirror x m)
  unfolding encode_mirror tail_bytes
  own_put e r =
      tail_put (store_part m) f (tail_bytes m.mirror.top m.mirror.heard m.mirror.whole) x.top x.heard x.whole refl
      ∙ (λ j. encode_store (record { run = m.run; number = sym e j; database = m.database; rows = sym r j }) ++ tail_bytes x.top x.heard x.whole)

-- a store's area with its number and rows written anew
pub store_put : (st : Store) → Fits st → (number : ℕ) (rows : List Row) → placed count_offset 20001 (rows_of rows) (placed 4 4 (big 4 number) (encode_store st)) ≡ encode_store (with_rows rows (with_number number st))
store_put st f number rows =
    ap (λ (a : List ℕ). placed count_offset 20001 (rows_of rows) (placed 4 4 (big 4 number) a)) (sym (append-nil (encode_store st)))
    ∙ ap (placed count_offset 20001 (rows_of rows)) (number_put st f [] number) ∙ rows_put st f [] number rows ∙ append-nil (encode_store (with_rows rows (with_number number st)))
