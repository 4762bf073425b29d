-- What is written is read: values, records and marks, and a buffer of them. Assumes nothing.
use Rattle.std.specs.Prelude.{Some}
use mathlib.Core.Path.{◌≡◌, refl, sym, ◌∙◌, ap}
use mathlib.Core.Bool.{Bool, true, false}
use mathlib.Core.List.{List, [], ◌∷◌, ◌++◌, map, append_assoc, append-nil}
use Prim.Native.Nat.{ℕ, zero, suc, ◌*◌, ◌^◌, ◌≤◌, ◌<◌}
use native.Mathlib.Nat.{add_comm, mul-suc, mul-zero}
use native.Mathlib.Omega.{arith}
use lib.Dec.{eqb, ltb}
use lib.ListN.{length, replicate, length-append}
use lib.Seq.{take_at, drop_at}
use borrow.Author.Tests.{eqb-true}
use Rattle.model.specs.Octets.{big, chunks}
use Rattle.model.specs.Limits.{atom_bytes}
use Rattle.model.specs.Base.{all, flat}
use Rattle.model.specs.Value.{Value, byte_atom, shaped}
use Rattle.model.specs.Records.{Change, born, gone, column, end, Record, numbered, mark, record_bytes, value_bytes, value_from, encode, cut, decode, pieces_from, pieces}
use Rattle.model.proofs.Tests.{and_l, and_r}
use Rattle.model.proofs.Lists.{all_head, all_tail, all_imply}
use Rattle.model.proofs.Octets.{value_big_fits}

-- ── parts of one width, and values ──
abbrev pub sized_as : ℕ → List ℕ → Bool
sized_as w a = eqb (length a) w

module _ (w : ℕ) where
  sized_length : (a : List ℕ) (l : List (List ℕ)) → all (sized_as w) (a ∷ l) ≡ true → length a ≡ w
  sized_length a l h = eqb-true (length a) w (all_head (sized_as w) a l h)

  pub chunks_flat : (n : ℕ) (l : List (List ℕ)) (rest : List ℕ) → length l ≡ n → all (sized_as w) l ≡ true → chunks w n (flat l ++ rest) ≡ l
  chunks_flat zero [] rest e h = refl
  chunks_flat zero (a ∷ l) rest e h = absurd (omega arith)
  chunks_flat (suc n) [] rest e h = absurd (omega arith)
  chunks_flat (suc n) (a ∷ l) rest e h =
      let p = sized_length a l h in
      rw (append_assoc a (flat l) rest, take_at a (flat l ++ rest) w p, drop_at a (flat l ++ rest) w p, chunks_flat n l rest (omega arith) (all_tail (sized_as w) a l h))

  pub length_parts : (l : List (List ℕ)) → all (sized_as w) l ≡ true → length (flat l) ≡ w * length l
  length_parts [] h = sym (mul-zero w)
  length_parts (a ∷ l) h =
      let p = sized_length a l h in
      let q = length_parts l (all_tail (sized_as w) a l h) in
      simp length-append (rw (p, q) (add_comm w (w * length l) ∙ sym (mul-suc w (length l))))

-- cells of 25 bytes
abbrev pub sized : List ℕ → Bool
sized a = sized_as atom_bytes a

pub atoms_sized : (l : List (List ℕ)) → all byte_atom l ≡ true → all sized l ≡ true
atoms_sized l h = all_imply byte_atom sized (λ a e. and_l (sized a) (all (λ (b : ℕ). ltb b 256) a) e) l h

pub cut_flat : (n : ℕ) (l : List (List ℕ)) (rest : List ℕ) → length l ≡ n → all sized l ≡ true → cut n (flat l ++ rest) ≡ l
cut_flat n l rest e h = chunks_flat atom_bytes n l rest e h

pub length_flat : (l : List (List ℕ)) → all sized l ≡ true → length (flat l) ≡ 25 * length l
length_flat l h = omega (arith, length_parts atom_bytes l h)

module _ (v : Value) (h : shaped v ≡ true) where
  pub four_atoms : length v.atoms ≡ 4
  four_atoms = eqb-true (length v.atoms) 4 (and_l (eqb (length v.atoms) 4) (all byte_atom v.atoms) h)

  pub value_sized : all sized v.atoms ≡ true
  value_sized = atoms_sized v.atoms (and_r (eqb (length v.atoms) 4) (all byte_atom v.atoms) h)

  pub length_value : length (value_bytes v) ≡ 101
  length_value = omega (arith, four_atoms, length_flat v.atoms value_sized)

  pub value_read : value_from (value_bytes v) ≡ v
  value_read = λ j. record { count = v.count; atoms = (ap (cut 4) (sym (append-nil (flat v.atoms))) ∙ cut_flat 4 v.atoms [] four_atoms value_sized) j }

-- ── records whose numbers have their widths, and whose value has its shape ──
abbrev pub Fits : Change → Type 0
Fits (born t i) = i < 256 ^ 16
Fits (gone t i) = i < 256 ^ 16
Fits (column t i c v) = (i < 256 ^ 16) × (shaped v ≡ true)
Fits end = Unit

abbrev pub Wide : Record → Type 0
Wide (numbered u n e) = (u < 256 ^ 4) × (n < 256 ^ 4) × Fits e
Wide (mark u n) = (u < 256 ^ 4) × (n < 256 ^ 4)

abbrev pub AllWide : List Record → Type 0
AllWide [] = Unit
AllWide (r ∷ rs) = Wide r × AllWide rs

decode_numbered : (u n : ℕ) (e : Change) → u < 256 ^ 4 → n < 256 ^ 4 → Fits e → decode (encode (numbered u n e)) ≡ Some (numbered u n e)
decode_numbered u n (born t i) hu hn hi = λ j. Some (numbered (value_big_fits 4 u hu j) (value_big_fits 4 n hn j) (born t (value_big_fits 16 i hi j)))
decode_numbered u n (gone t i) hu hn hi = λ j. Some (numbered (value_big_fits 4 u hu j) (value_big_fits 4 n hn j) (gone t (value_big_fits 16 i hi j)))
decode_numbered u n (column t i c v) hu hn hi =
    let e : length (flat v.atoms) ≡ 100 = omega (arith, length_value v hi.1) in
    rw e (λ j. Some (numbered (value_big_fits 4 u hu j) (value_big_fits 4 n hn j) (column t (value_big_fits 16 i hi.0 j) c (value_read v hi.1 j))))
decode_numbered u n end hu hn hi = λ j. Some (numbered (value_big_fits 4 u hu j) (value_big_fits 4 n hn j) end)

pub decode_encode : (r : Record) → Wide r → decode (encode r) ≡ Some r
decode_encode (numbered u n e) h = decode_numbered u n e h.0 h.1 h.2
decode_encode (mark u n) h = λ j. Some (mark (value_big_fits 4 u h.0 j) (value_big_fits 4 n h.1 j))

-- ── a buffer of records ──
module _ (k : ℕ) (b rest : List ℕ) (fuel : ℕ) where
  piece : eqb (record_bytes k) 0 ≡ false → length (k ∷ b) ≡ record_bytes k → pieces_from (suc fuel) ((k ∷ b) ++ rest) ≡ (k ∷ b) ∷ pieces_from fuel rest
  piece h e = rw (h, pieces_from) (rw (take_at (k ∷ b) rest (record_bytes k) e, drop_at (k ∷ b) rest (record_bytes k) e))

piece_record : (r : Record) → Wide r → (rest : List ℕ) (fuel : ℕ) → pieces_from (suc fuel) (encode r ++ rest) ≡ encode r ∷ pieces_from fuel rest
piece_record (numbered u n (born t i)) h rest fuel = piece 1 (big 4 u ++ (big 4 n ++ t ∷ big 16 i)) rest fuel refl refl
piece_record (numbered u n (gone t i)) h rest fuel = piece 2 (big 4 u ++ (big 4 n ++ t ∷ big 16 i)) rest fuel refl refl
piece_record (numbered u n (column t i c v)) h rest fuel =
    piece 3 (big 4 u ++ (big 4 n ++ t ∷ big 16 i ++ c ∷ value_bytes v)) rest fuel refl (omega (arith, length_value v h.2.1))
piece_record (numbered u n end) h rest fuel = piece 4 (big 4 u ++ big 4 n) rest fuel refl refl
piece_record (mark u n) h rest fuel = piece 5 (big 4 u ++ big 4 n) rest fuel refl refl

pieces_zeros : (fuel k : ℕ) → pieces_from fuel (replicate k 0) ≡ []
pieces_zeros zero k = refl
pieces_zeros (suc fuel) zero = refl
pieces_zeros (suc fuel) (suc k) = refl

pieces_all : (rs : List Record) → AllWide rs → (fuel k : ℕ) → length rs ≤ fuel → pieces_from fuel (flat (map encode rs) ++ replicate k 0) ≡ map encode rs
pieces_all [] w fuel k h = pieces_zeros fuel k
pieces_all (r ∷ rs) w zero k h = absurd (omega arith)
pieces_all (r ∷ rs) w (suc fuel) k h =
    rw (append_assoc (encode r) (flat (map encode rs)) (replicate k 0), piece_record r w.0 (flat (map encode rs) ++ replicate k 0) fuel, pieces_all rs w.1 fuel k (omega arith))

some_bytes : (r : Record) → 0 < length (encode r)
some_bytes (numbered u n (born t i)) = omega arith
some_bytes (numbered u n (gone t i)) = omega arith
some_bytes (numbered u n (column t i c v)) = omega arith
some_bytes (numbered u n end) = omega arith
some_bytes (mark u n) = omega arith

fuel_enough : (rs : List Record) → length rs ≤ length (flat (map encode rs))
fuel_enough [] = omega arith
fuel_enough (r ∷ rs) = simp length-append (omega (arith, some_bytes r, fuel_enough rs))

-- a buffer that holds records and then zeros is cut into just these records
pub pieces_of : (rs : List Record) (k : ℕ) → AllWide rs → pieces (flat (map encode rs) ++ replicate k 0) ≡ map encode rs
pieces_of rs k w = pieces_all rs w (length (flat (map encode rs) ++ replicate k 0)) k (simp length-append (omega (arith, fuel_enough rs)))
