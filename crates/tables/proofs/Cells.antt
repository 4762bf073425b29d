-- A table's cell, read back. Assumes nothing.
use Rattle.std.specs.Prelude.{Some, None}
use mathlib.Core.Path.{◌≡◌, refl, sym, ap, ◌∙◌}
use mathlib.Core.List.{List, [], ◌∷◌, ◌++◌, append_assoc}
use mathlib.Core.Bool.{Bool, true, false}
use Prim.Native.Nat.{ℕ, ◌+◌, ◌^◌, ◌<◌, ◌≤◌}
use native.Mathlib.Omega.{arith}
use lib.Dec.{eqb}
use lib.ListN.{length, get_or, take, drop, length-append, take-append-drop}
use lib.Seq.{length-take-le, take-append-le, get_or-append-add, drop-append-add, get_or-take, get_or-drop, take_at}
use Rattle.model.specs.Octets.{big, value, part}
use Rattle.model.specs.Catalog.{entry_name, is_set, max_rows_from, bit}
use Rattle.model.proofs.Octets.{length_big, value_big_fits}
use Rattle.model.proofs.Tests.{split}
use Rattle.catalog.specs.Writing.{head_bytes}
use Rattle.tables.specs.Tables.{NameOnly}

-- a name is in the first 25 bytes
pub name_front : (a b c : List ℕ) → length a ≡ 25 → get_or a 0 0 ≤ 24 → entry_name (a ++ b) ≡ entry_name (a ++ c)
name_front [] b c l h = absurd (omega arith)
name_front (x ∷ a) b c l h = take-append-le x a b (omega arith) ∙ sym (take-append-le x a c (omega arith))

bit_is : (b : Bool) → eqb (bit b) 1 ≡ b
bit_is true = refl
bit_is false = refl

module _ (name : List ℕ) (only : NameOnly name) (n : ℕ) (root limited : Bool) (most : ℕ) where
  abbrev front : List ℕ
  front = take 25 name

  abbrev head : List ℕ
  head = head_bytes n root limited most

  front_size : length front ≡ 25
  front_size = length-take-le 25 name (let z = only.size in omega arith)

  head_size : length head ≡ 11
  unfolding head_bytes
  head_size = omega (arith, length-append (n ∷ bit root ∷ bit limited ∷ []) (big 8 most), length_big 8 most)

  both_size : length (front ++ head) ≡ 36
  both_size = length-append front head ∙ (λ i. front_size i + head_size i)

  -- a cell whose first 36 bytes are these
  module _ (rest : List ℕ) where
    abbrev cell : List ℕ
    cell = (front ++ head) ++ rest

    apart : cell ≡ front ++ (head ++ rest)
    apart = append_assoc front head rest

    at : (k : ℕ) → get_or cell (25 + k) 0 ≡ get_or (head ++ rest) k 0
    at k = ap (λ (l : List ℕ). get_or l (25 + k) 0) apart ∙ ap (λ (m : ℕ). get_or (front ++ (head ++ rest)) (m + k) 0) (sym front_size) ∙ get_or-append-add front (head ++ rest) k 0

    count_is : get_or cell 25 0 ≡ n
    unfolding head_bytes
    count_is = at 0

    root_is : is_set cell 26 ≡ root
    unfolding head_bytes
    root_is = ap (λ (x : ℕ). eqb x 1) (at 1) ∙ bit_is root

    limited_is : is_set cell 27 ≡ limited
    unfolding head_bytes
    limited_is = ap (λ (x : ℕ). eqb x 1) (at 2) ∙ bit_is limited

    most_is : part 28 8 cell ≡ big 8 most
    unfolding head_bytes
    most_is =
        ap (λ (l : List ℕ). take 8 (drop 28 l)) apart
        ∙ ap (λ (m : ℕ). take 8 (drop (m + 3) (front ++ (head ++ rest)))) (sym front_size)
        ∙ ap (take 8) (drop-append-add front (head ++ rest) 3)
        ∙ take_at (big 8 most) rest 8 (length_big 8 most)

    rows_is : (limited ≡ true → most < 256 ^ 8) → max_rows_from cell ≡ elim limited [ true ↦ Some most | false ↦ None ]
    rows_is h =
        split limited
        (λ e.
        let v : value (part 28 8 cell) ≡ most = ap value most_is ∙ value_big_fits 8 most (h e) in
        (λ i. elim (limited_is i) [ true ↦ Some (v i) | false ↦ None ]))
        (λ e.
        (λ i. elim ((limited_is ∙ e) i) [ true ↦ Some (value (part 28 8 cell)) | false ↦ None ])
        ∙ sym (λ i. elim (e i) [ true ↦ Some most | false ↦ None ]))

    name_is : entry_name cell ≡ entry_name name
    name_is =
        let h : get_or front 0 0 ≤ 24 = rw (get_or-take 25 name 0 0 (omega arith)) only.short in
        ap entry_name apart ∙ name_front front (head ++ rest) (drop 25 name) front_size h ∙ ap entry_name (take-append-drop 25 name)

  -- the cell as it is before its indexes are there
  no_index : get_or ((front ++ head) ++ drop 36 name) 36 0 ≡ 0
  no_index =
      ap (λ (m : ℕ). get_or ((front ++ head) ++ drop 36 name) (m + 0) 0) (sym both_size)
      ∙ get_or-append-add (front ++ head) (drop 36 name) 0 0
      ∙ get_or-drop 36 name 0 0
      ∙ only.none

  -- and after
  rejoined : (after : List ℕ) → take 36 after ≡ take 36 ((front ++ head) ++ drop 36 name) → after ≡ (front ++ head) ++ drop 36 after
  rejoined after h =
      sym (take-append-drop 36 after) ∙ ap (λ (l : List ℕ). l ++ drop 36 after) (h ∙ take_at (front ++ head) (drop 36 name) 36 both_size)

  -- what a cell says after its head is there, whatever its indexes
  module _ (after : List ℕ) (h : take 36 after ≡ take 36 ((front ++ head) ++ drop 36 name)) where
    abbrev q : after ≡ (front ++ head) ++ drop 36 after
    q = rejoined after h

    pub after_count : get_or after 25 0 ≡ n
    after_count = ap (λ (l : List ℕ). get_or l 25 0) q ∙ count_is (drop 36 after)

    pub after_root : is_set after 26 ≡ root
    after_root = ap (λ (l : List ℕ). is_set l 26) q ∙ root_is (drop 36 after)

    pub after_rows : (limited ≡ true → most < 256 ^ 8) → max_rows_from after ≡ elim limited [ true ↦ Some most | false ↦ None ]
    after_rows f = ap max_rows_from q ∙ rows_is (drop 36 after) f

    pub after_name : entry_name after ≡ entry_name name
    after_name = ap entry_name q ∙ name_is (drop 36 after)

  pub before_index : get_or ((take 25 name ++ head_bytes n root limited most) ++ drop 36 name) 36 0 ≡ 0
  before_index = no_index
