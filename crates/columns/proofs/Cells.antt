-- A column's cell, read back. Assumes nothing.
use mathlib.Core.Path.{◌≡◌, refl, sym, ap, subst, ◌∙◌}
use mathlib.Core.List.{List, [], ◌∷◌, ◌++◌, append_assoc}
use mathlib.Core.Bool.{Bool, true, false, ◌&&◌}
use Prim.Native.Nat.{ℕ, suc, ◌+◌, ◌-◌, ◌≤◌}
use native.Mathlib.Omega.{arith}
use borrow.Author.Tests.{lt-ltb, leb-true}
use lib.Dec.{eqb, leb}
use lib.ListN.{length, get_or, take, drop, replicate, length-append, length-replicate}
use lib.Seq.{take-append-le, drop-append-add, get_or-append-add}
use Rattle.model.specs.Octets.{big, value, twos}
use Rattle.model.specs.Base.{ascii}
use Rattle.model.specs.Scan.{end_or}
use Rattle.model.specs.Json.{Json, Named, key_at, member_at, value_at}
use Rattle.model.specs.Nav.{is_read}
use Rattle.inner.specs.Positions.{tree_at, well_at}
use Rattle.inner.specs.Positions.{word_in}
use Rattle.model.specs.Members.{members_in, has_member, member_value}
use Rattle.model.specs.Whole.{whole_int}
use Rattle.model.specs.Value.{text_of, from_twos}
use Rattle.model.specs.Catalog.{base_numbered}
use Rattle.model.specs.Catalog.{entry_name, is_set, refers_from, column_from, bit}
use Rattle.model.specs.SchemaText.{must, is_id, is_bool, truth_or, key_members, key_base, type_members, type_tests, type_fits, min_of, max_of, low_of, high_of, column_fits, column_of}
use Rattle.model.proofs.Tests.{split, clash, and_l, and_r, parts}
use Rattle.nav.proofs.Rest.{member_is, member_well}
use Rattle.nav.proofs.Walk.{name_at}
use Rattle.names.specs.Names.{short_cell, name_cell}
use Rattle.members.specs.Fields.{slot_tree, Slots}
use Rattle.members.proofs.Slotted.{must_slot, may_slot}
use Rattle.column_types.specs.declared.Shape.{Shape}
use Rattle.column_types.specs.Types.{KeyRead, TypeRead}
use Rattle.column_types.proofs.Keys.{both}
use Rattle.catalog.specs.Writing.{limit_bytes}
use Rattle.columns.specs.Parts.{member_of}
use Rattle.columns.specs.Columns.{small, shape_bytes, TypeIn, truth_allowed, column_allowed, ColumnRead}
use Rattle.columns.proofs.Gathering.{cell_id, cell_short}
use Rattle.columns.proofs.Sizes.{low_back, high_back, sizes_few}

small_is : (x : ℕ) → x ≤ 4 → small x ≡ x
unfolding small
small_is x h = rw (small, lt-ltb x 256 (omega arith))

bit_is : (b : Bool) → eqb (bit b) 1 ≡ b
bit_is true = refl
bit_is false = refl

-- ── what the bytes of a cell say ──
module _ (name : List ℕ) (size : length name ≡ 25) (t : Shape) (m : Bool) (rest : List ℕ) where
  abbrev cell : List ℕ
  cell = (name ++ shape_bytes t m) ++ rest

  byte_at : (k : ℕ) → get_or cell (25 + k) 0 ≡ get_or (shape_bytes t m ++ rest) k 0
  byte_at k =
      ap (λ (l : List ℕ). get_or l (25 + k) 0) (append_assoc name (shape_bytes t m) rest)
      ∙ ap (λ (n : ℕ). get_or (name ++ (shape_bytes t m ++ rest)) (n + k) 0) (sym size)
      ∙ get_or-append-add name (shape_bytes t m ++ rest) k 0

  bytes_from : (k : ℕ) → drop (25 + k) cell ≡ drop k (shape_bytes t m ++ rest)
  bytes_from k =
      ap (drop (25 + k)) (append_assoc name (shape_bytes t m) rest)
      ∙ ap (λ (n : ℕ). drop (n + k) (name ++ (shape_bytes t m ++ rest))) (sym size)
      ∙ drop-append-add name (shape_bytes t m ++ rest) k

  base_at : get_or cell 25 0 ≡ t.key.base
  unfolding shape_bytes
  base_at = byte_at 0

  how_at : get_or cell 26 0 ≡ t.key.how
  unfolding shape_bytes
  how_at = byte_at 1

  target_at : get_or cell 27 0 ≡ t.key.target
  unfolding shape_bytes
  target_at = byte_at 2

  min_at : get_or cell 28 0 ≡ small t.min
  unfolding shape_bytes
  min_at = byte_at 3

  max_at : get_or cell 29 0 ≡ small t.max
  unfolding shape_bytes
  max_at = byte_at 4

  mutable_at : get_or cell 30 0 ≡ bit m
  unfolding shape_bytes
  mutable_at = byte_at 5

  low_at_lem : take 8 (drop 31 cell) ≡ big 8 (twos 64 (whole_int t.key.low))
  unfolding shape_bytes limit_bytes
  low_at_lem = ap (take 8) (bytes_from 6)

  high_at : take 8 (drop 39 cell) ≡ big 8 (twos 64 (whole_int t.key.high))
  unfolding shape_bytes limit_bytes
  high_at = ap (take 8) (bytes_from 14)

name_read : (name rest : List ℕ) → length name ≡ 25 → get_or name 0 0 ≤ 24 → entry_name (name ++ rest) ≡ text_of name
name_read [] rest l h = absurd (omega arith)
name_read (x ∷ xs) rest l h = take-append-le x xs rest (omega arith)

-- ── the tests of a column ──
abbrev pub column_words : List (List ℕ)
column_words = ascii "type" ∷ ascii "ephemeral" ∷ ascii "mutable" ∷ []

module _ (s : List ℕ) (tables : List (List ℕ)) (c : Named) (f : List ℕ) (k : Slots s column_words (members_in c.value) f) (t : Shape) (allowed : TypeIn s tables (get_or f 0 0) t) where
  abbrev ms : List Named
  ms = members_in c.value

  abbrev slot : ℕ → ℕ
  slot i = get_or f i 0

  abbrev j : Json
  j = member_value (ascii "type") ms

  type_allowed_lem : must (ascii "type") (type_fits tables) ms ≡ t.fits
  type_allowed_lem =
      must_slot k 0 (omega arith) (type_fits tables)
      ∙ split (eqb (slot 0) 0) (λ e. rw e (sym (allowed.none e))) (λ e. rw e (sym (allowed.some e).fits))

  fits_is : column_allowed s f t.fits ≡ column_fits tables c.value
  unfolding column_allowed column_fits
  fits_is = sym (both k.listed (both type_allowed_lem (both (may_slot k 1 (omega arith) is_bool) (both (may_slot k 2 (omega arith) is_bool) refl))))

  module _ (fits : column_allowed s f t.fits ≡ true) where
    typed : t.fits ≡ true
    unfolding column_allowed
    typed = and_l t.fits _ (and_r (eqb (slot 9) 0) _ fits)

    type_is : TypeRead tables j t
    type_is =
        split
        (eqb (slot 0) 0)
        (λ e. absurd (clash t.fits typed (allowed.none e)))
        (λ e. subst (λ (x : Json). TypeRead tables x t) (sym (k.value 0 (omega arith))) (allowed.some e))

    abbrev ts : List Named
    ts = type_members j

    abbrev ks : List Named
    ks = key_members (member_value (ascii "key") ts)

    key_is : KeyRead tables (member_value (ascii "key") ts) t.key
    key_is = type_is.key typed

    type_good : type_fits tables j ≡ true
    type_good = sym type_is.fits ∙ typed

    key_good : t.key.fits ≡ true
    unfolding type_fits
    key_good = key_is.fits ∙ and_r (has_member (ascii "key") ts) _ (parts (type_tests tables ts) type_good).1.0

    few : (min_of ts ≤ 4) × (max_of ts ≤ 4)
    few = sizes_few tables j type_good

    -- the cell says what the definitions read
    column_is : (name rest : List ℕ) → length name ≡ 25 → get_or name 0 0 ≤ 24 → text_of name ≡ c.name → column_from ((name ++ shape_bytes t (truth_or true (slot_tree s (slot 2)))) ++ rest) ≡ column_of tables c
    unfolding column_of
    column_is name rest size short is =
        let m : Bool = truth_or true (slot_tree s (slot 2)) in
        let cell : List ℕ = (name ++ shape_bytes t m) ++ rest in
        let p0 : entry_name cell ≡ c.name = ap entry_name (append_assoc name (shape_bytes t m) rest) ∙ name_read name (shape_bytes t m ++ rest) size short ∙ is in
        let p1 : base_numbered (get_or cell 25 0) ≡ key_base ks = ap base_numbered (base_at name size t m rest) ∙ key_is.base in
        let p2 : refers_from (get_or cell 26 0) (get_or cell 27 0) ≡ (column_of tables c).refers = (λ i. refers_from (how_at name size t m rest i) (target_at name size t m rest i)) ∙ key_is.refers key_good in
        let p3 : get_or cell 28 0 ≡ min_of ts = min_at name size t m rest ∙ ap small type_is.min ∙ small_is (min_of ts) few.0 in
        let p4 : get_or cell 29 0 ≡ max_of ts = max_at name size t m rest ∙ ap small type_is.max ∙ small_is (max_of ts) few.1 in
        let p5 : from_twos (value (take 8 (drop 31 cell))) ≡ low_of (key_base ks) ks = ap (λ (l : List ℕ). from_twos (value l)) (low_at_lem name size t m rest) ∙ low_back (key_base ks) ks key_is.low in
        let p6 : from_twos (value (take 8 (drop 39 cell))) ≡ high_of (key_base ks) ks = ap (λ (l : List ℕ). from_twos (value l)) (high_at name size t m rest) ∙ high_back (key_base ks) ks key_is.high in
        let p7 : is_set cell 30 ≡ truth_or true (member_value (ascii "mutable") ms) = ap (λ (x : ℕ). eqb x 1) (mutable_at name size t m rest) ∙ bit_is m ∙ ap (truth_or true) (sym (k.value 2 (omega arith))) in
        λ i. record { name = p0 i; base = p1 i; refers = p2 i; min = p3 i; max = p4 i; low = p5 i; high = p6 i; mutable = p7 i }

  pub column_read : (name rest : List ℕ) → length name ≡ 25 → get_or name 0 0 ≤ 24 → (is_id c.name ≡ true → text_of name ≡ c.name) → ColumnRead tables c (record { fits = column_allowed s f t.fits; cell = (name ++ shape_bytes t (truth_or true (slot_tree s (slot 2)))) ++ rest })
  column_read name rest size short is = record { fits = fits_is; column = λ i e. column_is e name rest size short (is i) }

-- a name in the cell of a member
name_short : (t : List ℕ) → get_or (short_cell t) 0 0 ≤ 24
unfolding short_cell
name_short t = split (leb (length t) 24) (λ e. rw (short_cell, e) (leb-true (length t) 24 e)) (λ e. rw (short_cell, e) (omega arith))

name_size : (t : List ℕ) → length (short_cell t) ≡ 25
unfolding short_cell
name_size t =
    split
    (leb (length t) 24)
    (λ e.
    let l = leb-true (length t) 24 e in
    rw (short_cell, e) (omega (arith, length-append (length t ∷ t) (replicate (25 - suc (length t)) 0), length-replicate {A = ℕ} (25 - suc (length t)) 0)))
    (λ e. rw (short_cell, e))

module _ (s : List ℕ) (p : ℕ) (well : is_read (member_at (value_at 12 s) s p).read ≡ true) where
  name_cell_lem : name_cell (tree_at s p) ≡ short_cell (member_of s p).name
  unfolding name_cell word_in
  name_cell_lem = ap name_cell (name_at s p well)

  pub member_size : length (name_cell (tree_at s p)) ≡ 25
  member_size = ap length name_cell_lem ∙ name_size (member_of s p).name

  pub member_short : get_or (name_cell (tree_at s p)) 0 0 ≤ 24
  member_short = subst (λ (l : List ℕ). get_or l 0 0 ≤ 24) (sym name_cell_lem) (name_short (member_of s p).name)

  pub member_name : is_id (member_of s p).name ≡ true → text_of (name_cell (tree_at s p)) ≡ (member_of s p).name
  member_name h = ap text_of name_cell_lem ∙ cell_short (member_of s p).name (cell_id (member_of s p).name ∙ h)

  pub member_value_lem : ((member_of s p).value ≡ tree_at s (end_or p (key_at s p).read)) × (well_at s (end_or p (key_at s p).read) ≡ true)
  member_value_lem = let m = member_well s p well in rw m.1 (ap (λ (x : Named). x.value) (member_is s p m.0 m.1), m.2)

-- the tests as the code makes them
pub column_allowed_lem : (s f : List ℕ) (typed e m : Bool) → e ≡ truth_allowed s (get_or f 1 0) → m ≡ truth_allowed s (get_or f 2 0) → (eqb (get_or f 9 0) 0 && (typed && (e && m))) ≡ column_allowed s f typed
unfolding column_allowed
column_allowed_lem s f typed e m p q =
    rw (p, q) (ap (λ (x : Bool). eqb (get_or f 9 0) 0 && (typed && (truth_allowed s (get_or f 1 0) && x))) (sym (and_one (truth_allowed s (get_or f 2 0)))))
  where
    and_one : (b : Bool) → (b && true) ≡ b
    and_one true = refl
    and_one false = refl
