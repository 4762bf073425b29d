-- A key by its slots is the key that the schema's definitions read. Assumes nothing.
use Rattle.std.specs.Prelude.{Option}
use mathlib.Core.Path.{◌≡◌, refl, sym, ap, ◌∙◌}
use mathlib.Core.List.{List, [], ◌∷◌, map}
use mathlib.Core.Bool.{Bool, true, false, not, ◌&&◌, ◌||◌}
use Prim.Native.Nat.{ℕ, ◌<◌, ◌≤◌}
use native.Mathlib.Omega.{arith}
use borrow.Author.Tests.{eqb-true, ne_eqb}
use lib.Dec.{eqb, ltb}
use lib.ListN.{length, get_or, length-map}
use lib.IntN.{ℤ}
use lib.Signed.{le_z}
use Rattle.model.specs.declared.Whole.{Whole}
use Rattle.model.specs.declared.Whole.TheVariants.{Plus, Minus}
use Rattle.model.specs.Base.{all, ascii}
use Rattle.model.specs.Json.{Json, null, bool, num, str, arr, obj, Named}
use Rattle.model.specs.Nav.{text_in}
use Rattle.model.specs.Members.{has_member, member_value}
use Rattle.model.specs.Whole.{whole_of, whole_int}
use Rattle.model.specs.Text.{is_word}
use Rattle.model.specs.Schema.{Base, integer, boolean, text, uuid, plain, strong, weak}
use Rattle.model.specs.Catalog.{base_numbered}
use Rattle.model.specs.Catalog.{entry_name, refers_from}
use Rattle.model.specs.SchemaText.{may, is_one_of, is_integer, is_id, is_base, base_number, same_base, is_limit, limit_or, least, greatest, low_of, high_of, place_or, key_tests, key_members, key_base, key_fits, refers_of}
use Rattle.model.specs.SchemaText as ST
use Rattle.model.proofs.Tests.{split, and_r, parts, bytes_same}
use Rattle.members.specs.Fields.{choice_from, choice, slot_tree, Slots}
use Rattle.members.proofs.Slotted.{must_null, may_slot}
use Rattle.catalog.specs.Entries.{is_found, entry_named}
use Rattle.column_types.proofs.Tables.{one_of, place_is}
use Rattle.column_types.specs.declared.Parts.{Parts}
use Rattle.column_types.specs.Types.{limit_in, bound_in, table_in, place_byte, base_byte, how_byte, base_words, ref_words, limit_allowed, parts_in, key_allowed, KeyRead}

-- ── conjunctions ──
pub both : {a b c d : Bool} → a ≡ c → b ≡ d → (a && b) ≡ (c && d)
both p q = λ i. p i && q i

pub last : {a b : Bool} → a ≡ b → (a && true) ≡ b
last {a} {b} p = rw p (go b)
  where
    go : (b : Bool) → (b && true) ≡ b
    go true = refl
    go false = refl

or_else : (a b : Bool) → (a || b) ≡ true → a ≡ false → b ≡ true
or_else true b h e = cc
or_else false b h e = h

-- ── bases ──
module _ (j : Json) where
  base_allowed : is_base j ≡ ltb (choice base_words j) 4
  unfolding is_base choice choice_from
  base_allowed =
      split
      (is_word (ascii "integer") j)
      (λ a. rw (choice, choice_from, a))
      (λ a.
      split
      (is_word (ascii "boolean") j)
      (λ b. rw (choice, choice_from, a, choice_from, b))
      (λ b.
      split
      (is_word (ascii "string") j)
      (λ c. rw (choice, choice_from, a, choice_from, b, choice_from, c))
      (λ c. split (is_word (ascii "uuid") j) (λ d. rw (choice, choice_from, a, choice_from, b, choice_from, c, choice_from, d)) (λ d. rw (choice, choice_from, a, choice_from, b, choice_from, c, choice_from, d)))))

  base_is : base_numbered (base_byte (choice base_words j)) ≡ ST.base_of j
  unfolding ST.base_of choice choice_from base_byte base_numbered
  base_is =
      split
      (is_word (ascii "integer") j)
      (λ a. rw (choice, choice_from, ST.base_of, a))
      (λ a.
      split
      (is_word (ascii "boolean") j)
      (λ b. rw (choice, choice_from, ST.base_of, a, choice_from, b))
      (λ b.
      split
      (is_word (ascii "string") j)
      (λ c. rw (choice, choice_from, ST.base_of, a, choice_from, b, choice_from, c))
      (λ c.
      split
      (is_word (ascii "uuid") j)
      (λ d. rw (choice, choice_from, ST.base_of, a, choice_from, b, choice_from, c, choice_from, d))
      (λ d. rw (choice, choice_from, ST.base_of, a, choice_from, b, choice_from, c, choice_from, d)))))

-- the byte of a base is its number
byte_number : (n : ℕ) → base_number (base_numbered (base_byte n)) ≡ base_byte n
unfolding base_number base_numbered base_byte
byte_number n =
    split
    (eqb n 0)
    (λ a. rw (base_byte, a))
    (λ a. split (eqb n 1) (λ b. rw (base_byte, a, b)) (λ b. split (eqb n 2) (λ c. rw (base_byte, a, b, c)) (λ c. rw (base_byte, a, b, c))))

-- ── limits ──
-- the limits of a base, by the test that the code makes
bound_by : (A : Type 0) (b : ℕ) (x y d : A) (f : Base → A) → f integer ≡ x → f boolean ≡ d → f text ≡ y → f uuid ≡ d → f (base_numbered b) ≡ elim (eqb b 0) [ true ↦ x | false ↦ elim (eqb b 2) [ true ↦ y | false ↦ d ] ]
unfolding base_numbered
bound_by A b x y d f i o t u =
    split
    (eqb b 0)
    (λ e. rw (base_numbered, e) i)
    (λ e.
    split
    (eqb b 1)
    (λ g. let z : eqb b 2 ≡ false = ne_eqb b 2 (λ h. omega (arith, eqb-true b 1 g)) in rw (base_numbered, e, g, z) o)
    (λ g. split (eqb b 2) (λ h. rw (base_numbered, e, g, h) t) (λ h. rw (base_numbered, e, g, h) u)))

-- ── how a key refers ──
not_both : (j : Json) → is_word (ascii "strong") j ≡ true → is_word (ascii "weak") j ≡ false
unfolding is_word
not_both null h = refl
not_both (bool b) h = refl
not_both (num t) h = refl
not_both (str t) h = let q : t ≡ ascii "strong" = bytes_same t (ascii "strong") h in rw q
not_both (arr xs) h = refl
not_both (obj ms) h = refl

module _ (j : Json) where
  kind_allowed : (is_word (ascii "strong") j || is_word (ascii "weak") j) ≡ ltb (choice ref_words j) 2
  unfolding choice choice_from
  kind_allowed =
      split
      (is_word (ascii "strong") j)
      (λ a. rw (choice, choice_from, a))
      (λ a. split (is_word (ascii "weak") j) (λ b. rw (choice, choice_from, a, choice_from, b)) (λ b. rw (choice, choice_from, a, choice_from, b)))

  kind_weak : is_word (ascii "weak") j ≡ eqb (choice ref_words j) 1
  unfolding choice choice_from
  kind_weak =
      split
      (is_word (ascii "strong") j)
      (λ a. rw (choice, choice_from, a) (not_both j a))
      (λ a. split (is_word (ascii "weak") j) (λ b. rw (choice, choice_from, a, choice_from, b)) (λ b. rw (choice, choice_from, a, choice_from, b)))

refers_none : (t : ℕ) → refers_from 0 t ≡ plain
unfolding refers_from
refers_none t = refl

refers_from_lem : (w : Bool) (t : ℕ) → refers_from (elim w [ true ↦ 2 | false ↦ 1 ]) t ≡ elim w [ true ↦ weak t | false ↦ strong t ]
unfolding refers_from
refers_from_lem true t = refl
refers_from_lem false t = refl

-- ── the key ──
abbrev pub key_words : List (List ℕ)
key_words = ascii "type" ∷ ascii "minInteger" ∷ ascii "maxInteger" ∷ ascii "minLength" ∷ ascii "maxLength" ∷ ascii "refTable" ∷ ascii "refType" ∷ []

module _ (s : List ℕ) (cells : List (List ℕ)) (j : Json) (f : List ℕ) (k : Slots s key_words (key_members j) f) (ids : all is_id (map entry_name cells) ≡ true) (few : length cells ≤ 4) where
  abbrev ms : List Named
  ms = key_members j

  abbrev slot : ℕ → ℕ
  slot i = get_or f i 0

  abbrev n : ℕ
  n = choice base_words (slot_tree s (slot 0))

  abbrev base : ℕ
  base = base_byte n

  abbrev low : Whole
  low = bound_in s base (slot 1) (slot 3) (Minus 9223372036854775808)

  abbrev high : Whole
  high = bound_in s base (slot 2) (slot 4) (Plus 9223372036854775807)

  abbrev table : Option ℕ
  table = table_in s cells (slot 5)

  abbrev kind : ℕ
  kind = choice ref_words (slot_tree s (slot 6))

  abbrev allowed : Bool
  allowed = key_allowed s f (record { word = n; base = base; low = low; high = high; table = table; kind = kind })

  base_of : base_numbered base ≡ key_base ms
  base_of = base_is (slot_tree s (slot 0)) ∙ ap ST.base_of (sym (k.value 0 (omega arith)))

  same_base_lem : (b : Base) (m : ℕ) → base_number b ≡ m → same_base (key_base ms) b ≡ eqb base m
  same_base_lem b m h = rw (← base_of, byte_number n, h)

  -- a limit that is there fits, or not
  limit_allowed_lem : (i : ℕ) (h : i < 7) (b : Base) (m : ℕ) → base_number b ≡ m → may (get_or key_words i []) (is_limit b (key_base ms)) ms ≡ limit_allowed s (slot i) (eqb base m)
  limit_allowed_lem i h b m e = may_slot k i h (is_limit b (key_base ms)) ∙ ap (λ (x : Bool). eqb (slot i) 0 || (x && is_integer (slot_tree s (slot i)))) (same_base_lem b m e)

  limit_is : (i : ℕ) (h : i < 7) (d : Whole) → limit_or (get_or key_words i []) (whole_int d) ms ≡ whole_int (limit_in s (slot i) d)
  unfolding limit_or limit_in
  limit_is i h d =
      split
      (eqb (slot i) 0)
      (λ e. rw (limit_or, limit_in, k.here i h, e))
      (λ e. rw (limit_or, limit_in, k.here i h, e) (ap (λ (x : Json). whole_int (whole_of x)) (k.value i h)))

  -- the limits, by the base
  int_by : (x y d : Whole) → elim (eqb base 0) [ true ↦ whole_int x | false ↦ elim (eqb base 2) [ true ↦ whole_int y | false ↦ whole_int d ] ] ≡ whole_int (elim (eqb base 0) [ true ↦ x | false ↦ elim (eqb base 2) [ true ↦ y | false ↦ d ] ])
  int_by x y d = split (eqb base 0) (λ e. rw e) (λ e. rw e (split (eqb base 2) (λ g. rw g) (λ g. rw g)))

  low_is : whole_int low ≡ low_of (key_base ms) ms
  unfolding bound_in low_of whole_int
  low_is =
      let d : Whole = Minus 9223372036854775808 in
      sym
      (ap (λ (b : Base). low_of b ms) (sym base_of)
      ∙ bound_by ℤ base (whole_int (limit_in s (slot 1) d)) (whole_int (limit_in s (slot 3) d)) least (λ (b : Base). low_of b ms) (limit_is 1 (omega arith) d) refl (limit_is 3 (omega arith) d) refl
      ∙ int_by (limit_in s (slot 1) d) (limit_in s (slot 3) d) d)

  high_is : whole_int high ≡ high_of (key_base ms) ms
  unfolding bound_in high_of whole_int
  high_is =
      let d : Whole = Plus 9223372036854775807 in
      sym
      (ap (λ (b : Base). high_of b ms) (sym base_of)
      ∙ bound_by ℤ base (whole_int (limit_in s (slot 2) d)) (whole_int (limit_in s (slot 4) d)) greatest (λ (b : Base). high_of b ms) (limit_is 2 (omega arith) d) refl (limit_is 4 (omega arith) d) refl
      ∙ int_by (limit_in s (slot 2) d) (limit_in s (slot 4) d) d)

  -- the table that it refers to is one of the tables
  table_allowed : (eqb (slot 5) 0 ≡ false) → is_found table ≡ is_one_of (map entry_name cells) (slot_tree s (slot 5))
  unfolding table_in entry_named
  table_allowed e = rw (table_in, e) (one_of (map entry_name cells) ids (slot_tree s (slot 5)))

  refer_allowed : may (ascii "refTable") (λ (x : Json). same_base (key_base ms) uuid && is_one_of (map entry_name cells) x) ms ≡ (eqb (slot 5) 0 || (eqb base 3 && is_found table))
  unfolding base_number
  refer_allowed =
      may_slot k 5 (omega arith) (λ (x : Json). same_base (key_base ms) uuid && is_one_of (map entry_name cells) x)
      ∙ split
      (eqb (slot 5) 0)
      (λ e. rw e)
      (λ e. rw e (both (same_base_lem uuid 3 refl) (sym (table_allowed e))))

  type_allowed_lem : may (ascii "refType") (λ (x : Json). is_word (ascii "strong") x || is_word (ascii "weak") x) ms ≡ (eqb (slot 6) 0 || ltb kind 2)
  type_allowed_lem = may_slot k 6 (omega arith) (λ (x : Json). is_word (ascii "strong") x || is_word (ascii "weak") x) ∙ ap (λ (b : Bool). eqb (slot 6) 0 || b) (kind_allowed (slot_tree s (slot 6)))

  with_allowed : (has_member (ascii "refTable") ms || not (has_member (ascii "refType") ms)) ≡ (not (eqb (slot 5) 0) || eqb (slot 6) 0)
  with_allowed = rw (k.here 5 (omega arith), k.here 6 (omega arith)) (split (eqb (slot 6) 0) (λ e. rw e) (λ e. rw e))

  no_base : is_base null ≡ false
  unfolding is_base is_word
  no_base = refl

  fits_is : allowed ≡ key_fits (map entry_name cells) j
  unfolding key_allowed key_fits base_number
  fits_is =
      sym
      (both k.listed
      (both (must_null k 0 (omega arith) is_base no_base ∙ base_allowed (slot_tree s (slot 0)))
      (both (limit_allowed_lem 1 (omega arith) integer 0 refl)
      (both (limit_allowed_lem 2 (omega arith) integer 0 refl)
      (both (limit_allowed_lem 3 (omega arith) text 2 refl)
      (both (limit_allowed_lem 4 (omega arith) text 2 refl)
      (both (sym (λ i. le_z (low_is i) (high_is i))) (both refer_allowed (both type_allowed_lem (both with_allowed refl))))))))))

  -- where a key that fits names a table, it is one of the tables
  one_allowed : allowed ≡ true → eqb (slot 5) 0 ≡ false → is_one_of (map entry_name cells) (slot_tree s (slot 5)) ≡ true
  unfolding key_fits
  one_allowed h e =
      let q : Json → Bool = λ (x : Json). same_base (key_base ms) uuid && is_one_of (map entry_name cells) x in
      let t = parts (key_tests (map entry_name cells) (key_base ms) ms) (sym fits_is ∙ h) in
      and_r (same_base (key_base ms) uuid) _ (or_else (eqb (slot 5) 0) _ (sym (may_slot k 5 (omega arith) q) ∙ t.1.1.1.1.1.1.1.0) e)

  place_allowed : allowed ≡ true → eqb (slot 5) 0 ≡ false → place_byte table ≡ place_or (text_in (member_value (ascii "refTable") ms)) (map entry_name cells)
  unfolding table_in entry_named
  place_allowed h e = rw (table_in, e, k.value 5 (omega arith)) (place_is (map entry_name cells) ids (slot_tree s (slot 5)) (one_allowed h e) (omega (arith, length-map cells entry_name)))

  refers_is : allowed ≡ true → refers_from (how_byte (slot 5) kind) (place_byte table) ≡ refers_of (map entry_name cells) ms
  unfolding how_byte refers_of
  refers_is h =
      split
      (eqb (slot 5) 0)
      (λ e. rw (how_byte, refers_of, k.here 5 (omega arith), e) (refers_none (place_byte table)))
      (λ e.
      rw
      (how_byte, refers_of, k.here 5 (omega arith), e, place_allowed h e, k.value 6 (omega arith), kind_weak (slot_tree s (slot 6)))
      (refers_from_lem (eqb kind 1) (place_or (text_in (member_value (ascii "refTable") ms)) (map entry_name cells))))

  pub key_read : KeyRead (map entry_name cells) j (let p = parts_in s cells f in record { fits = key_allowed s f p; base = p.base; how = how_byte (slot 5) p.kind; target = place_byte p.table; low = p.low; high = p.high })
  unfolding parts_in
  key_read = record { fits = fits_is; base = base_of; refers = refers_is; low = low_is; high = high_is }

-- the tests as the code makes them
module _ (s f : List ℕ) (k : Parts) where
  pub key_allowed_lem : (a b c d o t : Bool) → a ≡ limit_allowed s (get_or f 1 0) (eqb k.base 0) → b ≡ limit_allowed s (get_or f 2 0) (eqb k.base 0) → c ≡ limit_allowed s (get_or f 3 0) (eqb k.base 2) → d ≡ limit_allowed s (get_or f 4 0) (eqb k.base 2) → o ≡ le_z (whole_int k.low) (whole_int k.high) → t ≡ is_found k.table → (eqb (get_or f 9 0) 0 && (ltb k.word 4 && (a && (b && (c && (d && (o && ((eqb (get_or f 5 0) 0 || (eqb k.base 3 && t)) && ((eqb (get_or f 6 0) 0 || ltb k.kind 2) && (not (eqb (get_or f 5 0) 0) || eqb (get_or f 6 0) 0)))))))))) ≡ key_allowed s f k
  unfolding key_allowed
  key_allowed_lem a b c d o t ea eb ec ed eo et =
      let z : Bool = not (eqb (get_or f 5 0) 0) || eqb (get_or f 6 0) 0 in
      let e : z ≡ (z && true) = sym (last refl) in
      λ i. eqb (get_or f 9 0) 0 && (ltb k.word 4 && (ea i && (eb i && (ec i && (ed i && (eo i && ((eqb (get_or f 5 0) 0 || (eqb k.base 3 && et i)) && ((eqb (get_or f 6 0) 0 || ltb k.kind 2) && e i))))))))
