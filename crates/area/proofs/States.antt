-- The state of a mirror's and of a store's area, by the tests that the code makes of it. Assumes nothing.
use Rattle.std.specs.Prelude.{None}
use mathlib.Core.Path.{◌≡◌, refl, sym, ap, ◌∙◌}
use mathlib.Core.Bool.{Bool, true, false, not, ◌&&◌, ◌||◌}
use mathlib.Core.List.{List, [], ◌∷◌, ◌++◌, append-nil}
use Prim.Native.Nat.{ℕ, zero, suc, ◌^◌, ◌≤◌}
use native.Mathlib.Omega.{arith}
use borrow.Author.Tests.{leb-true, lt-ltb}
use lib.Dec.{eqb, leb, ltb}
use lib.ListN.{length, get_or, take, drop, length-drop, take-append-drop, drop_of_length-le}
use lib.Seq.{drop_at, drop-cons, take_all, get_or-drop, length-take-le}
use Rattle.model.specs.Limits.{store_bytes, mirror_bytes}
use Rattle.model.specs.Schema.{Database}
use Rattle.model.specs.Octets.{big, value, part, eq_bytes}
use Rattle.model.specs.Base.{all, every, eq_lists}
use Rattle.model.specs.Catalog as packed
use Rattle.model.specs.Value.{canonical_for, meets}
use Rattle.model.specs.Sane.{sane}
use Rattle.model.specs.Commit.{lawful}
use Rattle.model.specs.Areas.{Store, encode_store, entries_in, database_in, decode_store, store_part, encode_mirror, decode_mirror, rows_pass, head_tests, state_of, store_good, store_of, mirror_tests, mirror_good, mirror_of}
use Rattle.model.specs.Catalog.{bit}
use Rattle.model.proofs.Tests.{clash, and_l, and_r, parts, whole, bytes_self, bytes_same, lists_self, lists_same}
use Rattle.model.proofs.Lists.{all_take, all_drop}
use Rattle.model.proofs.Octets.{octet, part_lt, big_value}
use Rattle.model.proofs.GoodOrder.{meets_pass}
use Rattle.model.proofs.Accepted.{narrow, sane_kept}
use Rattle.model.proofs.Areas.{Fits, pass_fits, read_catalog, store_length, store_of_encode, store_of_length}
use Rattle.catalog.specs.Accepted.{is_accepted}
use Rattle.area.specs.Layout.{part_good}
use Rattle.area.specs.Writing.{top_in, number_in, tail_good, when}
use Rattle.area.proofs.Good.{Holds, part_holds, part_passes}

-- tests that pass together are the same
both : (p q : Bool) → (p ≡ true → q ≡ true) → (q ≡ true → p ≡ true) → p ≡ q
both true q f g = sym (f refl)
both false true f g = g refl
both false false f g = refl

and_true : (p q : Bool) → p ≡ true → q ≡ true → (p && q) ≡ true
and_true p q x y = rw (x, y)

-- the state of an area, where it is the encoding of what is decoded of it and that passes a test, is the same by any test that says so
module _ {S : Type 0} (encode : S → List ℕ) (decode : List ℕ → S) (good : S → Bool) (a : List ℕ) (test : Bool) where
  state_when : (test ≡ true → (encode (decode a) ≡ a) × (good (decode a) ≡ true)) → (encode (decode a) ≡ a → good (decode a) ≡ true → test ≡ true) → state_of encode decode good a ≡ when test (decode a)
  state_when f g =
      let e : (eq_bytes (encode (decode a)) a && good (decode a)) ≡ test =
      both (eq_bytes (encode (decode a)) a && good (decode a)) test
      (λ h. g (bytes_same (encode (decode a)) a (and_l (eq_bytes (encode (decode a)) a) (good (decode a)) h)) (and_r (eq_bytes (encode (decode a)) a) (good (decode a)) h))
      (λ h. and_true (eq_bytes (encode (decode a)) a) (good (decode a)) (same (encode (decode a)) (f h).0) (f h).1) in
      chosen (eq_bytes (encode (decode a)) a && good (decode a)) refl ∙ ap (λ (b : Bool). when b (decode a)) e
    where
      same : (x : List ℕ) → x ≡ a → eq_bytes x a ≡ true
      same x e = ap (λ (y : List ℕ). eq_bytes y a) e ∙ bytes_self a

      chosen : (b : Bool) → (eq_bytes (encode (decode a)) a && good (decode a)) ≡ b → state_of encode decode good a ≡ when (eq_bytes (encode (decode a)) a && good (decode a)) (decode a)
      chosen true e = rw (e, state_of)
      chosen false e = rw (e, state_of)

-- ── a mirror's own six bytes ──
bit_back : (x : ℕ) → leb x 1 ≡ true → bit (eqb x 1) ≡ x
bit_back zero h = refl
bit_back (suc zero) h = refl
bit_back (suc (suc x)) h = absurd (omega (arith, leb-true (suc (suc x)) 1 h))

bit_small : (b : Bool) → leb (bit b) 1 ≡ true
bit_small true = refl
bit_small false = refl

-- as they are written, from six bytes whose flags are 0 or 1
own : List ℕ → List ℕ
own b = big 4 (value (take 4 b)) ++ bit (eqb (get_or b 4 0) 1) ∷ bit (eqb (get_or b 5 0) 1) ∷ []

own_back : (b : List ℕ) → length b ≡ 6 → all octet b ≡ true → leb (get_or b 4 0) 1 ≡ true → leb (get_or b 5 0) 1 ≡ true → own b ≡ b
unfolding own
own_back b l o h w =
    let x = big_value 4 (take 4 b) (length-take-le 4 b (omega arith)) (all_take octet 4 b o) in
    let y = bit_back (get_or b 4 0) h in
    let z = bit_back (get_or b 5 0) w in
    let d : drop 4 b ≡ get_or b 4 0 ∷ get_or b 5 0 ∷ [] =
    drop-cons b 4 0 (omega arith) ∙ ap (λ (q : List ℕ). get_or b 4 0 ∷ q) (drop-cons b 5 0 (omega arith) ∙ ap (λ (q : List ℕ). get_or b 5 0 ∷ q) (drop_of_length-le b {i = 6} (omega arith))) in
    (λ j. x j ++ y j ∷ z j ∷ []) ∙ ap (λ (q : List ℕ). take 4 b ++ q) (sym d) ∙ take-append-drop 4 b

-- an area whose catalog is accepted
module _ (schema : List (List ℕ)) (a : List ℕ) (size : store_bytes ≤ length a) (bytes : all octet a ≡ true) (there : schema ≡ entries_in a) (accepted : is_accepted schema ≡ true) where
  same : packed.packed_tables schema ≡ (database_in a).tables
  same = ap packed.packed_tables there

  sound : sane (database_in a) ≡ true
  unfolding is_accepted
  sound = ap (λ (l : List (List ℕ)). sane (packed.database_from l)) (sym there) ∙ and_r (eq_lists (packed.catalog_of (packed.database_from schema)) schema) (sane (packed.database_from schema)) accepted

  written : packed.catalog_of (database_in a) ≡ entries_in a
  unfolding is_accepted
  written = lists_same (packed.catalog_of (database_in a)) (entries_in a) (ap (λ (l : List (List ℕ)). eq_lists (packed.catalog_of (packed.database_from l)) l) (sym there) ∙ and_l (eq_lists (packed.catalog_of (packed.database_from schema)) schema) (sane (packed.database_from schema)) accepted)

  slim : narrow (packed.packed_tables schema) ≡ true
  slim = rw same (sane_kept (database_in a) sound).narrow

  number_fits : (at : ℕ) → ltb (value (part at 4 a)) (256 ^ 4) ≡ true
  number_fits at = lt-ltb (value (part at 4 a)) (256 ^ 4) (part_lt at 4 a bytes)

  head_passes : every (head_tests (decode_store a)) ≡ true
  unfolding decode_store
  head_passes = whole (head_tests (decode_store a)) (sound, (number_fits 0, (number_fits 4, tt)))

  pub part_passed : part_good schema a ≡ true → Holds a
  part_passed = part_holds schema a size bytes same written slim

  -- the other way round
  module _ (st : Store) (tail : List ℕ) (e : encode_store st ++ tail ≡ a) (t : st.database ≡ database_in a) (f : Fits st) (p : rows_pass canonical_for st.database.tables st.rows ≡ true) where
    passes : part_good schema a ≡ true
    passes =
        let q : packed.packed_tables schema ≡ st.database.tables = same ∙ ap (λ (d : Database). d.tables) (sym t) in
        rw (← e) (part_passes st tail f schema slim q (rw e bytes) (rw q p))

  -- ── a store ──
  module _ (long : length a ≡ store_bytes) where
    -- "Good order, for a store": the tests of its bytes, that values meet their types, and the commit rules
    pub store_is : store_of a ≡ when (part_good schema a && (rows_pass meets (database_in a).tables (decode_store a).rows && lawful (database_in a).tables (decode_store a).rows)) (decode_store a)
    unfolding store_of store_good decode_store
    store_is =
        let d = (database_in a).tables in
        let rows = (decode_store a).rows in
        let m = rows_pass meets d rows in
        let l = lawful d rows in
        let heads = every (head_tests (decode_store a)) in
        state_when encode_store decode_store store_good a (part_good schema a && (m && l))
        (λ h.
        let r = and_r (part_good schema a) (m && l) h in
        ((part_passed (and_l (part_good schema a) (m && l) h)).encoded ∙ take_all store_bytes a (omega arith), and_true (heads && m) l (and_true heads m head_passes (and_l m l r)) (and_r m l r)))
        (λ e g.
        let x = and_l (heads && m) l g in
        let y = meets_pass d rows (and_r heads m x) in
        let p = passes (decode_store a) [] (append-nil (encode_store (decode_store a)) ∙ e) refl (pass_fits (decode_store a) head_passes y) y in
        and_true (part_good schema a) (m && l) p (and_true m l (and_r heads m x) (and_r (heads && m) l g)))

  -- ── a mirror ──
  module _ (long : length a ≡ mirror_bytes) where
    abbrev b : List ℕ
    b = drop store_bytes a

    abbrev heard : ℕ
    heard = get_or b 4 0

    abbrev ends : ℕ
    ends = get_or b 5 0

    -- the tests of its own bytes, where they lie behind the store's part
    abbrev flags : Bool
    flags = leb heard 1 && leb ends 1

    abbrev counts : Bool
    counts = leb (number_in a) (top_in a)

    abbrev quiet : Bool
    quiet = eqb heard 1 || eqb (top_in a) 0

    abbrev whole_zero : Bool
    whole_zero = eqb ends 1 || not (eqb (number_in a) 0)

    tail_is : tail_good a ≡ (flags && counts && quiet && whole_zero)
    unfolding tail_good
    tail_is =
        let x = sym (get_or-drop store_bytes a 4 0) in
        let y = sym (get_or-drop store_bytes a 5 0) in
        λ j. leb (x j) 1 && leb (y j) 1 && counts && (eqb (x j) 1 || eqb (top_in a) 0) && (eqb (y j) 1 || not (eqb (number_in a) 0))

    own_passes : every (mirror_tests (decode_mirror a).mirror) ≡ true → flags ≡ true → tail_good a ≡ true
    unfolding decode_mirror decode_store
    own_passes h f =
        let p = parts (mirror_tests (decode_mirror a).mirror) h in
        tail_is ∙ and_true (flags && counts && quiet) whole_zero (and_true (flags && counts) quiet (and_true flags counts f p.1.0) p.1.1.0) p.1.1.1.0

    passes_own : tail_good a ≡ true → (every (mirror_tests (decode_mirror a).mirror) ≡ true) × (flags ≡ true)
    unfolding decode_mirror decode_store
    passes_own h =
        let t : (flags && counts && quiet && whole_zero) ≡ true = sym tail_is ∙ h in
        let u = and_l (flags && counts && quiet) whole_zero t in
        let v = and_l (flags && counts) quiet u in
        (whole (mirror_tests (decode_mirror a).mirror) (number_fits store_bytes, (and_r flags counts v, (and_r (flags && counts) quiet u, (and_r (flags && counts && quiet) whole_zero t, tt)))), and_l flags counts v)

    part_is : store_part (decode_mirror a) ≡ decode_store a
    unfolding decode_mirror
    part_is = refl

    -- what is written of it behind the store's part
    own_is : encode_mirror (decode_mirror a) ≡ encode_store (decode_store a) ++ own b
    unfolding encode_mirror decode_mirror own
    own_is = refl

    flags_are : encode_mirror (decode_mirror a) ≡ a → Fits (decode_store a) → flags ≡ true
    unfolding own
    flags_are e f =
        let d : own b ≡ b = sym (drop_at (encode_store (decode_store a)) (own b) store_bytes (store_length (decode_store a) f)) ∙ ap (drop store_bytes) (sym own_is ∙ e) in
        and_true (leb heard 1) (leb ends 1)
        (ap (λ (q : List ℕ). leb (get_or q 4 0) 1) (sym d) ∙ bit_small (eqb heard 1))
        (ap (λ (q : List ℕ). leb (get_or q 5 0) 1) (sym d) ∙ bit_small (eqb ends 1))

    text_is_lem : (decode_store a).database ≡ database_in a
    unfolding decode_store
    text_is_lem = refl

    good : Holds a → every (mirror_tests (decode_mirror a).mirror) ≡ true → mirror_good (decode_mirror a) ≡ true
    unfolding mirror_good decode_mirror decode_store
    good k q =
        let heads = every (head_tests (decode_store a)) in
        let rows = rows_pass canonical_for (database_in a).tables (decode_store a).rows in
        and_true (heads && rows) (every (mirror_tests (decode_mirror a).mirror)) (and_true heads rows head_passes k.pass) q

    own_of : mirror_good (decode_mirror a) ≡ true → every (mirror_tests (decode_mirror a).mirror) ≡ true
    unfolding mirror_good
    own_of g = and_r (every (head_tests (store_part (decode_mirror a))) && rows_pass canonical_for (decode_mirror a).database.tables (decode_mirror a).mirror.rows) (every (mirror_tests (decode_mirror a).mirror)) g

    rows_of : mirror_good (decode_mirror a) ≡ true → rows_pass canonical_for (decode_store a).database.tables (decode_store a).rows ≡ true
    unfolding mirror_good decode_mirror
    rows_of g =
        let heads = every (head_tests (store_part (decode_mirror a))) in
        let rows = rows_pass canonical_for (decode_mirror a).database.tables (decode_mirror a).mirror.rows in
        and_r heads rows (and_l (heads && rows) (every (mirror_tests (decode_mirror a).mirror)) g)

    -- "For a mirror: the same of schema and ids, values canonical, n at most the highest heard"
    pub mirror_is : mirror_of a ≡ when (part_good schema a && tail_good a) (decode_mirror a)
    unfolding mirror_of
    mirror_is =
        state_when encode_mirror decode_mirror mirror_good a (part_good schema a && tail_good a)
        (λ h.
        let k = part_passed (and_l (part_good schema a) (tail_good a) h) in
        let q = passes_own (and_r (part_good schema a) (tail_good a) h) in (
          own_is ∙ (λ j. k.encoded j ++ own_back b (omega (arith, length-drop store_bytes a)) (all_drop octet store_bytes a bytes) (and_l (leb heard 1) (leb ends 1) q.1) (and_r (leb heard 1) (leb ends 1) q.1) j) ∙ take-append-drop store_bytes a,
          good k q.0,
        ))
        (λ e g.
        let os = own_of g in
        let ps = rows_of g in
        let f = pass_fits (decode_store a) head_passes ps in
        and_true (part_good schema a) (tail_good a) (passes (decode_store a) (own b) (sym own_is ∙ e) text_is_lem f ps) (own_passes os (flags_are e f)))

-- ── what is in no good order by its length or its schema ──
module _ {S : Type 0} (encode : S → List ℕ) (decode : List ℕ → S) (good : S → Bool) (a : List ℕ) where
  state_none : (encode (decode a) ≡ a → good (decode a) ≡ true → ⊥) → state_of encode decode good a ≡ None
  state_none f = state_when encode decode good a false (λ h. absurd (clash false h refl)) (λ e g. absurd (f e g))

module _ (a : List ℕ) where
  mirror_fits : mirror_good (decode_mirror a) ≡ true → Fits (decode_store a)
  unfolding mirror_good decode_mirror
  mirror_fits g =
      let heads = every (head_tests (decode_store a)) in
      let rows = rows_pass canonical_for (decode_store a).database.tables (decode_store a).rows in
      let x = and_l (heads && rows) (every (mirror_tests (decode_mirror a).mirror)) g in
      pass_fits (decode_store a) (and_l heads rows x) (and_r heads rows x)

  -- an area that is the encoding of a store whose catalog keeps the rules has an accepted catalog
  encoded_accepted : (tail : List ℕ) → Fits (decode_store a) → encode_store (decode_store a) ++ tail ≡ a → is_accepted (entries_in a) ≡ true
  unfolding is_accepted decode_store
  encoded_accepted tail f e =
      let c : packed.catalog_of (database_in a) ≡ entries_in a = sym (read_catalog (decode_store a) f tail) ∙ ap entries_in e in
      rw (ap (λ (l : List (List ℕ)). eq_lists l (entries_in a)) c ∙ lists_self (entries_in a), f.accepted)

  mirror_accepted : encode_mirror (decode_mirror a) ≡ a → mirror_good (decode_mirror a) ≡ true → is_accepted (entries_in a) ≡ true
  unfolding encode_mirror decode_mirror
  mirror_accepted e g = encoded_accepted _ (mirror_fits g) e

  store_fits : store_good (decode_store a) ≡ true → Fits (decode_store a)
  unfolding store_good
  store_fits g =
      let heads = every (head_tests (decode_store a)) in
      let rows = rows_pass meets (decode_store a).database.tables (decode_store a).rows in
      let x = and_l (heads && rows) (lawful (decode_store a).database.tables (decode_store a).rows) g in
      pass_fits (decode_store a) (and_l heads rows x) (meets_pass (decode_store a).database.tables (decode_store a).rows (and_r heads rows x))

  pub mirror_refused : is_accepted (entries_in a) ≡ false → mirror_of a ≡ None
  unfolding mirror_of
  mirror_refused h = state_none encode_mirror decode_mirror mirror_good a (λ e g. clash (is_accepted (entries_in a)) (mirror_accepted e g) h)

  pub store_refused : is_accepted (entries_in a) ≡ false → store_of a ≡ None
  unfolding store_of
  store_refused h = state_none encode_store decode_store store_good a (λ e g. clash (is_accepted (entries_in a)) (encoded_accepted [] (store_fits g) (append-nil (encode_store (decode_store a)) ∙ e)) h)

  pub store_other : (length a ≡ store_bytes → ⊥) → store_of a ≡ None
  unfolding store_of
  store_other h = state_none encode_store decode_store store_good a (λ e g. h (ap length (sym e) ∙ store_of_length (encode_store (decode_store a)) (decode_store a) (store_of_encode (decode_store a) g)))
