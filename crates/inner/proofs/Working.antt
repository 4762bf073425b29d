-- Working rows: their keys as bytes, the walk over them, and a row put in, taken out or changed at its place. Assumes nothing.
use Rattle.std.specs.Prelude.{Some, None}
use mathlib.Core.Path.{◌≡◌, refl, sym, ap, ◌∙◌}
use mathlib.Core.Bool.{Bool, true, false, ◌&&◌, ◌||◌}
use mathlib.Core.List.{List, [], ◌∷◌, map}
use Prim.Native.Nat.{ℕ, zero, suc, ◌+◌, ◌*◌, ◌^◌, ◌≤◌, ◌<◌}
use native.Mathlib.Numerals.{add-one}
use native.Mathlib.Omega.{arith}
use borrow.Author.Tests.{eq-eqb, lt-ltb, le-ltb, eqb-true, eqb-false, ltb-true, ltb-false}
use lib.Arith.{digits_lt}
use lib.Dec.{eqb, ltb}
use lib.ListN.{length, get_or, take, drop, length-map, get_or-map, drop_of_length-le}
use lib.Seq.{length-take-le, drop-cons, get_or-take}
use Rattle.model.specs.Octets.{value, part, eq_bytes, lt_bytes}
use Rattle.model.specs.Base.{all}
use Rattle.model.specs.Schema.{Schema}
use Rattle.model.specs.Rows.{Row, key_of, key, has_id}
use Rattle.model.specs.Areas.{row_from}
use Rattle.inner.specs.Working.{working, table_in, id_in, key_in, place_from, slot}
use Rattle.model.proofs.Tests.{split, bytes_same, bytes_self}
use Rattle.model.proofs.Lists.{all_tail, all_cons}
use Rattle.model.proofs.Octets.{octet, value_lt, value_inj}

-- ── bytes and the numbers that they stand for ──
-- two tests that go together
same_test : (a b : Bool) → (a ≡ true → b ≡ true) → (b ≡ true → a ≡ true) → a ≡ b
same_test true b f g = sym (f refl)
same_test false true f g = g refl
same_test false false f g = refl

module _ (a b : List ℕ) (n : length a ≡ length b) (h : all octet a ≡ true) (g : all octet b ≡ true) where
  pub eqb_value : eqb (value a) (value b) ≡ eq_bytes a b
  eqb_value = same_test (eqb (value a) (value b)) (eq_bytes a b)
      (λ e. ap (eq_bytes a) (sym (value_inj a b n h g (eqb-true (value a) (value b) e))) ∙ bytes_self a)
      (λ e. eq-eqb (value a) (value b) (ap value (bytes_same a b e)))

-- the order of the numbers is that of the bytes
pub ltb_value : (a b : List ℕ) → length a ≡ length b → all octet a ≡ true → all octet b ≡ true → ltb (value a) (value b) ≡ lt_bytes a b
ltb_value [] [] n h g = refl
ltb_value [] (y ∷ b) n h g = absurd (omega arith)
ltb_value (x ∷ a) [] n h g = absurd (omega arith)
ltb_value (x ∷ a) (y ∷ b) n h g =
    let m : length a ≡ length b = omega arith in
    let p = value_lt a (all_tail octet x a h) in
    let q : value b < 256 ^ length a = rw m (value_lt b (all_tail octet y b g)) in
    let w = ltb_value a b m (all_tail octet x a h) (all_tail octet y b g) in
    rw (← m) (go (256 ^ length a) p q w)
  where
    go : (B : ℕ) → value a < B → value b < B → ltb (value a) (value b) ≡ lt_bytes a b → ltb (x * B + value a) (y * B + value b) ≡ (ltb x y || (eqb x y && lt_bytes a b))
    go B p q w = split (ltb x y)
        (λ e. rw (e, lt-ltb (x * B + value a) (y * B + value b) (omega (arith, digits_lt {q = x} {m = y} {r = value a} {c = B} (ltb-true x y e) p))))
        (λ e. split (eqb x y)
        (λ d. rw (e, d) (rw (← w, eqb-true x y d) (same_test (ltb (y * B + value a) (y * B + value b)) (ltb (value a) (value b))
        (λ u. lt-ltb (value a) (value b) (omega (arith, ltb-true (y * B + value a) (y * B + value b) u)))
        (λ u. lt-ltb (y * B + value a) (y * B + value b) (omega (arith, ltb-true (value a) (value b) u))))))
        (λ d. rw (e, d) (le-ltb (x * B + value a) (y * B + value b) (omega (arith, digits_lt {q = y} {m = x} {r = value b} {c = B} (above e d) q)))))
      where
        above : ltb x y ≡ false → eqb x y ≡ false → y < x
        above e d = let f = eqb-false x y d in omega (arith, ltb-false x y e)

-- ── keys ──
pub key_bytes : (t : ℕ) (i : List ℕ) → length i ≡ 16 → key_of t (value i) ≡ value (t ∷ i)
unfolding key_of
key_bytes t i e = ap (λ (n : ℕ). t * 256 ^ n + value i) (sym e)

-- whether a key of 17 bytes is that of a table and an id
pub same_key : (t : ℕ) (i k : List ℕ) → length i ≡ 16 → length k ≡ 17 → t < 256 → all octet i ≡ true → all octet k ≡ true → eqb (key_of t (value i)) (value k) ≡ (eqb t (get_or k 0 0) && eq_bytes i (drop 1 k))
same_key t i [] p q h o u = absurd (omega arith)
same_key t i (x ∷ k) p q h o u = ap (λ (n : ℕ). eqb n (value (x ∷ k))) (key_bytes t i p) ∙ eqb_value (t ∷ i) (x ∷ k) (omega arith) (all_cons octet t i (lt-ltb t 256 h) o) u

-- a row's key is the number of its first 17 bytes
pub key_head : (cells : List (List ℕ)) → length (get_or cells 0 []) ≡ 25 → key_in cells ≡ value (take 17 (get_or cells 0 []))
unfolding key_in table_in id_in
key_head cells e = go (get_or cells 0 []) e
  where
    go : (head : List ℕ) → length head ≡ 25 → key_of (get_or head 0 0) (value (part 1 16 head)) ≡ value (take 17 head)
    go [] h = absurd (omega arith)
    go (t ∷ l) h = key_bytes t (take 16 l) (length-take-le 16 l (omega arith))

module _ (s : Schema) (cells : List (List ℕ)) where
  pub row_table : (row_from s cells).table ≡ table_in cells
  unfolding row_from table_in
  row_table = refl

  pub row_id : (row_from s cells).id ≡ id_in cells
  unfolding row_from id_in
  row_id = refl

  pub row_key : key (row_from s cells) ≡ key_in cells
  unfolding key_in row_from table_in id_in
  row_key = refl

-- ── the walk over working rows ──
no_row : Row
no_row = record { table = 0; id = 0; columns = [] }

module _ (s : Schema) (cells : List (List (List ℕ))) (n : ℕ) (h : n ≤ length cells) where
  pub working_length : length (working s n cells) ≡ n
  unfolding working
  working_length = length-map (take n cells) (row_from s) ∙ length-take-le n cells h

  pub working_at : (i : ℕ) (d : Row) → i < n → get_or (working s n cells) i d ≡ row_from s (get_or cells i [])
  unfolding working
  working_at i d l = get_d_any (map (row_from s) (take n cells)) i d (row_from s []) (omega (arith, working_length)) ∙ get_or-map (row_from s) (take n cells) i [] ∙ ap (row_from s) (get_or-take n cells i [] l)
    where
      get_d_any : (l : List Row) (i : ℕ) (d e : Row) → i < length l → get_or l i d ≡ get_or l i e
      get_d_any [] i d e h = absurd (omega arith)
      get_d_any (a ∷ l) zero d e h = refl
      get_d_any (a ∷ l) (suc i) d e h = get_d_any l i d e (omega arith)

  pub working_on : (i : ℕ) → i < n → drop i (working s n cells) ≡ row_from s (get_or cells i []) ∷ drop (i + 1) (working s n cells)
  working_on i l =
      drop-cons (working s n cells) i no_row (omega (arith, working_length))
      ∙ ap (λ (r : Row). r ∷ drop (suc i) (working s n cells)) (working_at i no_row l)
      ∙ ap (λ (m : ℕ). row_from s (get_or cells i []) ∷ drop m (working s n cells)) (sym (add-one i))

  pub working_end : (i : ℕ) → n ≤ i → drop i (working s n cells) ≡ []
  working_end i l = drop_of_length-le (working s n cells) {i = i} (omega (arith, working_length))

  module _ (k i : ℕ) where
    pub place_here : i < n → eqb k (key_in (get_or cells i [])) ≡ true → place_from i k (drop i (working s n cells)) ≡ Some i
    place_here l e = rw (working_on i l, row_key s (get_or cells i []), e, place_from)

    pub place_on : i < n → eqb k (key_in (get_or cells i [])) ≡ false → place_from i k (drop i (working s n cells)) ≡ place_from (i + 1) k (drop (i + 1) (working s n cells))
    place_on l e = rw (working_on i l, row_key s (get_or cells i []), e, place_from) (rw (add-one i) refl)

    pub place_end : n ≤ i → place_from i k (drop i (working s n cells)) ≡ None
    place_end l = rw (working_end i l)

    pub has_id_here : i < n → eqb k (id_in (get_or cells i [])) ≡ true → has_id k (drop i (working s n cells)) ≡ true
    has_id_here l e = rw (working_on i l, row_id s (get_or cells i []), e)

    pub has_id_on : i < n → eqb k (id_in (get_or cells i [])) ≡ false → has_id k (drop i (working s n cells)) ≡ has_id k (drop (i + 1) (working s n cells))
    has_id_on l e = rw (working_on i l, row_id s (get_or cells i []), e)

    pub has_id_end : n ≤ i → has_id k (drop i (working s n cells)) ≡ false
    has_id_end l = rw (working_end i l)

    pub slot_here : i < n → ltb k (key_in (get_or cells i [])) ≡ true → slot k (drop i (working s n cells)) ≡ 0
    slot_here l e = rw (working_on i l, row_key s (get_or cells i []), e, slot)

    pub slot_on : i < n → ltb k (key_in (get_or cells i [])) ≡ false → slot k (drop i (working s n cells)) ≡ suc (slot k (drop (i + 1) (working s n cells)))
    slot_on l e = rw (working_on i l, row_key s (get_or cells i []), e, slot)

    pub slot_end : n ≤ i → slot k (drop i (working s n cells)) ≡ 0
    slot_end l = rw (working_end i l)
