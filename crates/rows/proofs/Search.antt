-- Searches: an id in two halves, a key beside that of a row, rows passed over. Assumes nothing.
use Rattle.std.specs.Prelude.{Option, Some, None}
use mathlib.Core.Path.{◌≡◌, refl, sym, ap, ◌∙◌}
use mathlib.Core.Bool.{Bool, true, false, not, ◌&&◌, ◌||◌}
use mathlib.Core.List.{List, [], ◌∷◌, ◌++◌, map}
use Rattle.std.specs.List.{list_any}
use Prim.Native.Nat.{ℕ, zero, suc, ◌+◌, ◌-◌, ◌*◌, ◌/◌, ◌%◌, ◌^◌, ◌≤◌, ◌<◌}
use native.Mathlib.Nat.{add_assoc, mul_assoc, add-mul}
use native.Mathlib.Numerals.{add-one}
use native.Mathlib.Omega.{arith}
use borrow.Author.Tests.{eq-eqb, ne_eqb, lt-ltb, le-ltb, eqb-true, eqb-false, ltb-true, ltb-false, le-leb, lt-leb}
use lib.Arith.{digits_lt, digits_div, digits_mod}
use lib.Pow.{pow-add}
use lib.Dec.{eqb, ltb, leb}
use lib.ListN.{length, take, drop, get_or, take-append-drop, length-append, length-drop}
use lib.Seq.{take_all}
use Rattle.model.specs.Octets.{value}
use Rattle.model.specs.Schema.{Schema}
use Rattle.model.specs.Rows.{key_of, has_id}
use Rattle.model.proofs.Tests.{split}
use Rattle.model.specs.Areas.{row_from}
use Rattle.inner.specs.Working.{working, id_in, key_in, Ordered, place_from, place, slot}
use Rattle.inner.proofs.Working.{row_id, row_key, key_bytes, key_head, place_on, place_end, has_id_on}
use Rattle.inner.proofs.Ordering.{ordered_next, own_place}
use Rattle.rows.specs.Post.{key_of_halves, Narrowed, OfFour, Sought, KeyBytes}
use Rattle.rows.proofs.Laws.{and_true}

-- ── an id in two halves ──
value_append : (a b : List ℕ) → value (a ++ b) ≡ value a * 256 ^ length b + value b
value_append [] b = omega arith
value_append (x ∷ a) b =
    let P = 256 ^ length a in
    let Q = 256 ^ length b in
    ap (λ (n : ℕ). x * 256 ^ n + value (a ++ b)) (length-append a b)
    ∙ ap (λ (n : ℕ). x * n + value (a ++ b)) (pow-add 256 (length a) (length b))
    ∙ ap (λ (n : ℕ). x * (P * Q) + n) (value_append a b)
    ∙ sym (add_assoc (x * (P * Q)) (value a * Q) (value b))
    ∙ ap (λ (n : ℕ). n + value a * Q + value b) (sym (mul_assoc x P Q))
    ∙ ap (λ (n : ℕ). n + value b) (sym (add-mul (x * P) (value a) Q))

pub id_halves : (i : List ℕ) → length i ≡ 16 → value i ≡ value (take 8 i) * 18446744073709551616 + value (take 8 (drop 8 i))
id_halves i e =
    ap value (sym (take-append-drop 8 i))
    ∙ value_append (take 8 i) (drop 8 i)
    ∙ ap (λ (n : ℕ). value (take 8 i) * 256 ^ n + value (drop 8 i)) size
    ∙ ap (λ (l : List ℕ). value (take 8 i) * 18446744073709551616 + value l) (sym (take_all 8 (drop 8 i) (omega (arith, size))))
  where
    size : length (drop 8 i) ≡ 8
    size = omega (arith, length-drop 8 i)

-- a key of 17 bytes
pub key_halves : (k : List ℕ) → length k ≡ 17 → value k ≡ key_of_halves (get_or k 0 0) (value (take 8 (drop 1 k))) (value (take 8 (drop 9 k)))
unfolding key_of_halves
key_halves [] e = absurd (omega arith)
key_halves (t ∷ i) e = sym (key_bytes t i (omega arith)) ∙ ap (key_of t) (id_halves i (omega arith))

pub key_of_id : (t high low : ℕ) (i : List ℕ) → length i ≡ 16 → high ≡ value (take 8 i) → low ≡ value (take 8 (drop 8 i)) → key_of_halves t high low ≡ key_of t (value i)
unfolding key_of_halves
key_of_id t high low i h e f = rw (e, f) (ap (key_of t) (sym (id_halves i h)))

pub row_halves : (cells : List (List ℕ)) (k : List ℕ) (high low : ℕ) → KeyBytes k cells → high ≡ value (take 8 (drop 1 k)) → low ≡ value (take 8 (drop 9 k)) → key_of_halves (get_or k 0 0) high low ≡ key_in cells
row_halves cells k high low y e f = rw (e, f) (sym (key_head cells y.head ∙ ap value (sym y.bytes) ∙ key_halves k y.size))

-- an id's number, where the second half is another
pub low_half : (i : List ℕ) → length i ≡ 16 → value (take 8 (drop 8 i)) < 18446744073709551616 → value i % 18446744073709551616 ≡ value (take 8 (drop 8 i))
low_half i e h = ap (λ (n : ℕ). n % 18446744073709551616) (id_halves i e) ∙ digits_mod (value (take 8 i)) {m = 18446744073709551616} {r = value (take 8 (drop 8 i))} h

pub other_low : (x v low : ℕ) → eqb (x % 18446744073709551616) low ≡ false → v % 18446744073709551616 ≡ low → eqb v x ≡ false
other_low x v low h e = ne_eqb v x (λ q. eqb-false (x % 18446744073709551616) low h (ap (λ (n : ℕ). n % 18446744073709551616) (sym q) ∙ e))

-- ── numbers of two digits ──
module _ (B x y r s : ℕ) (p : r < B) (q : s < B) where
  two_eqb : eqb (x * B + r) (y * B + s) ≡ (eqb x y && eqb r s)
  two_eqb = split (eqb x y)
      (λ e. rw (e, eqb-true x y e) (split (eqb r s)
      (λ f. rw f (eq-eqb (y * B + r) (y * B + s) (omega (arith, eqb-true r s f))))
      (λ f. let u = eqb-false r s f in rw f (ne_eqb (y * B + r) (y * B + s) (λ w. u (omega (arith, w)))))))
      (λ e. rw e (ne_eqb (x * B + r) (y * B + s) (λ w. eqb-false x y e (sym (digits_div x {m = B} {r = r} p) ∙ ap (λ (n : ℕ). n / B) w ∙ digits_div y {m = B} {r = s} q))))

  two_ltb : ltb (x * B + r) (y * B + s) ≡ (ltb x y || (eqb x y && ltb r s))
  two_ltb = split (ltb x y)
      (λ e. rw (e, lt-ltb (x * B + r) (y * B + s) (omega (arith, digits_lt {q = x} {m = y} {r = r} {c = B} (ltb-true x y e) p))))
      (λ e. split (eqb x y)
      (λ f. rw (e, f, eqb-true x y f) (split (ltb r s)
      (λ g. rw g (lt-ltb (y * B + r) (y * B + s) (omega (arith, ltb-true r s g))))
      (λ g. rw g (le-ltb (y * B + r) (y * B + s) (omega (arith, ltb-false r s g))))))
      (λ f. let u = eqb-false x y f in rw (e, f, le-ltb (x * B + r) (y * B + s) (omega (arith, digits_lt {q = y} {m = x} {r = s} {c = B} (omega (arith, ltb-false x y e, u)) q)))))

-- the order the other way round
flip : (a b : ℕ) (X Y : Bool) → X ≡ not Y → (ltb a b || (eqb a b && X)) ≡ not (ltb b a || (eqb b a && Y))
flip a b X Y e = split (ltb a b)
    (λ f. let g = ltb-true a b f in rw (f, le-ltb b a (omega arith), ne_eqb b a (λ q. omega (arith, q))))
    (λ f. split (eqb a b)
    (λ g. rw (f, g, eqb-true a b g, le-ltb b b (omega arith), eq-eqb b b refl) e)
    (λ g. let u = eqb-false a b g in let v = ltb-false a b f in rw (f, g, lt-ltb b a (omega (arith, u, v)))))

-- two keys whose ids end otherwise
flat : (t high low : ℕ) → key_of_halves t high low ≡ (t * 18446744073709551616 + high) * 18446744073709551616 + low
unfolding key_of_halves key_of
flat t high low =
    let B : ℕ = 18446744073709551616 in
    sym (ap (λ (n : ℕ). n + low) (add-mul (t * B) high B) ∙ ap (λ (n : ℕ). n + high * B + low) (mul_assoc t B B) ∙ add_assoc (t * (B * B)) (high * B) low)

pub other_half : (T H L t h l : ℕ) → L < 18446744073709551616 → l < 18446744073709551616 → (L ≡ l → ⊥) → eqb (key_of_halves T H L) (key_of_halves t h l) ≡ false
other_half T H L t h l b d f =
    let x = T * 18446744073709551616 + H in
    let y = t * 18446744073709551616 + h in
    rw (flat T H L, flat t h l) (two_eqb 18446744073709551616 x y L l b d ∙ rw (ne_eqb L l f) (ends (eqb x y)))
  where
    ends : (x : Bool) → (x && false) ≡ false
    ends true = refl
    ends false = refl

-- ── a key beside that of a row, by table and halves ──
module _ (T H L t h l : ℕ) (a : H < 18446744073709551616) (b : L < 18446744073709551616) (c : h < 18446744073709551616) (d : l < 18446744073709551616) where
  id_lt : (x y : ℕ) → x < 18446744073709551616 → y < 18446744073709551616 → x * 18446744073709551616 + y < 340282366920938463463374607431768211456
  id_lt x y p q = digits_lt {q = x} {m = 18446744073709551616} {r = y} {c = 18446744073709551616} p q

  less : ltb (key_of_halves T H L) (key_of_halves t h l) ≡ (ltb T t || (eqb T t && (ltb H h || (eqb H h && ltb L l))))
  unfolding key_of_halves key_of
  less =
      two_ltb 340282366920938463463374607431768211456 T t (H * 18446744073709551616 + L) (h * 18446744073709551616 + l) (id_lt H L a b) (id_lt h l c d)
      ∙ ap (λ (w : Bool). ltb T t || (eqb T t && w)) (two_ltb 18446744073709551616 H h L l b d)

  same : eqb (key_of_halves T H L) (key_of_halves t h l) ≡ (eqb T t && (eqb H h && eqb L l))
  unfolding key_of_halves key_of
  same =
      two_eqb 340282366920938463463374607431768211456 T t (H * 18446744073709551616 + L) (h * 18446744073709551616 + l) (id_lt H L a b) (id_lt h l c d)
      ∙ ap (λ (w : Bool). eqb T t && w) (two_eqb 18446744073709551616 H h L l b d)

  pub up_to : (ltb t T || (eqb t T && (ltb h H || (eqb h H && leb l L)))) ≡ not (ltb (key_of_halves T H L) (key_of_halves t h l))
  up_to = flip t T (ltb h H || (eqb h H && leb l L)) (ltb H h || (eqb H h && ltb L l)) (flip h H (leb l L) (ltb L l) low) ∙ ap not (sym less)
    where
      low : leb l L ≡ not (ltb L l)
      low = split (ltb L l)
          (λ e. rw (e, lt-leb l L (ltb-true L l e)))
          (λ e. rw (e, le-leb l L (ltb-false L l e)))

  pub same_halves : L ≡ l → (eqb T t && eqb H h) ≡ eqb (key_of_halves T H L) (key_of_halves t h l)
  same_halves e = sym (same ∙ rw (eq-eqb L l e) (ap (λ (w : Bool). eqb T t && w) (and_true (eqb H h))))

-- ── by halves: what lies before a row and after it ──
module _ (n : ℕ) (cells : List (List (List ℕ))) (o : Ordered n cells) where
  ordered_lt : (i j : ℕ) → i < j → j < n → key_in (get_or cells i []) < key_in (get_or cells j [])
  ordered_lt i zero p q = absurd (omega arith)
  ordered_lt i (suc j) p q = split (ltb i j)
      (λ e. omega (arith, ordered_lt i j (ltb-true i j e) (omega arith), ordered_next n cells o j q))
      (λ e. let f : i ≡ j = omega (arith, ltb-false i j e) in rw f (ordered_next n cells o j q))

  module _ (k from to m : ℕ) (w : Narrowed n k cells from to) where
    -- the row at m lies at the key or before it
    pub narrow_up : m < to → key_in (get_or cells m []) ≤ k → Narrowed n k cells m to
    narrow_up h g = record {
      within = (omega arith, w.within.1);
      above = λ i p. omega (arith, ordered_lt i m p (omega (arith, w.within.1)), g);
      below = w.below;
    }

    -- or after it
    pub narrow_down : (end : ℕ) → from ≤ end → m ≤ end → end ≤ to → m < n → k < key_in (get_or cells m []) → Narrowed n k cells from end
    narrow_down end p q r h g = record {
      within = (p, omega (arith, w.within.1));
      above = w.above;
      below = λ i u v. split (ltb m i)
          (λ e. omega (arith, ordered_lt m i (ltb-true m i e) v, g))
          (λ e. let f : i ≡ m = omega (arith, ltb-false m i e) in rw f g);
    }

-- ── rows passed over ──
module _ (s : Schema) (cells : List (List (List ℕ))) (n : ℕ) (h : n ≤ length cells) (k : ℕ) where
  pub place_after : (i : ℕ) → i ≤ n → ((j : ℕ) → j < i → eqb k (key_in (get_or cells j [])) ≡ false) → place k (working s n cells) ≡ place_from i k (drop i (working s n cells))
  unfolding place
  place_after zero p f = refl
  place_after (suc i) p f =
      place_after i (omega arith) (λ j q. f j (omega arith))
      ∙ place_on s cells n h k i (omega arith) (f i (omega arith))
      ∙ ap (λ (m : ℕ). place_from m k (drop m (working s n cells))) (add-one i)

  pub place_nowhere : ((j : ℕ) → j < n → eqb k (key_in (get_or cells j [])) ≡ false) → place k (working s n cells) ≡ None
  place_nowhere f = place_after n (omega arith) f ∙ place_end s cells n h k n (omega arith)

  pub has_id_after : (i m : ℕ) → i + m ≤ n → ((j : ℕ) → j < m → eqb k (id_in (get_or cells (i + j) [])) ≡ false) → has_id k (drop i (working s n cells)) ≡ has_id k (drop (i + m) (working s n cells))
  has_id_after i zero p f = let e : i + 0 ≡ i = omega arith in rw e
  has_id_after i (suc m) p f =
      let e : i + m + 1 ≡ i + suc m = omega arith in
      has_id_after i m (omega arith) (λ j q. f j (omega arith))
      ∙ has_id_on s cells n h k (i + m) (omega arith) (f m (omega arith))
      ∙ ap (λ (q : ℕ). has_id k (drop q (working s n cells))) e

-- four rows, none of whose ids ends as this one does
pub pass_four : (s : Schema) (cells : List (List (List ℕ))) (n : ℕ) → n ≤ length cells → (v low i : ℕ) → i + 4 ≤ n → v % 18446744073709551616 ≡ low
    → ((j : ℕ) → j < 4 → eqb (id_in (get_or cells (i + j) []) % 18446744073709551616) low ≡ false) → has_id v (drop i (working s n cells)) ≡ has_id v (drop (i + 4) (working s n cells))
pass_four s cells n h v low i p e f = has_id_after s cells n h v i 4 p (λ j q. other_low (id_in (get_or cells (i + j) [])) v low (f j q) e)

-- a key above that of a row, or below it, is another
pub above_other : (k x : ℕ) → x < k → eqb k x ≡ false
above_other k x h = ne_eqb k x (λ e. omega (arith, h, e))

pub below_other : (k x : ℕ) → k < x → eqb k x ≡ false
below_other k x h = ne_eqb k x (λ e. omega (arith, h, e))

-- a test that fails below i and at i
pub one_more : (test : ℕ → Bool) (i : ℕ) → ((j : ℕ) → j < i → test j ≡ false) → test i ≡ false → (j : ℕ) → j < i + 1 → test j ≡ false
one_more test i f e j h = split (ltb j i)
    (λ p. f j (ltb-true j i p))
    (λ p. let q : j ≡ i = omega (arith, ltb-false j i p) in rw q e)

-- or from a place on, below i
pub one_on : (test : ℕ → Bool) (from i : ℕ) → ((j : ℕ) → from ≤ j → j < i → test j ≡ false) → test i ≡ false → (j : ℕ) → from ≤ j → j < i + 1 → test j ≡ false
one_on test from i f e j g h = split (ltb j i)
    (λ p. f j g (ltb-true j i p))
    (λ p. let q : j ≡ i = omega (arith, ltb-false j i p) in rw q e)

-- the rows from i on, one after another
module _ (k : ℕ) (cells : List (List (List ℕ))) (i : ℕ) where
  abbrev pub from_here : ℕ → Bool
  from_here j = eqb k (key_in (get_or cells (i + j) []))

  pub none_yet : (j : ℕ) → j < 0 → from_here j ≡ false
  none_yet j h = absurd (omega arith)

  pub at_start : (b : Bool) → eqb k (key_in (get_or cells i [])) ≡ b → from_here 0 ≡ b
  at_start b e = let z : i + 0 ≡ i = omega arith in rw z e

-- ── a key looked for from a place on ──
module _ (k : ℕ) (cells : List (List (List ℕ))) (from i : ℕ) (f : (j : ℕ) → from ≤ j → j < i → eqb k (key_in (get_or cells j [])) ≡ false) where
  -- not among four rows more
  pub four_on : (r : ℕ) → OfFour k cells i r → 4 ≤ r → (j : ℕ) → from ≤ j → j < i + 4 → eqb k (key_in (get_or cells j [])) ≡ false
  four_on r w h j g l = split (ltb j i)
      (λ p. f j g (ltb-true j i p))
      (λ p. let q : i + (j - i) ≡ j = omega (arith, ltb-false j i p) in ap (λ (m : ℕ). eqb k (key_in (get_or cells m []))) (sym q) ∙ w.others (j - i) (omega (arith, ltb-false j i p)))

  -- what was found from i on
  pub sought_on : (to : ℕ) (r : Option ℕ) → Sought k cells i to r → Sought k cells from to r
  sought_on to (Some p) w = w
  sought_on to None w = λ j g l. split (ltb j i)
      (λ p. f j g (ltb-true j i p))
      (λ p. w j (ltb-false j i p) l)

-- what was found among the rows that halving left
pub found_place : (s : Schema) (n : ℕ) (cells : List (List (List ℕ))) (o : Ordered n cells) (k from to : ℕ) → Narrowed n k cells from to → (r : Option ℕ) → Sought k cells from to r → r ≡ place k (working s n cells)
found_place s n cells o k from to w (Some p) h = sym (ap (λ (q : ℕ). place q (working s n cells)) (eqb-true k (key_in (get_or cells p [])) h.1) ∙ own_place n cells o s p (omega (arith, h.0, w.within.1)))
found_place s n cells o k from to w None h = sym (place_nowhere s cells n o.there k (λ j l. split (ltb j from)
    (λ p. above_other k (key_in (get_or cells j [])) (w.above j (ltb-true j from p)))
    (λ p. split (ltb j to)
    (λ q. h j (ltb-false j from p) (ltb-true j to q))
    (λ q. below_other k (key_in (get_or cells j [])) (w.below j (ltb-false j to q) l)))))

-- ── what iterators say of rows, of the rows that these stand for ──
module _ (s : Schema) where
  pub any_id : (i : ℕ) (l : List (List (List ℕ))) → list_any (λ (r : List (List ℕ)). eqb i (id_in r)) l ≡ has_id i (map (row_from s) l)
  any_id i [] = refl
  any_id i (r ∷ l) = rw (row_id s r, any_id i l)

  module _ (k : ℕ) (r : List (List ℕ)) (l : List (List (List ℕ))) where
    pub slot_hit : ltb k (key_in r) ≡ true → slot k (map (row_from s) (r ∷ l)) ≡ 0
    slot_hit e = rw (row_key s r, e, slot)

    pub slot_miss : ltb k (key_in r) ≡ false → slot k (map (row_from s) (r ∷ l)) ≡ slot k (map (row_from s) l) + 1
    slot_miss e = rw (row_key s r, e, slot) (sym (add-one (slot k (map (row_from s) l))))
