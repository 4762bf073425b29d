-- Numbers most significant byte first, at any width, and the order of byte strings. Assumes nothing.
use mathlib.Core.Path.{◌≡◌, refl, sym, ap, ◌∙◌}
use mathlib.Core.Bool.{Bool, true, false, ◌&&◌, ◌||◌}
use mathlib.Core.List.{List, [], ◌∷◌}
use Prim.Native.Nat.{ℕ, zero, suc, ◌+◌, ◌*◌, ◌/◌, ◌%◌, ◌^◌, ◌<◌}
use native.Mathlib.Nat.{pow-suc, mul_comm, mod-one, mod-eq_of_lt, lt_of_lt_of_le, pow-le-pow_right}
use native.Mathlib.Omega.{arith}
use lib.Arith.{mod-mul, digits_lt, digits_div, digits_mod}
use lib.Dec.{lit<, eqb, ltb}
use lib.ListN.{length, drop, get_or, length-take}
use borrow.Author.Tests.{lt-ltb, le-ltb, eq-eqb, ltb-true, ltb-false, eqb-true, eqb-false}
use Rattle.model.specs.Octets.{big, value, part, eq_bytes, lt_bytes}
use Rattle.model.specs.Base.{all}
use Rattle.model.proofs.Tests.{split, clash, and_l, and_r, or_l, or_r, or_true}
use Rattle.model.proofs.Lists.{all_head, all_tail, all_cons, all_take, all_drop}

-- a byte
abbrev pub octet : ℕ → Bool
octet b = ltb b 256

-- bytes, one by one
pub octets : (l : List ℕ) → ((i : ℕ) → get_or l i 0 < 256) → all octet l ≡ true
octets [] f = refl
octets (b ∷ l) f = all_cons octet b l (lt-ltb b 256 (f 0)) (octets l (λ i. f (suc i)))

pub length_big : (w x : ℕ) → length (big w x) ≡ w
length_big zero x = refl
length_big (suc w) x = ap suc (length_big w x)

pub big_octets : (w x : ℕ) → all octet (big w x) ≡ true
big_octets zero x = refl
big_octets (suc w) x = all_cons octet (x / 256 ^ w % 256) (big w x) (lt-ltb (x / 256 ^ w % 256) 256 (omega arith)) (big_octets w x)

pub pow_pos : (k : ℕ) → 0 < 256 ^ k
pow_pos zero = lit< tt
pow_pos (suc k) = omega (arith, pow-suc 256 k, pow_pos k)

-- what is read back is the number, as far as the width holds it
pub value_big : (w x : ℕ) → value (big w x) ≡ x % 256 ^ w
value_big zero x = sym (mod-one x)
value_big (suc w) x =
    ap (λ (n : ℕ). x / 256 ^ w % 256 * 256 ^ n + value (big w x)) (length_big w x)
    ∙ ap (λ (n : ℕ). x / 256 ^ w % 256 * 256 ^ w + n) (value_big w x)
    ∙ sym (mod-mul x {m = 256} {c = 256 ^ w} (lit< tt) (pow_pos w))
    ∙ ap (λ (n : ℕ). x % n) (mul_comm 256 (256 ^ w) ∙ sym (pow-suc 256 w))

pub value_big_fits : (w x : ℕ) → x < 256 ^ w → value (big w x) ≡ x
value_big_fits w x h = value_big w x ∙ mod-eq_of_lt h

pub value_lt : (l : List ℕ) → all octet l ≡ true → value l < 256 ^ length l
value_lt [] h = lit< tt
value_lt (b ∷ l) h =
    let p = digits_lt {q = b} {m = 256} {r = value l} {c = 256 ^ length l} (ltb-true b 256 (all_head octet b l h)) (value_lt l (all_tail octet b l h)) in
    omega (arith, pow-suc 256 (length l))

-- a part of at most w bytes is below 256 ^ w
pub part_lt : (at w : ℕ) (l : List ℕ) → all octet l ≡ true → value (part at w l) < 256 ^ w
part_lt at w l h =
    lt_of_lt_of_le (value_lt (part at w l) (all_take octet w (drop at l) (all_drop octet at l h))) (pow-le-pow_right {n = 256} (lit< tt) {i = length (part at w l)} {j = w} (omega (arith, length-take w (drop at l))))

-- the bytes of one length that stand for a number are one list
pub value_inj : (a b : List ℕ) → length a ≡ length b → all octet a ≡ true → all octet b ≡ true → value a ≡ value b → a ≡ b
value_inj [] [] n h g e = refl
value_inj [] (y ∷ b) n h g e = absurd (omega arith)
value_inj (x ∷ a) [] n h g e = absurd (omega arith)
value_inj (x ∷ a) (y ∷ b) n h g e =
    let m : length a ≡ length b = omega arith in
    let p = value_lt a (all_tail octet x a h) in
    let q : value b < 256 ^ length a = rw m (value_lt b (all_tail octet y b g)) in
    let s : x * 256 ^ length a + value a ≡ y * 256 ^ length a + value b = e ∙ ap (λ (k : ℕ). y * 256 ^ k + value b) (sym m) in
    let u : x ≡ y = sym (digits_div x {m = 256 ^ length a} {r = value a} p) ∙ ap (λ (k : ℕ). k / 256 ^ length a) s ∙ digits_div y {m = 256 ^ length a} {r = value b} q in
    let v : value a ≡ value b = sym (digits_mod x {m = 256 ^ length a} {r = value a} p) ∙ ap (λ (k : ℕ). k % 256 ^ length a) s ∙ digits_mod y {m = 256 ^ length a} {r = value b} q in
    cc (value_inj a b m (all_tail octet x a h) (all_tail octet y b g) v)

-- bytes that stand for a number are its bytes
pub big_value : (w : ℕ) (l : List ℕ) → length l ≡ w → all octet l ≡ true → big w (value l) ≡ l
big_value w l e h =
    let k : value l < 256 ^ w = rw (← e) (value_lt l h) in
    value_inj (big w (value l)) l (length_big w (value l) ∙ sym e) (big_octets w (value l)) h (value_big_fits w (value l) k)

-- ── the order of byte strings ──
pub lt_bytes_irrefl : (a : List ℕ) → lt_bytes a a ≡ false
lt_bytes_irrefl [] = refl
lt_bytes_irrefl (x ∷ a) = rw (le-ltb x x (omega arith), eq-eqb x x refl) (lt_bytes_irrefl a)

-- of two that begin with x and y: x is less, or the same and the rest is less
data First (x y : ℕ) (rest : Bool) : Type 0 where
  less : x < y → First x y rest
  same : x ≡ y → rest ≡ true → First x y rest

first : (x y : ℕ) (rest : Bool) → (ltb x y || (eqb x y && rest)) ≡ true → First x y rest
first x y rest h = split (ltb x y) (λ e. less (ltb-true x y e))
    (λ e. let g : (eqb x y && rest) ≡ true = rw e at h in same (eqb-true x y (and_l (eqb x y) rest g)) (and_r (eqb x y) rest g))

pub lt_bytes_trans : (a b c : List ℕ) → lt_bytes a b ≡ true → lt_bytes b c ≡ true → lt_bytes a c ≡ true
lt_bytes_trans [] b [] h g = nothing b g
  where
    nothing : (b : List ℕ) → lt_bytes b [] ≡ true → false ≡ true
    nothing [] q = q
    nothing (y ∷ b) q = q
lt_bytes_trans [] b (z ∷ c) h g = refl
lt_bytes_trans (x ∷ a) [] c h g = absurd (clash false h refl)
lt_bytes_trans (x ∷ a) (y ∷ b) [] h g = g
lt_bytes_trans (x ∷ a) (y ∷ b) (z ∷ c) h g = go (lt_bytes_trans a b c) (first x y (lt_bytes a b) h) (first y z (lt_bytes b c) g)
  where
    go : (lt_bytes a b ≡ true → lt_bytes b c ≡ true → lt_bytes a c ≡ true) → First x y (lt_bytes a b) → First y z (lt_bytes b c) → (ltb x z || (eqb x z && lt_bytes a c)) ≡ true
    go ih (less p) (less q) = rw (lt-ltb x z (omega arith))
    go ih (less p) (same q s) = rw (lt-ltb x z (omega arith))
    go ih (same p r) (less q) = rw (lt-ltb x z (omega arith))
    go ih (same p r) (same q s) = rw (eq-eqb x z (p ∙ q), ih r s) (or_true (ltb x z))

pub lt_bytes_total : (a b : List ℕ) → lt_bytes a b ≡ false → eq_bytes a b ≡ false → lt_bytes b a ≡ true
lt_bytes_total [] [] h n = sym n
lt_bytes_total [] (y ∷ b) h n = absurd (clash true refl h)
lt_bytes_total (x ∷ a) [] h n = refl
lt_bytes_total (x ∷ a) (y ∷ b) h n =
    let p = ltb-false x y (or_l (ltb x y) (eqb x y && lt_bytes a b) h) in
    let r : (eqb x y && lt_bytes a b) ≡ false = or_r (ltb x y) (eqb x y && lt_bytes a b) h in
    split (eqb x y)
    (λ e.
    let s : lt_bytes a b ≡ false = rw e at r in
    let t : eq_bytes a b ≡ false = rw e at n in
    rw (eq-eqb y x (sym (eqb-true x y e)), lt_bytes_total a b s t) (or_true (ltb y x)))
    (λ e. let d = eqb-false x y e in rw (lt-ltb y x (omega arith)))
