-- The laws of loops that write and read numbers most significant byte first, and of those that write the first bytes of a list. Assumes nothing.
use mathlib.Core.Path.{◌≡◌, sym, ap, ◌∙◌}
use mathlib.Core.List.{List, [], ◌∷◌, ◌++◌, append_assoc}
use Prim.Native.Nat.{ℕ, suc, ◌+◌, ◌-◌, ◌*◌, ◌/◌, ◌%◌, ◌^◌, ◌≤◌, ◌<◌}
use native.Mathlib.Nat.{pow-suc, div-div-eq-div-mul, add_assoc, mul_assoc, add-mul, lt_of_lt_of_le, pow-le-pow_right}
use native.Mathlib.Numerals.{add-one}
use native.Mathlib.Omega.{arith}
use lib.Dec.{lit<}
use lib.ListN.{length, take, drop, set, get_or, length-append, length-take}
use lib.Seq.{take-suc, set_at, length-take-le}
use mir.Val.{Fits}
use mir.Syntax.{w8}
use Rattle.std.proofs.lemmas.List.{get_or-take}
use Rattle.model.specs.Octets.{big, value}

-- one byte more at the front: a turn of the loop that writes a number from its end
pub turn : (xs : List ℕ) (x w i j k v : ℕ) (ys : List ℕ) → i ≡ suc j → w - j ≡ suc k → j < length xs → v ≡ x / 256 ^ k
    → ys ≡ take i xs ++ (big k x ++ drop w xs) → (v / 256 ≡ x / 256 ^ (w - j)) × (set ys j (v % 256) ≡ take j xs ++ (big (w - j) x ++ drop w xs))
turn xs x w i j k v ys ei ek l ev ey =
    let split : ys ≡ take j xs ++ (get_or xs j 0 ∷ (big k x ++ drop w xs)) =
    ey ∙ ap (λ (n : ℕ). take n xs ++ (big k x ++ drop w xs)) ei ∙ ap (λ (a : List ℕ). a ++ (big k x ++ drop w xs)) (take-suc xs j 0 l)
    ∙ append_assoc (take j xs) (get_or xs j 0 ∷ []) (big k x ++ drop w xs) in (
      rw ek (ap (λ (n : ℕ). n / 256) ev ∙ div-div-eq-div-mul x (256 ^ k) 256 ∙ ap (λ (n : ℕ). x / n) (sym (pow-suc 256 k))),
      rw ek (ap (λ (a : List ℕ). set a j (v % 256)) split
          ∙ set_at (take j xs) (get_or xs j 0) (big k x ++ drop w xs) (v % 256) j (length-take-le j xs (omega arith))
          ∙ ap (λ (b : ℕ). take j xs ++ (b % 256 ∷ (big k x ++ drop w xs))) ev),
    )

-- one byte more read
pub value_snoc : (l : List ℕ) (b : ℕ) → value (l ++ (b ∷ [])) ≡ value l * 256 + b
value_snoc [] b = omega arith
value_snoc (a ∷ l) b =
    ap (λ (n : ℕ). a * 256 ^ n + value (l ++ (b ∷ []))) (length-append l (b ∷ []) ∙ add-one (length l))
    ∙ ap (λ (n : ℕ). a * 256 ^ suc (length l) + n) (value_snoc l b)
    ∙ ap (λ (n : ℕ). a * n + (value l * 256 + b)) (pow-suc 256 (length l))
    ∙ ap (λ (n : ℕ). n + (value l * 256 + b)) (sym (mul_assoc a (256 ^ length l) 256))
    ∙ sym (add_assoc (a * 256 ^ length l * 256) (value l * 256) b)
    ∙ ap (λ (n : ℕ). n + b) (sym (add-mul (a * 256 ^ length l) (value l) 256))

pub value_take_suc : (s : List ℕ) (i : ℕ) → i < length s → value (take (i + 1) s) ≡ value (take i s) * 256 + get_or s i 0
value_take_suc s i h = ap (λ (n : ℕ). value (take n s)) (add-one i) ∙ ap value (take-suc s i 0 h) ∙ value_snoc (take i s) (get_or s i 0)

-- the value of i bytes is below 256 ^ i, and so the next one fits 64 bits where i is below 8
pub next_lt : (i v b : ℕ) → v < 256 ^ i → b < 256 → v * 256 + b < 256 ^ (i + 1)
next_lt i v b h l = rw (add-one i, pow-suc 256 i) (omega arith)

pub next_fits : (i v b : ℕ) → i < 8 → v < 256 ^ i → b < 256 → v * 256 + b < 2 ^ 64
next_fits i v b h l m = lt_of_lt_of_le (next_lt i v b l m) (pow-le-pow_right {n = 256} (lit< tt) {i = i + 1} {j = 8} (omega arith))

-- a turn of the loop that reads the first w bytes
pub read_turn : (s : List ℕ) (w i v b : ℕ) → w ≤ 8 → i < length (take w s) → ((k : ℕ) → Fits w8 (get_or s k 0)) → v < 256 ^ i → v ≡ value (take i s) → b ≡ get_or (take w s) i 0
    → (v * 256 + b < 2 ^ 64) × (v * 256 + b < 256 ^ (i + 1)) × (v * 256 + b ≡ value (take (i + 1) s))
read_turn s w i v b m h f l e q =
    let t = length-take w s in
    let g : b ≡ get_or s i 0 = q ∙ get_or-take w s i 0 (omega arith) in
    let k : b < 256 = omega (arith, (f i).fits) in
    (next_fits i v b (omega arith) l k, next_lt i v b l k, ap (λ (n : ℕ). n * 256 + b) e ∙ ap (λ (n : ℕ). value (take i s) * 256 + n) g ∙ sym (value_take_suc s i (omega arith)))
