-- Numbers as bytes, most significant byte first (document 01, "numbers most significant byte first"), at any width; byte strings. Assumes nothing: these are definitions.
use Rattle.std.specs.Prelude.{ℕ, zero, suc, ◌+◌, ◌-◌, ◌*◌, ◌/◌, ◌%◌, ◌^◌, Bool, true, false, ◌&&◌, ◌||◌, List, [], ◌∷◌, ◌++◌, eqb, ltb, ℤ, pos, negsuc, length, take, drop, replicate}

-- x at a width of so many bytes
abbrev pub big : ℕ → ℕ → List ℕ
big zero x = []
big (suc w) x = (x / 256 ^ w % 256) ∷ big w x

-- the number that bytes stand for
abbrev pub value : List ℕ → ℕ
value [] = 0
value (b ∷ bs) = b * 256 ^ length bs + value bs

-- two's complement at a width of so many bits
abbrev pub twos : ℕ → ℤ → ℕ
twos w (pos n) = n
twos w (negsuc n) = 2 ^ w - suc n

-- n bytes from a position on
abbrev pub part : ℕ → ℕ → List ℕ → List ℕ
part at n b = take n (drop at b)

-- n parts of w bytes each, one after another
abbrev pub chunks : ℕ → ℕ → List ℕ → List (List ℕ)
chunks w zero b = []
chunks w (suc n) b = take w b ∷ chunks w n (drop w b)

-- two byte strings are the same
abbrev pub eq_bytes : List ℕ → List ℕ → Bool
eq_bytes [] [] = true
eq_bytes [] (y ∷ ys) = false
eq_bytes (x ∷ xs) [] = false
eq_bytes (x ∷ xs) (y ∷ ys) = eqb x y && eq_bytes xs ys

-- the order of byte strings: by the first byte that differs, and a prefix first
abbrev pub lt_bytes : List ℕ → List ℕ → Bool
lt_bytes [] [] = false
lt_bytes [] (y ∷ ys) = true
lt_bytes (x ∷ xs) [] = false
lt_bytes (x ∷ xs) (y ∷ ys) = ltb x y || (eqb x y && lt_bytes xs ys)

-- a buffer of n bytes that was written to from its front: the bytes, as far as it goes, and zeros
abbrev pub filled : ℕ → List ℕ → List ℕ
filled n b = take n (b ++ replicate n 0)
