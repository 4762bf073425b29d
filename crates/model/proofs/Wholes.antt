-- Integers as written, and the limits of a column's type, are those of 64 bits. Assumes nothing.
use Rattle.std.specs.Prelude.{Option, Some, None}
use mathlib.Core.Path.{◌≡◌, refl}
use mathlib.Core.List.{List, [], ◌∷◌}
use mathlib.Core.Bool.{true}
use Prim.Native.Nat.{ℕ, zero, suc, ◌+◌, ◌-◌, ◌*◌, ◌≤◌}
use native.Mathlib.Omega.{arith}
use borrow.Author.Tests.{ltb-true, ltb-false, le-leb}
use lib.Dec.{eqb, ltb}
use lib.IntN.{ℤ, pos, neg_ℤ}
use Rattle.model.specs.Base.{ascii}
use Rattle.model.specs.Scan.{is_digit}
use Rattle.model.specs.Json.{Json, null, bool, num, str, arr, obj, Named}
use Rattle.model.specs.Members.{has_member, member_value}
use Rattle.model.specs.Whole.{sized, plus_of, minus_of, whole_text, whole_of, whole_int}
use Rattle.model.specs.Schema.{Base, integer, boolean, text, uuid}
use Rattle.model.specs.SchemaText.{limit_or, least, greatest, low_of, high_of}
use Rattle.model.proofs.Tests.{split}
use Rattle.model.proofs.Signed.{fits64}

-- ── integers as written are those of 64 bits ──
-- digits that stand for at most 2 ^ 63
Most : Option ℕ → Type 0
Most (Some m) = m ≤ 9223372036854775808
Most None = Unit {0}

sized_most : (acc : ℕ) (bs : List ℕ) → Most (sized acc bs)
unfolding sized Most
sized_most acc [] =
    split (ltb 9223372036854775808 acc) (λ e. rw (sized, e) tt) (λ e. rw (sized, e) (ltb-false 9223372036854775808 acc e))
sized_most acc (b ∷ bs) = split (is_digit b) (λ e. rw (sized, e) (sized_most (acc * 10 + (b - 48)) bs)) (λ e. rw (sized, e) tt)

plus_fits : (d : Option ℕ) → fits64 (whole_int (plus_of d)) ≡ true
unfolding plus_of whole_int
plus_fits (Some m) =
    split
    (ltb m 9223372036854775808)
    (λ e. rw (plus_of, e, le-leb m 9223372036854775807 (omega (arith, ltb-true m 9223372036854775808 e))))
    (λ e. rw (plus_of, e))
plus_fits None = refl

below_fits : (m : ℕ) → m ≤ 9223372036854775808 → fits64 (neg_ℤ (pos m)) ≡ true
below_fits zero h = refl
below_fits (suc m) h = let l : m ≤ 9223372036854775807 = omega arith in rw (le-leb m 9223372036854775807 l)

minus_fits : (d : Option ℕ) → Most d → fits64 (whole_int (minus_of d)) ≡ true
unfolding minus_of whole_int Most
minus_fits (Some m) h = split (eqb m 0) (λ e. rw (minus_of, e)) (λ e. rw (minus_of, e) (below_fits m h))
minus_fits None h = refl

text_fits_lem : (t : List ℕ) → fits64 (whole_int (whole_text t)) ≡ true
unfolding whole_text whole_int
text_fits_lem [] = refl
text_fits_lem (b ∷ bs) = split (eqb b 45) (λ e. rw (whole_text, e) (minus_fits (sized 0 bs) (sized_most 0 bs))) (λ e. rw (whole_text, e) (plus_fits (sized 0 (b ∷ bs))))

whole_fits : (j : Json) → fits64 (whole_int (whole_of j)) ≡ true
unfolding whole_of whole_int
whole_fits null = refl
whole_fits (bool b) = refl
whole_fits (num t) = text_fits_lem t
whole_fits (str t) = refl
whole_fits (arr xs) = refl
whole_fits (obj ms) = refl

-- ── limits ──
limit_fits : (w : List ℕ) (d : ℤ) (ms : List Named) → fits64 d ≡ true → fits64 (limit_or w d ms) ≡ true
unfolding limit_or
limit_fits w d ms h = split (has_member w ms) (λ e. rw (limit_or, e) (whole_fits (member_value w ms))) (λ e. rw (limit_or, e) h)

pub low_fits : (k : Base) (ms : List Named) → fits64 (low_of k ms) ≡ true
unfolding low_of
low_fits integer ms = limit_fits (ascii "minInteger") least ms refl
low_fits boolean ms = refl
low_fits text ms = limit_fits (ascii "minLength") least ms refl
low_fits uuid ms = refl

pub high_fits : (k : Base) (ms : List Named) → fits64 (high_of k ms) ≡ true
unfolding high_of
high_fits integer ms = limit_fits (ascii "maxInteger") greatest ms refl
high_fits boolean ms = refl
high_fits text ms = limit_fits (ascii "maxLength") greatest ms refl
high_fits uuid ms = refl
