-- Laws of bytes written one after another. Assumes nothing.
use Rattle.std.specs.Prelude.{Option, Some, None}
use mathlib.Core.Path.{◌≡◌, refl, sym, ap, ◌∙◌}
use mathlib.Core.List.{List, [], ◌∷◌, ◌++◌}
use Prim.Native.Nat.{ℕ, suc, ◌+◌, ◌-◌, ◌<◌, ◌≤◌}
use native.Mathlib.Numerals.{add-one}
use native.Mathlib.Omega.{arith}
use lib.ListN.{length, set, get_or, take, drop, length-set, length-drop}
use lib.Dec.{ltb}
use lib.Seq.{sets, sets-eq, take-suc, get_or-drop, take-append_seam}
use borrow.Author.Tests.{lt-ltb, ltb-true}
use Rattle.model.proofs.Tests.{split}
use Rattle.model.specs.Scan.{between}
use Rattle.text.specs.Push.{push_to, push_out, push_all_to, push_all_out, Pushed, count_of}

pub push_length : (out : List ℕ) (w : Option ℕ) (b : ℕ) → length (push_out out w b) ≡ length out
unfolding push_out
push_length out (Some o) b = length-set out o b
push_length out None b = refl

pub all_length : (out : List ℕ) (w : Option ℕ) (bs : List ℕ) → length (push_all_out out w bs) ≡ length out
unfolding push_all_out
all_length out w [] = refl
all_length out w (b ∷ bs) = all_length (push_out out w b) (push_to (length out) w) bs ∙ push_length out w b

all_to : (n : ℕ) (w : Option ℕ) (xs bs : List ℕ) → push_all_to n w (xs ++ bs) ≡ push_all_to n (push_all_to n w xs) bs
unfolding push_all_to
all_to n w [] bs = refl
all_to n w (a ∷ xs) bs = all_to n (push_to n w) xs bs

all_out : (out : List ℕ) (w : Option ℕ) (xs bs : List ℕ) → push_all_out out w (xs ++ bs) ≡ push_all_out (push_all_out out w xs) (push_all_to (length out) w xs) bs
unfolding push_all_out push_all_to
all_out out w [] bs = refl
all_out out w (a ∷ xs) bs = all_out (push_out out w a) (push_to (length out) w) xs bs
    ∙ ap (λ n. push_all_out (push_all_out (push_out out w a) (push_to (length out) w) xs) (push_all_to n (push_to (length out) w) xs) bs) (push_length out w a)

-- some bytes, and then some
pub pushed_append : {out₀ out₁ out₂ xs bs : List ℕ} {w x r : Option ℕ} → Pushed out₀ w xs x out₁ → Pushed out₁ x bs r out₂ → Pushed out₀ w (xs ++ bs) r out₂
pushed_append {out₀} {out₁} {out₂} {xs} {bs} {w} {x} {r} p q = record {
  to = q.to ∙ ap (λ l. push_all_to (length l) x bs) p.out ∙ ap (λ n. push_all_to n x bs) (all_length out₀ w xs) ∙ ap (λ y. push_all_to (length out₀) y bs) p.to ∙ sym (all_to (length out₀) w xs bs);
  out = q.out ∙ ap (λ l. push_all_out l x bs) p.out ∙ ap (λ y. push_all_out (push_all_out out₀ w xs) y bs) p.to ∙ sym (all_out out₀ w xs bs);
}

pub between_more : (s : List ℕ) (a i : ℕ) → a ≤ i → i < length s → between s a (i + 1) ≡ between s a i ++ (get_or s i 0 ∷ [])
between_more s a i le lt =
    let z : i + 1 - a ≡ suc (i - a) = omega arith in
    let y : a + (i - a) ≡ i = omega arith in
    ap (λ n. take n (drop a s)) z ∙ take-suc (drop a s) (i - a) 0 (omega (arith, length-drop a s))
    ∙ ap (λ x. take (i - a) (drop a s) ++ (x ∷ [])) (get_or-drop a s (i - a) 0 ∙ ap (λ j. get_or s j 0) y)

pub pushed_none : (out : List ℕ) (w : Option ℕ) → Pushed out w [] w out
unfolding push_all_to push_all_out
pushed_none out w = record { to = refl; out = refl }

push_one : (n o : ℕ) → o < n → push_to n (Some o) ≡ Some (o + 1)
unfolding push_to
push_one n o h = rw (push_to, lt-ltb o n h)

-- bytes that there is room for
to_room : (n o : ℕ) (bs : List ℕ) → o + length bs ≤ n → push_all_to n (Some o) bs ≡ Some (o + length bs)
unfolding push_all_to
to_room n o [] h = ap Some (omega arith)
to_room n o (b ∷ bs) h = rw (push_one n o (omega arith)) (to_room n (o + 1) bs (omega arith) ∙ ap Some (omega arith))

out_room : (out : List ℕ) (o : ℕ) (bs : List ℕ) → o + length bs ≤ length out → push_all_out out (Some o) bs ≡ sets out o bs
unfolding push_all_out push_out
out_room out o [] h = refl
out_room out o (b ∷ bs) h =
    rw (push_one (length out) o (omega arith)) (out_room (set out o b) (o + 1) bs (omega (arith, length-set out o b)) ∙ ap (λ n. sets (set out o b) n bs) (add-one o))

-- how many there are, and that they stand in front of what was there
pub pushed_whole : {before bs after : List ℕ} {r : Option ℕ} → Pushed before (Some 0) bs r after → length bs ≤ length before → (r ≡ Some (length bs)) × (after ≡ bs ++ drop (length bs) before)
pushed_whole {before} {bs} p h =
    let z : 0 + length bs ≡ length bs = omega arith in
    (p.to ∙ to_room (length before) 0 bs (omega arith) ∙ ap Some z, p.out ∙ out_room before 0 bs (omega arith) ∙ sets-eq bs before 0 (omega arith) ∙ ap (λ n. bs ++ drop n before) z)

pub held : {before bs after : List ℕ} {r : Option ℕ} → Pushed before (Some 0) bs r after → length bs ≤ length before → (count_of r ≡ length bs) × (take (length bs) after ≡ bs) × (length after ≡ length before)
unfolding count_of
held {before} {bs} p h =
    let f = pushed_whole p h in
    (ap count_of f.0, ap (take (length bs)) f.1 ∙ take-append_seam bs (drop (length bs) before), ap length p.out ∙ all_length before (Some 0) bs)

-- bytes that there is no room for
all_full : (n : ℕ) (bs : List ℕ) → push_all_to n None bs ≡ None
unfolding push_all_to push_to
all_full n [] = refl
all_full n (b ∷ bs) = all_full n bs

pub pushed_over : (n o : ℕ) (bs : List ℕ) → o ≤ n → n < o + length bs → push_all_to n (Some o) bs ≡ None
unfolding push_all_to push_to
pushed_over n o [] l h = absurd (omega arith)
pushed_over n o (b ∷ bs) l h =
    split
    (ltb o n)
    (λ e. rw (push_to, e) (pushed_over n (o + 1) bs (omega (arith, ltb-true o n e)) (omega arith)))
    (λ e. rw (push_to, e) (all_full n bs))
