-- The heart of demand 3: the records of a commit, in order, fit one after another and make of the rows before it the rows after it. Assumes nothing.
use Rattle.std.specs.Prelude.{None}
use mathlib.Core.Path.{◌≡◌, refl, sym, ◌∙◌, ap}
use mathlib.Core.Bool.{true, false}
use mathlib.Core.List.{List, [], ◌∷◌, ◌++◌}
use Prim.Native.Nat.{ℕ, ◌+◌, ◌*◌, ◌/◌, ◌%◌, ◌<◌}
use native.Mathlib.Nat.{mul-add-div_right, mul-add-mod_self_right, mod-eq_of_lt, div-eq_of_lt, add-zero}
use native.Mathlib.Omega.{arith}
use borrow.Author.Tests.{eq-eqb, ne_eqb, eqb-true}
use lib.Dec.{eqb}
use Rattle.model.specs.Schema.{Schema, columns_of}
use Rattle.model.specs.Rows.{Row, key_of, key, find, has}
use Rattle.model.specs.Records.{Change, end, gones, walk, closed, diff, act, acts}
use Rattle.model.proofs.Order.{Above, Sorted, Fine, AllFine, Good}
use Rattle.model.proofs.Tests.{split, clash, or_true}
use Rattle.model.proofs.Seams.{above_trans}
use Rattle.model.proofs.Chain.{Chain, chain_append, kept, gone_chain, typed_alike, Pend, done, same, new, walk_chain}

-- a table and an id by their key
digits : (n t u i j : ℕ) → i < n → j < n → t * n + i ≡ u * n + j → (t ≡ u) × (i ≡ j)
digits n t u i j hi hj e =
    let h : 0 < n = omega arith in
    let p : i ≡ j = sym (mul-add-mod_self_right t n i ∙ mod-eq_of_lt hi) ∙ ap (λ (x : ℕ). x % n) e ∙ mul-add-mod_self_right u n j ∙ mod-eq_of_lt hj in
    let x : (t * n + i) / n ≡ t = mul-add-div_right h t i ∙ rw (div-eq_of_lt hi) (add-zero t) in
    let y : (u * n + j) / n ≡ u = mul-add-div_right h u j ∙ rw (div-eq_of_lt hj) (add-zero u) in
    (sym x ∙ ap (λ (z : ℕ). z / n) e ∙ y, p)

pub key_is : (r x : Row) (s : Schema) → Fine s r → Fine s x → key r ≡ key x → (r.table ≡ x.table) × (r.id ≡ x.id)
unfolding key_of
key_is r x s f g e = digits 340282366920938463463374607431768211456 r.table x.table r.id x.id f.short g.short e

-- looking, among the rows that stay, for a row that stays
keep_find : (after rows : List Row) (k : ℕ) → has k after ≡ true → find k rows ≡ find k (kept after rows)
keep_find after [] k h = refl
keep_find after (r ∷ rs) k h = split (has (key r) after)
    (λ q. split (eqb k (key r)) (λ p. rw (p, q, p)) (λ p. rw (p, q, p) (keep_find after rs k h)))
    (λ q. split (eqb k (key r)) (λ p. absurd (clash (has k after) h (rw (eqb-true k (key r) p) q))) (λ p. rw (p, q) (keep_find after rs k h)))

keep_has : (after rows : List Row) (k : ℕ) → has k (kept after rows) ≡ true → has k after ≡ true
keep_has after [] k h = cc
keep_has after (r ∷ rs) k h = split (has (key r) after)
    (λ q. split (eqb k (key r)) (λ p. rw (eqb-true k (key r) p) q) (λ p. keep_has after rs k (rw (q, p) at h)))
    (λ q. keep_has after rs k (rw q at h))

keep_above : (after rows : List Row) (k : ℕ) → Above k rows → Above k (kept after rows)
keep_above after [] k h = tt
keep_above after (r ∷ rs) k h = split (has (key r) after) (λ q. rw q (h.0, keep_above after rs k h.1)) (λ q. rw q (keep_above after rs k h.1))

keep_sorted : (after rows : List Row) → Sorted rows → Sorted (kept after rows)
keep_sorted after [] h = tt
keep_sorted after (r ∷ rs) h = split (has (key r) after)
    (λ q. rw q (keep_above after rs (key r) h.0, keep_sorted after rs h.1))
    (λ q. rw q (keep_sorted after rs h.1))

keep_fine : (s : Schema) (after rows : List Row) → AllFine s rows → AllFine s (kept after rows)
keep_fine s after [] h = tt
keep_fine s after (r ∷ rs) h = split (has (key r) after) (λ q. rw q (h.0, keep_fine s after rs h.1)) (λ q. rw q (keep_fine s after rs h.1))

-- a row is there at the front of a list, behind another, and not below the first
has_front : (r : Row) (rs : List Row) → has (key r) (r ∷ rs) ≡ true
has_front r rs = rw (eq-eqb (key r) (key r) refl)

has_behind : (k : ℕ) (r : Row) (rs : List Row) → has k rs ≡ true → has k (r ∷ rs) ≡ true
has_behind k r rs h = rw h (or_true (eqb k (key r)))

has_other : (k : ℕ) (r : Row) (rs : List Row) → has k (r ∷ rs) ≡ true → eqb k (key r) ≡ false → has k rs ≡ true
has_other k r rs h p = rw p at h

above_has : (j k : ℕ) (rs : List Row) → Above j rs → has k rs ≡ true → j < k
above_has j k [] a h = absurd (clash false h refl)
above_has j k (r ∷ rs) a h = split (eqb k (key r)) (λ p. rw (eqb-true k (key r) p) a.0) (λ p. above_has j k rs a.1 (has_other k r rs h p))

above_none : (k : ℕ) (rs : List Row) → Above k rs → find k rs ≡ None
above_none k [] a = refl
above_none k (r ∷ rs) a = rw (ne_eqb k (key r) (omega arith), above_none k rs a.1)

-- what stands, against what is to be: by the keys in order
pend_of : (s : Schema) (before p rest : List Row) → Sorted p → Sorted rest → AllFine s p → AllFine s rest
    → ((k : ℕ) → has k rest ≡ true → find k before ≡ find k p) → ((k : ℕ) → has k p ≡ true → has k rest ≡ true) → Pend before p rest
pend_of s before [] [] op or fp fr look sub = done
pend_of s before (x ∷ p) [] op or fp fr look sub = absurd (clash false (sub (key x) (has_front x p)) refl)
pend_of s before [] (r ∷ rest) op or fp fr look sub =
    new (look (key r) (has_front r rest)) (pend_of s before [] rest tt or.1 tt fr.1 (λ k h. look k (has_behind k r rest h)) (λ k h. absurd (clash false h refl)))
pend_of s before (x ∷ p) (r ∷ rest) op or fp fr look sub = split (eqb (key x) (key r))
    (λ q.
    let e : key x ≡ key r = eqb-true (key x) (key r) q in
    let i = key_is x r s fp.0 fr.0 e in
    same {x = x} {r = r} (look (key r) (has_front r rest) ∙ rw (eq-eqb (key r) (key x) (sym e))) i.0 i.1
    (typed_alike (columns_of s r.table) x.columns r.columns (rw i.0 at fp.0.typed) fr.0.typed)
    (pend_of s before p rest op.1 or.1 fp.1 fr.1
    (λ k h. look k (has_behind k r rest h) ∙ rw (ne_eqb k (key x) (omega (arith, above_has (key r) k rest or.0 h))))
    (λ k h. has_other k r rest (sub k (has_behind k x p h)) (ne_eqb k (key r) (omega (arith, above_has (key x) k p op.0 h))))))
    (λ q.
    let l : key r < key x = above_has (key r) (key x) rest or.0 (has_other (key x) r rest (sub (key x) (has_front x p)) q) in
    let a : Above (key r) (x ∷ p) = (l, above_trans (key r) (key x) p (omega arith) op.0) in
    new (look (key r) (has_front r rest) ∙ above_none (key r) (x ∷ p) a)
    (pend_of s before (x ∷ p) rest op or.1 fp fr.1 (λ k h. look k (has_behind k r rest h))
    (λ k h. has_other k r rest (sub k h) (ne_eqb k (key r) (omega (arith, above_has (key r) k (x ∷ p) a h))))))

closed_chain : (s : Schema) (es : List Change) (b a : List Row) → Chain s es b a → Chain s (closed es) b a
closed_chain s [] b a h = h
closed_chain s (e ∷ es) b a h = chain_append s (e ∷ es) (end ∷ []) b a a h (refl, refl, refl)

pub heart : (s : Schema) (before after : List Row) → Good s before → Good s after → Chain s (diff s before after) before after
heart s before after g h =
    closed_chain s (gones after before ++ walk s before after) before after
    (chain_append s (gones after before) (walk s before after) before (kept after before) after
    (gone_chain s after [] before g.sorted g.fine)
    (walk_chain s before []
    (pend_of s before (kept after before) after (keep_sorted after before g.sorted) h.sorted (keep_fine s after before g.fine) h.fine
    (λ k e. keep_find after before k e) (λ k e. keep_has after before k e))
    h.sorted h.distinct h.fine h.few))

pub chain_acts : (s : Schema) (es : List Change) (b a : List Row) → Chain s es b a → acts s es b ≡ a
chain_acts s [] b a h = h
chain_acts s (e ∷ es) b a h = chain_acts s es (act s e b) a h.2

-- the rows before a commit and its records make the rows after it
pub diff_acts : (s : Schema) (before after : List Row) → Good s before → Good s after → acts s (diff s before after) before ≡ after
diff_acts s before after g h = chain_acts s (diff s before after) before after (heart s before after g h)
