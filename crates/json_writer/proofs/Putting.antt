-- Laws of text that is written as it is produced. Assumes nothing.
use mathlib.Core.Path.{◌≡◌, refl, sym, ap, ◌∙◌}
use mathlib.Core.List.{List, [], ◌∷◌, ◌++◌}
use Prim.Native.Nat.{ℕ, zero, suc, ◌+◌, ◌-◌, ◌≤◌, ◌<◌, min}
use native.Mathlib.Nat.{add-zero}
use native.Mathlib.Numerals.{add-one}
use native.Mathlib.Omega.{arith}
use lib.Dec.{ltb}
use lib.ListN.{length, take, drop, set, replicate, length-append, length-replicate, take-append-drop}
use Rattle.std.proofs.lemmas.List.{append_assoc, drop-drop}
use borrow.Rule.Slice.PartMut.{put_mid}
use lib.Seq.{sets, sets-eq, length-sets, set_out, set_at, append_snoc, take_all, length-take-le}
use borrow.Author.Tests.{ltb-true, ltb-false}
use Rattle.model.proofs.Tests.{split}
use Rattle.model.specs.Octets.{filled}
use Rattle.json_writer.specs.Put.{put_at, Put}

-- a buffer keeps its length
pub put_length : (o : List ℕ) (at : ℕ) (t : List ℕ) → length (put_at o at t) ≡ length o
unfolding put_at
put_length o at t = length-sets o at t

pub put_none : (o : List ℕ) (at : ℕ) → put_at o at [] ≡ o
unfolding put_at
put_none o at = refl

pub put_one : (o : List ℕ) (at b : ℕ) → put_at o at (b ∷ []) ≡ set o at b
unfolding put_at
put_one o at b = refl

-- one text and then another
pub put_append : (o : List ℕ) (at : ℕ) (a b : List ℕ) → put_at o at (a ++ b) ≡ put_at (put_at o at a) (at + length a) b
unfolding put_at
put_append o at [] b = rw add-zero refl
put_append o at (x ∷ a) b = put_append (set o at x) (suc at) a b ∙ ap (λ (n : ℕ). put_at (put_at (set o at x) (suc at) a) n b) (omega arith)

-- past the end nothing changes
pub put_past : (o : List ℕ) (at : ℕ) (t : List ℕ) → length o ≤ at → put_at o at t ≡ o
unfolding put_at
put_past o at [] h = refl
put_past o at (x ∷ t) h = ap (λ (l : List ℕ). sets l (suc at) t) (set_out o at x h) ∙ put_past o (suc at) t (omega arith)

-- the part of a text that the buffer takes
pub put_part : (o : List ℕ) (at : ℕ) (t : List ℕ) (i : ℕ) → (i < length t → length o ≤ at + i) → put_at o at (take i t) ≡ put_at o at t
put_part o at t i h =
    split
    (ltb i (length t))
    (λ e.
    let l : i < length t = ltb-true i (length t) e in
    sym (put_past (put_at o at (take i t)) (at + i) (drop i t) (omega (arith, h l, put_length o at (take i t))))
    ∙ ap (λ (n : ℕ). put_at (put_at o at (take i t)) (at + n) (drop i t)) (sym (length-take-le i t (omega arith)))
    ∙ sym (put_append o at (take i t) (drop i t))
    ∙ ap (put_at o at) (take-append-drop i t))
    (λ e. ap (put_at o at) (take_all i t (ltb-false i (length t) e)))

-- that part copied at once
pub put_copied : (o : List ℕ) (at n k : ℕ) (t u : List ℕ) → at < length o → n ≡ min (length t) (length o - at) → k ≡ n → u ≡ take n t → put_mid at k o u ≡ put_at o at t
unfolding put_at
put_copied o at n k t u h m kn e =
    let v = take n t in
    let lv : length v ≡ n = length-take-le n t (omega arith) in
    ap (λ (l : List ℕ). put_mid at k o l) e
    ∙ sym (append_assoc (take at o) v (drop k (drop at o)))
    ∙ ap (λ (l : List ℕ). take at o ++ v ++ l) (drop-drop k at o ∙ ap (λ (j : ℕ). drop j o) (let q : at + k ≡ at + length v = omega (arith, lv) in q))
    ∙ sym (sets-eq v o at (omega (arith, lv)))
    ∙ put_part o at t n (λ g. omega arith)

-- of zeros: what a buffer holds in the end
enough : (n m : ℕ) (t : List ℕ) → n ≤ m → take n (t ++ replicate m 0) ≡ take n (t ++ replicate n 0)
enough zero m t h = refl
enough (suc n) zero t h = absurd (omega arith)
enough (suc n) (suc m) [] h = ap (λ (l : List ℕ). 0 ∷ l) (enough n m [] (omega arith))
enough (suc n) (suc m) (x ∷ t) h = ap (λ (l : List ℕ). x ∷ l) (enough n (suc m) t (omega arith) ∙ sym (enough n (suc n) t (omega arith)))

zeros_from : (n at : ℕ) (t d : List ℕ) → length d ≡ at → put_at (d ++ replicate n 0) at t ≡ d ++ filled n t
unfolding put_at
zeros_from zero at t d e = put_past (d ++ []) at t (omega (arith, length-append d []))
zeros_from (suc n) at [] d e = ap (λ (l : List ℕ). d ++ l) (sym (take_all (suc n) (replicate (suc n) 0) (omega (arith, length-replicate {A = ℕ} (suc n) 0))))
zeros_from (suc n) at (x ∷ t) d e =
    ap (λ (l : List ℕ). sets l (suc at) t) (set_at d 0 (replicate n 0) x at e ∙ sym (append_snoc d x (replicate n 0)))
    ∙ zeros_from n (suc at) t (d ++ (x ∷ [])) (length-append d (x ∷ []) ∙ add-one (length d) ∙ ap suc e)
    ∙ append_snoc d x (filled n t)
    ∙ ap (λ (l : List ℕ). d ++ (x ∷ l)) (sym (enough n (suc n) t (omega arith)))

pub put_zeros : (n : ℕ) (t : List ℕ) → put_at (replicate n 0) 0 t ≡ filled n t
put_zeros n t = zeros_from n 0 t [] refl

-- ── a writer after another ──
pub put_nothing : (o : List ℕ) (at : ℕ) → Put 0 o at [] at o
put_nothing o at = record { count = sym (add-zero at); out = sym (put_none o at); short = omega arith }

pub put_then : {m n : ℕ} {o o1 o2 : List ℕ} {at r r2 : ℕ} {a b : List ℕ} → Put m o at a r o1 → Put n o1 r b r2 o2 → Put (m + n) o at (a ++ b) r2 o2
put_then {m} {n} {o} {o1} {o2} {at} {r} {r2} {a} {b} p q =
    record {
      count = omega (arith, p.count, q.count, length-append a b);
      out = q.out ∙ ap (λ (l : List ℕ). put_at l r b) p.out ∙ ap (λ (k : ℕ). put_at (put_at o at a) k b) p.count ∙ sym (put_append o at a b);
      short = omega (arith, p.short, q.short);
    }

pub put_is : {m n : ℕ} {o o1 : List ℕ} {at r : ℕ} {a b : List ℕ} → Put m o at a r o1 → a ≡ b → m ≤ n → Put n o at b r o1
put_is {m} {n} {o} {o1} {at} {r} p e h = record { count = p.count ∙ ap (λ (t : List ℕ). at + length t) e; out = p.out ∙ ap (put_at o at) e; short = omega (arith, p.short) }

-- ── a loop of writers: what is still due of a text of which a part is written ──
pub record Due (o : List ℕ) (at : ℕ) (whole : List ℕ) (o1 : List ℕ) (r : ℕ) (rest : List ℕ) : Type 0 where
  pub count : r + length rest ≡ at + length whole
  pub out : put_at o1 r rest ≡ put_at o at whole

pub due_all : (o : List ℕ) (at : ℕ) (whole : List ℕ) → Due o at whole o at whole
due_all o at whole = record { count = refl; out = refl }

pub due_next : {m : ℕ} {o o1 o2 whole : List ℕ} {at r r2 : ℕ} {a b : List ℕ} → Due o at whole o1 r (a ++ b) → Put m o1 r a r2 o2 → Due o at whole o2 r2 b
due_next {m} {o} {o1} {o2} {whole} {at} {r} {r2} {a} {b} d p =
    record {
      count = omega (arith, p.count, d.count, length-append a b);
      out = ap (λ (l : List ℕ). put_at l r2 b) p.out ∙ ap (λ (k : ℕ). put_at (put_at o1 r a) k b) p.count ∙ sym (put_append o1 r a b) ∙ d.out;
    }

pub due_none : {o o1 whole : List ℕ} {at r : ℕ} → Due o at whole o1 r [] → (n : ℕ) → r ≤ at + n → Put n o at whole r o1
due_none {o} {o1} {whole} {at} {r} d n h = record { count = sym (add-zero r) ∙ d.count; out = sym (put_none o1 r) ∙ d.out; short = h }

pub due_is : {o o1 whole : List ℕ} {at r : ℕ} {a b : List ℕ} → Due o at whole o1 r a → a ≡ b → Due o at whole o1 r b
due_is {o} {o1} {whole} {at} {r} d e = record { count = ap (λ (t : List ℕ). r + length t) (sym e) ∙ d.count; out = ap (put_at o1 r) (sym e) ∙ d.out }
