-- What is read of bytes by their places is the record that the model decodes. Assumes nothing.
use Rattle.std.specs.Prelude.{Some}
use mathlib.Core.Path.{◌≡◌, refl, sym, ap, ◌∙◌}
use mathlib.Core.Bool.{Bool, ◌&&◌}
use mathlib.Core.List.{List, [], ◌∷◌}
use Prim.Native.Nat.{ℕ, zero, suc, ◌+◌, ◌*◌, ◌^◌, ◌≤◌, ◌<◌}
use native.Mathlib.Omega.{arith}
use borrow.Author.Tests.{eq-eqb, ne_eqb, eqb-true}
use native.Mathlib.Nat.{zero-mul, zero-add, suc-mul}
use lib.Dec.{eqb}
use lib.ListN.{length, get_or, drop}
use lib.Seq.{get_or-drop, drop-drop}
use Rattle.std.proofs.Common.{Some, None, slice_get}
use Rattle.std.specs.List.{list_all}
use Rattle.model.specs.Octets.{value, part}
use Rattle.model.specs.Records.{born, gone, column, end, numbered, mark, record_bytes, body_of, cut, decode}
use Rattle.model.proofs.Tests.{split}
use Rattle.model.proofs.Octets.{pow_pos}
use Rattle.record.specs.Kinds.{born_of, gone_of, column_of, end_of, mark_of}
use Rattle.record.specs.Reading.{arrival_record, Sized, ReadAs}
use Rattle.record.specs.declared.Born.{Born}
use Rattle.record.specs.declared.Gone.{Gone}
use Rattle.record.specs.declared.Column.{Column}
use Rattle.record.specs.declared.End.{End}
use Rattle.record.specs.declared.Mark.{Mark}
use Rattle.record.specs.declared.Arrival.TheVariants as arrival

-- the kinds that there are
pub kind_five : (k : ℕ) → 0 < record_bytes k → (k ≡ 1 → ⊥) → (k ≡ 2 → ⊥) → (k ≡ 3 → ⊥) → (k ≡ 4 → ⊥) → k ≡ 5
kind_five k h a b c d =
    split (eqb k 5) (λ t. eqb-true k 5 t) (λ f. let z : record_bytes k ≡ 0 = rw (ne_eqb k 1 a, ne_eqb k 2 b, ne_eqb k 3 c, ne_eqb k 4 d, f) in absurd (omega arith))

pub least : (k : ℕ) → 0 < record_bytes k → 9 ≤ record_bytes k
least k h =
    split (eqb k 1) (λ t. rw t (omega arith))
    (λ a. split (eqb k 2) (λ t. rw (a, t) (omega arith))
    (λ b. split (eqb k 3) (λ t. rw (a, b, t) (omega arith))
    (λ c. split (eqb k 4) (λ t. rw (a, b, c, t) (omega arith))
    (λ d. split (eqb k 5) (λ t. rw (a, b, c, d, t) (omega arith)) (λ f. let z : record_bytes k ≡ 0 = rw (a, b, c, d, f) in absurd (omega arith))))))

-- "an unknown kind, the wrong length"
-- the first byte, where there is one
pub first_is : (l : List ℕ) (k : ℕ) → Some k ≡ slice_get l 0 → (0 < length l) × (get_or l 0 0 ≡ k)
first_is [] k e = cc
first_is (x ∷ b) k e = (omega arith, cc)

pub none_first : (l : List ℕ) → None ≡ slice_get l 0 → length l ≡ 0
none_first [] e = refl
none_first (x ∷ b) e = cc

pub none_read : (l : List ℕ) → length l ≡ 0 → ReadAs arrival.Bad l
unfolding arrival_record Sized
none_read [] h = record { same = refl; size = tt }
none_read (x ∷ b) h = absurd (omega arith)

pub wrong_read : (l : List ℕ) → 0 < length l → (length l ≡ record_bytes (get_or l 0 0) → ⊥) → ReadAs arrival.Bad l
unfolding arrival_record Sized
wrong_read [] h n = absurd (omega arith)
wrong_read (x ∷ b) h n = record { same = rw (ne_eqb (suc (length b)) (record_bytes x) n); size = tt }

-- a record of each kind
decoded : (k x : ℕ) (b : List ℕ) → x ≡ k → suc (length b) ≡ record_bytes k → decode (x ∷ b) ≡ body_of k b
decoded k x b e n = ap (λ (y : ℕ). decode (y ∷ b)) e ∙ rw (eq-eqb (suc (length b)) (record_bytes k) n)

pub born_read : (l : List ℕ) (u n : ℕ) (r : Born) → get_or l 0 0 ≡ 1 → length l ≡ 26 → u ≡ value (part 1 4 l) → n ≡ value (part 5 4 l) → r ≡ born_of u n (get_or l 9 0) → ReadAs (arrival.Born r) l
unfolding arrival_record Sized
born_read [] u n r e m p q w = absurd (omega arith)
born_read (x ∷ b) u n r e m p q w = record {
  same = ap (λ (y : Born). arrival_record (arrival.Born y) (x ∷ b)) w ∙ (λ j. Some (numbered (p j) (q j) (born (get_or b 8 0) (value (part 9 16 b))))) ∙ sym (decoded 1 x b e m);
  size = m;
}

pub gone_read : (l : List ℕ) (u n : ℕ) (r : Gone) → get_or l 0 0 ≡ 2 → length l ≡ 26 → u ≡ value (part 1 4 l) → n ≡ value (part 5 4 l) → r ≡ gone_of u n (get_or l 9 0) → ReadAs (arrival.Gone r) l
unfolding arrival_record Sized
gone_read [] u n r e m p q w = absurd (omega arith)
gone_read (x ∷ b) u n r e m p q w = record {
  same = ap (λ (y : Gone). arrival_record (arrival.Gone y) (x ∷ b)) w ∙ (λ j. Some (numbered (p j) (q j) (gone (get_or b 8 0) (value (part 9 16 b))))) ∙ sym (decoded 2 x b e m);
  size = m;
}

pub column_read : (l : List ℕ) (u n : ℕ) (r : Column) → get_or l 0 0 ≡ 3 → length l ≡ 128 → u ≡ value (part 1 4 l) → n ≡ value (part 5 4 l)
    → r ≡ column_of u n (get_or l 9 0) (get_or l 26 0) (get_or l 27 0) → ReadAs (arrival.Column r) l
unfolding arrival_record Sized
column_read [] u n r e m p q w = absurd (omega arith)
column_read (x ∷ b) u n r e m p q w = record {
  same = ap (λ (y : Column). arrival_record (arrival.Column y) (x ∷ b)) w
      ∙ (λ j. Some (numbered (p j) (q j) (column (get_or b 8 0) (value (part 9 16 b)) (get_or b 25 0) (record { count = sym (get_or-drop 26 b 0 0) j; atoms = cut 4 (sym (drop-drop 1 26 b) j) }))))
      ∙ sym (decoded 3 x b e m);
  size = m;
}

pub end_read : (l : List ℕ) (u n : ℕ) (r : End) → get_or l 0 0 ≡ 4 → length l ≡ 9 → u ≡ value (part 1 4 l) → n ≡ value (part 5 4 l) → r ≡ end_of u n → ReadAs (arrival.End r) l
unfolding arrival_record Sized
end_read [] u n r e m p q w = absurd (omega arith)
end_read (x ∷ b) u n r e m p q w = record { same = ap (λ (y : End). arrival_record (arrival.End y) (x ∷ b)) w ∙ (λ j. Some (numbered (p j) (q j) end)) ∙ sym (decoded 4 x b e m); size = m }

pub mark_read : (l : List ℕ) (u n : ℕ) (r : Mark) → get_or l 0 0 ≡ 5 → length l ≡ 9 → u ≡ value (part 1 4 l) → n ≡ value (part 5 4 l) → r ≡ mark_of u n → ReadAs (arrival.Mark r) l
unfolding arrival_record Sized
mark_read [] u n r e m p q w = absurd (omega arith)
mark_read (x ∷ b) u n r e m p q w = record { same = ap (λ (y : Mark). arrival_record (arrival.Mark y) (x ∷ b)) w ∙ (λ j. Some (mark (p j) (q j))) ∙ sym (decoded 5 x b e m); size = m }

-- ── an id of zeros ──
nil_both : (b p v : ℕ) → 0 < p → (eqb b 0 && eqb v 0) ≡ eqb (b * p + v) 0
nil_both zero p v h = rw (zero-mul p, zero-add v)
nil_both (suc b) p v h = rw (ne_eqb (suc b) 0 (λ z. omega (arith, z)), ne_eqb (suc b * p + v) 0 (λ z. omega (arith, suc-mul b p, h, z)))

pub all_nil : (l : List ℕ) → list_all (λ b. eqb b 0) l ≡ eqb (value l) 0
all_nil [] = refl
all_nil (b ∷ l) = ap (λ (t : Bool). eqb b 0 && t) (all_nil l) ∙ nil_both b (256 ^ length l) (value l) (pow_pos (length l))

-- ── atoms ──
-- the four parts, one after another
pub parts_cut : (l : List ℕ) → part 28 25 l ∷ part 53 25 l ∷ part 78 25 l ∷ part 103 25 l ∷ [] ≡ cut 4 (drop 28 l)
parts_cut l = rw (drop-drop 25 28 l, drop-drop 25 53 l, drop-drop 25 78 l)
