-- Atoms of a row beside those that were written. Assumes nothing.
use mathlib.Core.Path.{◌≡◌, refl, sym, ap, ◌∙◌}
use mathlib.Core.Bool.{Bool, true, false, ◌&&◌, beq}
use mathlib.Core.List.{List, [], ◌∷◌, ◌++◌}
use Prim.Native.Nat.{ℕ, ◌+◌, ◌-◌, ◌≤◌, ◌<◌, min}
use native.Mathlib.Omega.{arith}
use native.Mathlib.Numerals.{add-one}
use lib.IntN.{ℤ, pos, negsuc}
use lib.ListN.{length, get_or, take, drop, replicate, drop_of_length-le}
use lib.Seq.{length-take-le, drop-cons}
use Rattle.std.specs.List.{list_all}
use Rattle.model.proofs.Tests.{split}
use Rattle.model.specs.Octets.{value}
use Rattle.model.specs.Base.{all, member}
use Rattle.model.specs.Value.{Value, uuid_atom, pad, elements}
use Rattle.model.proofs.Octets.{octet, big_value}
use Rattle.references.proofs.Walks.{take_min}
use Rattle.integers.specs.declared.Int.{Int}
use Rattle.integers.specs.Ints.{signed, int_in, as_int}
use Rattle.marks.specs.Marks.{every}

pub and_true : (b : Bool) → (b && true) ≡ b
and_true true = refl
and_true false = refl

-- ── integers ──
int_back : (z : ℤ) → int_in (as_int z) ≡ z
unfolding signed as_int
int_back (pos n) = refl
int_back (negsuc n) = refl

-- two integers as the code has them, compared
pub ordered : (less : ℤ → ℤ → Bool) (x y : Int) (v w : ℤ) → x ≡ as_int v → y ≡ as_int w → less (int_in x) (int_in y) ≡ less v w
ordered less x y v w e f = ap (λ q. less (int_in q) (int_in y)) e ∙ ap (λ q. less q (int_in y)) (int_back v) ∙ ap (λ q. less v (int_in q)) f ∙ ap (less v) (int_back w)

-- ── the id as an atom ──
pub id_atom_lem : (id : List ℕ) → length id ≡ 16 → all octet id ≡ true → id ++ drop 16 (replicate 25 0) ≡ uuid_atom (value id)
id_atom_lem id e h =
    ap (λ n. id ++ replicate {A = ℕ} (25 - n) 0) (sym e) ∙ ap pad (sym (big_value 16 id e h))

-- the elements of a column: as many atoms as its count says, of four
pub elements_min : (v : Value) {n : ℕ} {xs : List (List ℕ)} → xs ≡ v.atoms → length xs ≡ 4 → n ≡ min v.count 4 → (take n xs ≡ elements v) × (n ≡ length (take n xs)) × (n ≤ 4)
elements_min v {n} {xs} e l m = (
  ap (λ k. take k xs) m ∙ sym (take_min v.count 4 xs l) ∙ ap (take v.count) e,
  sym (length-take-le n xs (omega (arith, m, l))),
  omega (arith, m),
)

-- ── elements from i on ──
module _ (xs l : List (List ℕ)) (i : ℕ) where
  here : i < length l → drop i l ≡ get_or l i [] ∷ drop (i + 1) l
  here h = drop-cons l i [] h ∙ ap (λ k. get_or l i [] ∷ drop k l) (sym (add-one i))

module _ (q : List ℕ → Bool) (l : List (List ℕ)) (i : ℕ) where
  pub all_on : i < length l → q (get_or l i []) ≡ true → all q (drop i l) ≡ all q (drop (i + 1) l)
  all_on h e = ap (all q) (here [] l i h) ∙ ap (λ b. b && all q (drop (i + 1) l)) e

  pub all_end : length l ≤ i → all q (drop i l) ≡ true
  all_end h = ap (all q) (drop_of_length-le l {i = i} h)

-- ── each element stored, or none ──
pub every_list : (xs : List (List ℕ)) (stored : Bool) (l : List (List ℕ)) → list_all (λ (x : List ℕ). beq (member x xs) stored) l ≡ every stored xs l
unfolding every
every_list xs true [] = refl
every_list xs false [] = refl
every_list xs true (x ∷ l) = split (member x xs) (λ e. rw e (every_list xs true l)) (λ e. rw e)
every_list xs false (x ∷ l) = split (member x xs) (λ e. rw e) (λ e. rw e (every_list xs false l))
