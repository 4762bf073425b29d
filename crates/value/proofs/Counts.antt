-- How many elements a set has with some more. Assumes nothing.
use mathlib.Core.Path.{◌≡◌, refl, ap, ◌∙◌}
use mathlib.Core.Bool.{Bool, true, false, not, ◌||◌}
use mathlib.Core.List.{List, [], ◌∷◌, ◌++◌}
use Prim.Native.Nat.{ℕ, ◌+◌, ◌<◌}
use native.Mathlib.Numerals.{add-one}
use native.Mathlib.Omega.{arith}
use lib.ListN.{length, take, get_or}
use lib.Seq.{take-suc}
use mir.Val.{bool_byte}
use Rattle.model.specs.Octets.{eq_bytes}
use Rattle.std.specs.Prelude.{if◌then◌else◌}
use Rattle.model.specs.Base.{member}
use Rattle.model.specs.Schema.{Base}
use Rattle.model.specs.Value.{less_atom, placed, union}
use Rattle.model.proofs.Tests.{split, bytes_same}
use Rattle.model.proofs.Sets.{placed_length}

or_swap : (a b c : Bool) → (a || (b || c)) ≡ (b || (a || c))
or_swap true true c = refl
or_swap true false c = refl
or_swap false true c = refl
or_swap false false c = refl

or_move : (a b c : Bool) → ((a || b) || c) ≡ (b || (a || c))
or_move true true c = refl
or_move true false c = refl
or_move false true c = refl
or_move false false c = refl

module _ (k : Base) where
  member_placed : (a b : List ℕ) (l : List (List ℕ)) → member a (placed k b l) ≡ (eq_bytes a b || member a l)
  member_placed a b [] = refl
  member_placed a b (c ∷ l) = split (less_atom k b c) (λ e. rw e)
      (λ e. rw e (ap (λ (t : Bool). eq_bytes a c || t) (member_placed a b l) ∙ or_swap (eq_bytes a c) (eq_bytes a b) (member a l)))

  -- with one more
  abbrev more : List ℕ → List (List ℕ) → List (List ℕ)
  more a s = if member a s then s else placed k a s

  pub more_count : (a : List ℕ) (s : List (List ℕ)) → length (more a s) ≡ length s + (if member a s then 0 else 1)
  more_count a s = split (member a s) (λ e. rw e (omega arith)) (λ e. rw e (omega (arith, placed_length k a s)))

  member_more : (a b : List ℕ) (s : List (List ℕ)) (t : Bool) → (member a (more b s) || t) ≡ (member a s || (eq_bytes a b || t))
  member_more a b s t = split (member b s)
      (λ e. rw e (split (eq_bytes a b) (λ f. let m : member a s ≡ true = rw (bytes_same a b f) e in rw (f, m)) (λ f. rw f)))
      (λ e. rw (e, member_placed a b s) (or_move (eq_bytes a b) (member a s) t))

  member_union : (a : List ℕ) (s l : List (List ℕ)) → member a (union k s l) ≡ (member a s || member a l)
  member_union a s [] = or_none (member a s)
    where
      or_none : (b : Bool) → b ≡ (b || false)
      or_none true = refl
      or_none false = refl
  member_union a s (b ∷ l) = member_union a (more b s) l ∙ member_more a b s (member a l)

  union_snoc : (s l : List (List ℕ)) (a : List ℕ) → union k s (l ++ (a ∷ [])) ≡ more a (union k s l)
  union_snoc s [] a = refl
  union_snoc s (b ∷ l) a = union_snoc (more b s) l a

  -- one more of the list counted
  pub union_on : (s l : List (List ℕ)) (i : ℕ) → i < length l
      → length (union k s (take (i + 1) l)) ≡ length (union k s (take i l)) + (if (member (get_or l i []) s || member (get_or l i []) (take i l)) then 0 else 1)
  union_on s l i h =
      ap (λ (n : ℕ). length (union k s (take n l))) (add-one i)
      ∙ ap (λ (m : List (List ℕ)). length (union k s m)) (take-suc l i [] h)
      ∙ ap length (union_snoc s (take i l) (get_or l i []))
      ∙ more_count (get_or l i []) (union k s (take i l))
      ∙ ap (λ (b : Bool). length (union k s (take i l)) + (if b then 0 else 1)) (member_union (get_or l i []) s (take i l))

pub one_byte : (b : Bool) → bool_byte (not b) ≡ (if b then 0 else 1)
one_byte true = refl
one_byte false = refl
