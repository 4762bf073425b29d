-- Sets of atoms: sorted, with some more, without some. Assumes nothing.
use mathlib.Core.Path.{◌≡◌, refl, ◌∙◌, ap}
use mathlib.Core.Bool.{Bool, true, false, not}
use mathlib.Core.List.{List, [], ◌∷◌}
use Prim.Native.Nat.{ℕ, zero, suc, ◌≤◌}
use native.Mathlib.Omega.{arith}
use borrow.Author.Tests.{not-true}
use lib.ListN.{length, take}
use Rattle.model.specs.Octets.{eq_bytes}
use Rattle.std.specs.Prelude.{if◌then◌else◌}
use Rattle.model.specs.Base.{all, keep, member, distinct}
use Rattle.model.specs.Schema.{Base}
use Rattle.model.specs.Value.{less_atom, ascending, placed, sorted, well_atom, byte_atom, union, without}
use Rattle.model.proofs.Tests.{split, clash, and_l, and_r, or_l, or_r, bytes_same}
use Rattle.model.proofs.Lists.{all_head, all_tail, all_cons, all_take, all_keep, all_imply, length_keep}
use Rattle.model.proofs.AtomOrder.{less_irrefl, less_trans, less_other}

-- atoms of 25 bytes that are well formed for a type
pub record AtomsOf (k : Base) (l : List (List ℕ)) : Type 0 where
  pub bytes : all byte_atom l ≡ true
  pub well : all (well_atom k) l ≡ true

pub atoms_none : (k : Base) → AtomsOf k []
atoms_none k = record { bytes = refl; well = refl }

pub atoms_cons : (k : Base) (a : List ℕ) (l : List (List ℕ)) → byte_atom a ≡ true → well_atom k a ≡ true → AtomsOf k l → AtomsOf k (a ∷ l)
atoms_cons k a l b w x = record { bytes = all_cons byte_atom a l b x.bytes; well = all_cons (well_atom k) a l w x.well }

pub atoms_tail : (k : Base) (a : List ℕ) (l : List (List ℕ)) → AtomsOf k (a ∷ l) → AtomsOf k l
atoms_tail k a l x = record { bytes = all_tail byte_atom a l x.bytes; well = all_tail (well_atom k) a l x.well }

pub atoms_take : (k : Base) (n : ℕ) (l : List (List ℕ)) → AtomsOf k l → AtomsOf k (take n l)
atoms_take k n l x = record { bytes = all_take byte_atom n l x.bytes; well = all_take (well_atom k) n l x.well }

pub atoms_keep : (k : Base) (p : List ℕ → Bool) (l : List (List ℕ)) → AtomsOf k l → AtomsOf k (keep p l)
atoms_keep k p l x = record { bytes = all_keep byte_atom p l x.bytes; well = all_keep (well_atom k) p l x.well }

-- ── an ascending list, its parts, and the order's ends ──
module _ (k : Base) where
  -- what an atom is less than
  abbrev above : List ℕ → List ℕ → Bool
  above a b = less_atom k a b

  pub ascending_head : (a : List ℕ) (l : List (List ℕ)) → ascending k (a ∷ l) ≡ true → all (λ (b : List ℕ). less_atom k a b) l ≡ true
  ascending_head a l h = and_l (all (above a) l) (ascending k l) h

  pub ascending_tail : (a : List ℕ) (l : List (List ℕ)) → ascending k (a ∷ l) ≡ true → ascending k l ≡ true
  ascending_tail a l h = and_r (all (above a) l) (ascending k l) h

  ascending_cons : (a : List ℕ) (l : List (List ℕ)) → all (above a) l ≡ true → ascending k l ≡ true → ascending k (a ∷ l) ≡ true
  ascending_cons a l h g = rw (h, g)

  pub ascending_take : (n : ℕ) (l : List (List ℕ)) → ascending k l ≡ true → ascending k (take n l) ≡ true
  ascending_take zero [] h = refl
  ascending_take zero (a ∷ l) h = refl
  ascending_take (suc n) [] h = refl
  ascending_take (suc n) (a ∷ l) h = ascending_cons a (take n l) (all_take (above a) n l (ascending_head a l h)) (ascending_take n l (ascending_tail a l h))

  pub ascending_keep : (p : List ℕ → Bool) (l : List (List ℕ)) → ascending k l ≡ true → ascending k (keep p l) ≡ true
  ascending_keep p [] h = refl
  ascending_keep p (a ∷ l) h = split (p a)
      (λ e. rw e (ascending_cons a (keep p l) (all_keep (above a) p l (ascending_head a l h)) (ascending_keep p l (ascending_tail a l h))))
      (λ e. rw e (ascending_keep p l (ascending_tail a l h)))

  above_member : (a : List ℕ) (l : List (List ℕ)) → all (above a) l ≡ true → member a l ≡ false
  above_member a [] h = refl
  above_member a (b ∷ l) h = split (eq_bytes a b)
      (λ e. absurd (clash (less_atom k a b) (all_head (above a) b l h) (rw (← (bytes_same a b e)) (less_irrefl k a))))
      (λ e. rw e (above_member a l (all_tail (above a) b l h)))

  -- elements in order are all different
  pub ascending_distinct : (l : List (List ℕ)) → ascending k l ≡ true → distinct l ≡ true
  ascending_distinct [] h = refl
  ascending_distinct (a ∷ l) h = rw (above_member a l (ascending_head a l h)) (ascending_distinct l (ascending_tail a l h))

  -- ── one atom more, in its place ──
  pub placed_all : (q : List ℕ → Bool) (a : List ℕ) (l : List (List ℕ)) → q a ≡ true → all q l ≡ true → all q (placed k a l) ≡ true
  placed_all q a [] h g = rw h
  placed_all q a (b ∷ l) h g = split (less_atom k a b)
      (λ e. rw e (all_cons q a (b ∷ l) h g))
      (λ e. rw e (all_cons q b (placed k a l) (all_head q b l g) (placed_all q a l h (all_tail q b l g))))

  pub placed_length : (a : List ℕ) (l : List (List ℕ)) → length (placed k a l) ≡ suc (length l)
  placed_length a [] = refl
  placed_length a (b ∷ l) = split (less_atom k a b) (λ e. rw e) (λ e. rw e (ap suc (placed_length a l)))

  placed_member : (a b : List ℕ) (l : List (List ℕ)) → eq_bytes a b ≡ false → member a l ≡ false → member a (placed k b l) ≡ false
  placed_member a b [] h m = rw h
  placed_member a b (c ∷ l) h m = split (less_atom k b c)
      (λ e. rw (e, h) m)
      (λ e. rw (e, or_l (eq_bytes a c) (member a l) m) (placed_member a b l h (or_r (eq_bytes a c) (member a l) m)))

  above_all : (a b : List ℕ) (l : List (List ℕ)) → less_atom k a b ≡ true → all (above b) l ≡ true → all (above a) l ≡ true
  above_all a b l h g = all_imply (above b) (above a) (λ c q. less_trans k a b c h q) l g

  pub placed_atoms : (a : List ℕ) (l : List (List ℕ)) → byte_atom a ≡ true → well_atom k a ≡ true → AtomsOf k l → AtomsOf k (placed k a l)
  placed_atoms a l b w x = record { bytes = placed_all byte_atom a l b x.bytes; well = placed_all (well_atom k) a l w x.well }

  pub placed_ascending : (a : List ℕ) (l : List (List ℕ)) → byte_atom a ≡ true → well_atom k a ≡ true → AtomsOf k l → member a l ≡ false
      → ascending k l ≡ true → ascending k (placed k a l) ≡ true
  placed_ascending a [] x w y m h = refl
  placed_ascending a (b ∷ l) x w y m h = split (less_atom k a b)
      (λ e. rw e (ascending_cons a (b ∷ l) (all_cons (above a) b l e (above_all a b l e (ascending_head b l h))) h))
      (λ e.
      let g : less_atom k b a ≡ true =
      less_other k a b x (all_head byte_atom b l y.bytes) w (all_head (well_atom k) b l y.well) (or_l (eq_bytes a b) (member a l) m) e in
      rw e (ascending_cons b (placed k a l) (placed_all (above b) a l g (ascending_head b l h))
      (placed_ascending a l x w (atoms_tail k b l y) (or_r (eq_bytes a b) (member a l) m) (ascending_tail b l h))))

  -- ── sorted ──
  pub sorted_length : (l : List (List ℕ)) → length (sorted k l) ≡ length l
  sorted_length [] = refl
  sorted_length (a ∷ l) = placed_length a (sorted k l) ∙ ap suc (sorted_length l)

  pub sorted_all : (q : List ℕ → Bool) (l : List (List ℕ)) → all q l ≡ true → all q (sorted k l) ≡ true
  sorted_all q [] h = refl
  sorted_all q (a ∷ l) h = placed_all q a (sorted k l) (all_head q a l h) (sorted_all q l (all_tail q a l h))

  pub sorted_atoms : (l : List (List ℕ)) → AtomsOf k l → AtomsOf k (sorted k l)
  sorted_atoms l x = record { bytes = sorted_all byte_atom l x.bytes; well = sorted_all (well_atom k) l x.well }

  pub sorted_member : (a : List ℕ) (l : List (List ℕ)) → member a l ≡ false → member a (sorted k l) ≡ false
  sorted_member a [] m = refl
  sorted_member a (b ∷ l) m = placed_member a b (sorted k l) (or_l (eq_bytes a b) (member a l) m) (sorted_member a l (or_r (eq_bytes a b) (member a l) m))

  pub sorted_ascending : (l : List (List ℕ)) → AtomsOf k l → distinct l ≡ true → ascending k (sorted k l) ≡ true
  sorted_ascending [] x d = refl
  sorted_ascending (a ∷ l) x d =
      let m : member a l ≡ false = not-true (member a l) (and_l (not (member a l)) (distinct l) d) in
      placed_ascending a (sorted k l) (all_head byte_atom a l x.bytes) (all_head (well_atom k) a l x.well) (sorted_atoms l (atoms_tail k a l x))
      (sorted_member a l m) (sorted_ascending l (atoms_tail k a l x) (and_r (not (member a l)) (distinct l) d))

  -- ── with some more ──
  pub union_all : (q : List ℕ → Bool) (s l : List (List ℕ)) → all q s ≡ true → all q l ≡ true → all q (union k s l) ≡ true
  union_all q s [] h g = h
  union_all q s (a ∷ l) h g = union_all q (if member a s then s else placed k a s) l one (all_tail q a l g)
    where
      one : all q (if member a s then s else placed k a s) ≡ true
      one = split (member a s) (λ e. rw e h) (λ e. rw e (placed_all q a s (all_head q a l g) h))

  pub union_atoms : (s l : List (List ℕ)) → AtomsOf k s → AtomsOf k l → AtomsOf k (union k s l)
  union_atoms s l x y = record { bytes = union_all byte_atom s l x.bytes y.bytes; well = union_all (well_atom k) s l x.well y.well }

  pub union_ascending : (s l : List (List ℕ)) → AtomsOf k s → AtomsOf k l → ascending k s ≡ true → ascending k (union k s l) ≡ true
  union_ascending s [] x y h = h
  union_ascending s (a ∷ l) x y h = split (member a s)
      (λ e. rw e (union_ascending s l x (atoms_tail k a l y) h))
      (λ e.
      let b = all_head byte_atom a l y.bytes in
      let w = all_head (well_atom k) a l y.well in
      rw e (union_ascending (placed k a s) l (placed_atoms a s b w x) (atoms_tail k a l y) (placed_ascending a s b w x e h)))

  pub union_length : (s l : List (List ℕ)) → length s ≤ length (union k s l)
  union_length s [] = omega arith
  union_length s (a ∷ l) = split (member a s) (λ e. rw e (union_length s l)) (λ e. rw e (omega (arith, union_length (placed k a s) l, placed_length a s)))

  -- ── without some ──
  pub without_atoms : (l s : List (List ℕ)) → AtomsOf k s → AtomsOf k (without l s)
  without_atoms l s x = atoms_keep k (λ (a : List ℕ). not (member a l)) s x

  pub without_ascending : (l s : List (List ℕ)) → ascending k s ≡ true → ascending k (without l s) ≡ true
  without_ascending l s h = ascending_keep (λ (a : List ℕ). not (member a l)) s h

pub without_length : (l s : List (List ℕ)) → length (without l s) ≤ length s
without_length l s = length_keep (λ (a : List ℕ). not (member a l)) s
