-- The elements of a condition as they are kept, and those that no column can have. Assumes nothing.
use mathlib.Core.Path.{◌≡◌, refl, sym, ap, ◌∙◌}
use mathlib.Core.Bool.{Bool, true, false, not, ◌&&◌}
use mathlib.Core.List.{List, [], ◌∷◌}
use mathlib.Core.Logic.{◌⊎◌, inl, inr}
use Prim.Native.Nat.{ℕ, ◌-◌}
use native.Mathlib.Omega.{arith}
use lib.Dec.{eqb, leb, ltb}
use lib.ListN.{length, take, replicate, length-append, length-replicate}
use lib.Seq.{take-append_seam}
use borrow.Author.Tests.{eqb-true, le-leb, ltb-true}
use Rattle.model.specs.Limits.{atom_bytes, most_text_bytes}
use Rattle.model.specs.Octets.{eq_bytes}
use Rattle.std.specs.Prelude.{if◌then◌else◌, Option, Some, None}
use Rattle.model.specs.Base.{any, all, member, distinct, eq_lists}
use Rattle.model.specs.Json.{Json}
use Rattle.model.specs.Schema.{Base, integer, boolean, text, uuid, Column, scalar}
use Rattle.model.specs.Value.{blank, text_atom, less_atom, placed, sorted, value_of}
use Rattle.model.specs.Faults.{is_fine}
use Rattle.model.specs.Written.{Names, string_in, elements_in, long_atom, set_count, test_fault, written}
use Rattle.model.specs.Conditions.{orders}
use Rattle.model.specs.declared.Fault.TheVariants.{Fine, Constraint}
use Rattle.model.specs.declared.Function.{Function}
use Rattle.model.specs.declared.Function.TheVariants.{Less, AtMost, Equal, Unequal, AtLeast, Greater, Includes, Excludes}
use Rattle.model.proofs.Tests.{split, clash, lists_same, bytes_self, and_l, and_r}
use Rattle.model.proofs.Sets.{sorted_length}
use Rattle.model.proofs.FaultLaws.{check_fine}
use Rattle.element_atoms.specs.declared.Atom.TheVariants.{Long}
use Rattle.element_atoms.specs.Atoms.{cell_of, atom_as, atoms_of, Reads}
use Rattle.element_atoms.proofs.Reading.{long_other}
use Rattle.request_values.specs.Values.{atoms_as}
use Rattle.request_values.proofs.Fits.{fine_judged}
use Rattle.marks.specs.Marks.{every, met, kept_as, Sized}
use Rattle.marks.proofs.Meeting.{other_length}
use Rattle.conditions.specs.Tests.{fits, storing}

-- ── as they are kept ──
module _ (n : ℕ) (l : List (List ℕ)) (m : n ≡ length l) where
  front : {a : List (List ℕ)} → a ≡ (value_of l).atoms → take n a ≡ l
  front {a} e = ap (λ x. take x a) m ∙ ap (take (length l)) e ∙ take-append_seam l (replicate (4 - length l) blank)

  pub kept_plain : {a : List (List ℕ)} → a ≡ (value_of l).atoms → take n a ≡ l
  kept_plain e = front e

  pub kept_sorted : (k : Base) {a b : List (List ℕ)} → a ≡ (value_of l).atoms → b ≡ (value_of (sorted k (take n a))).atoms → take n b ≡ sorted k l
  kept_sorted k {a} {b} e f =
      let q : n ≡ length (sorted k l) = m ∙ sym (sorted_length k l) in
      ap (take n) (f ∙ ap (λ x. (value_of (sorted k x)).atoms) (front e)) ∙ ap (λ x. take x (value_of (sorted k l)).atoms) q ∙ take-append_seam (sorted k l) (replicate (4 - length (sorted k l)) blank)

pub kept_other : (f : Function) (k : Base) (l : List (List ℕ)) → (f ≡ Equal → ⊥) → (f ≡ Unequal → ⊥) → l ≡ kept_as f k l
unfolding kept_as
kept_other Less k l g h = refl
kept_other AtMost k l g h = refl
kept_other Equal k l g h = absurd (g refl)
kept_other Unequal k l g h = absurd (h refl)
kept_other AtLeast k l g h = refl
kept_other Greater k l g h = refl
kept_other Includes k l g h = refl
kept_other Excludes k l g h = refl

-- the functions of order
pub ordered : {f : Function} → (f ≡ Less) ⊎ ((f ≡ AtMost) ⊎ ((f ≡ AtLeast) ⊎ (f ≡ Greater))) → orders f ≡ true
ordered (inl e) = ap orders e
ordered (inr (inl e)) = ap orders e
ordered (inr (inr (inl e))) = ap orders e
ordered (inr (inr (inr e))) = ap orders e

-- ── what is true of sorted elements is true of all ──
module _ (k : Base) (q : List ℕ → Bool) where
  placed_all : (a : List ℕ) (l : List (List ℕ)) → all q (placed k a l) ≡ true → (q a ≡ true) × (all q l ≡ true)
  placed_all a [] h = (and_l (q a) true h, refl)
  placed_all a (b ∷ l) h = split (less_atom k a b)
      (λ e. let p : (q a && all q (b ∷ l)) ≡ true = rw e at h in (and_l (q a) (all q (b ∷ l)) p, and_r (q a) (all q (b ∷ l)) p))
      (λ e.
      let p : (q b && all q (placed k a l)) ≡ true = rw e at h in
      let r = placed_all a l (and_r (q b) (all q (placed k a l)) p) in
      (r.0, rw (and_l (q b) (all q (placed k a l)) p) r.1))

  all_sorted : (l : List (List ℕ)) → all q (sorted k l) ≡ true → all q l ≡ true
  all_sorted [] h = refl
  all_sorted (a ∷ l) h = let p = placed_all a (sorted k l) h in rw p.0 (all_sorted l p.1)

-- ── a string above 24 bytes has more than an atom's ──
abbrev sized : List ℕ → Bool
sized x = eqb (length x) atom_bytes

text_long : (o : Option (List ℕ)) → length (cell_of (elim o [ None ↦ None | Some t ↦ Some (text_atom t) ])) ≡ atom_bytes → long_atom text (cell_of (elim o [ None ↦ None | Some t ↦ Some (text_atom t) ])) ≡ false
unfolding cell_of
text_long None h = refl
text_long (Some t) h = split (ltb most_text_bytes (length t)) (λ e. absurd (let z = ltb-true most_text_bytes (length t) e in omega (arith, h, z, length-append (length t ∷ t) (replicate (25 - length (length t ∷ t)) 0), length-replicate {A = ℕ} (25 - length (length t ∷ t)) 0))) (λ e. e)

sized_short : (names : Names) (k : Base) (j : Json) → sized (atom_as names k j) ≡ true → long_atom k (atom_as names k j) ≡ false
unfolding atom_as
sized_short names integer j h = refl
sized_short names boolean j h = refl
sized_short names text j h = text_long (string_in j) (eqb-true (length (atom_as names text j)) atom_bytes h)
sized_short names uuid j h = refl

all_short : (names : Names) (k : Base) (js : List Json) → all sized (atoms_of names k js) ≡ true → any (long_atom k) (atoms_of names k js) ≡ false
unfolding atoms_of
all_short names k [] h = refl
all_short names k (j ∷ js) h =
    rw (sized_short names k j (and_l (sized (atom_as names k j)) (all sized (atoms_of names k js)) h)) (all_short names k js (and_r (sized (atom_as names k j)) (all sized (atoms_of names k js)) h))

module _ (names : Names) (k : Base) (j : Json) (xs : List (List ℕ)) (s : Sized xs) where
  pub unequal : fits k (atoms_as names k j) ≡ false → eq_lists xs (sorted k (atoms_as names k j)) ≡ false
  unfolding fits atoms_as
  unequal u =
      let l = atoms_as names k j in
      split (eq_lists xs (sorted k l))
      (λ e.
      let p : xs ≡ sorted k l = lists_same xs (sorted k l) e in
      let n : leb (length l) 4 ≡ true = le-leb (length l) 4 (omega (arith, s.few, ap length p, sorted_length k l)) in
      let q : any (long_atom k) l ≡ false = all_short names k (elements_in j) (all_sorted k sized l (ap (all sized) (sym p) ∙ s.bytes)) in
      absurd (clash (leb (length l) 4 && not (any (long_atom k) l)) (ap (λ b. b && not (any (long_atom k) l)) n ∙ ap not q) u))
      (λ e. e)

  not_stored : (stored : Bool) (a : List ℕ) → member a xs ≡ false → every stored xs (a ∷ []) ≡ not stored
  unfolding every
  not_stored true a z = rw z
  not_stored false a z = rw z

  -- one that is read as such is not stored
  pub long_stored : (stored : Bool) (out : List ℕ) → Reads names k j Long out → every stored xs (atom_as names k j ∷ []) ≡ not stored
  long_stored stored out r =
      let a = atom_as names k j in
      not_stored stored a (other_length a xs (λ h. clash (eq_bytes a a) (bytes_self a) (long_other names j k out r a h)) s.bytes)

-- ── a function of order has one integer ──
one_fits : (l : List (List ℕ)) → length l ≡ 1 → fits integer l ≡ true
unfolding fits
one_fits [] h = absurd (omega (arith, h))
one_fits (a ∷ []) h = refl
one_fits (a ∷ b ∷ l) h = absurd (omega (arith, h))

module _ (names : Names) (c : Column) (f : Function) (j : Json) where
  pub order_fits : orders f ≡ true → c.base ≡ integer → scalar c ≡ true → is_fine (written names c.base (test_fault c f) j).fault ≡ true → fits c.base (atoms_as names c.base j) ≡ true
  order_fits o b s h =
      let l = atoms_as names c.base j in
      let n = if scalar c then eqb (length l) 1 else set_count c f (length l) in
      let e : (distinct l && n) ≡ true = (check_fine (distinct l && n) Constraint Fine refl (fine_judged names c.base (test_fault c f) j h)).0 in
      let m : eqb (length l) 1 ≡ true = rw s at (and_r (distinct l) n e) in
      ap (λ k. fits k l) b ∙ one_fits l (eqb-true (length l) 1 m)

-- ── elements one after another ──
pub stored_met : (stored : Bool) (xs l : List (List ℕ)) → met (storing stored) xs l ≡ every stored xs l
unfolding met storing
stored_met true xs l = refl
stored_met false xs l = refl

pub every_cons : (stored : Bool) (xs : List (List ℕ)) (a : List ℕ) (l : List (List ℕ)) → every stored xs (a ∷ l) ≡ (every stored xs (a ∷ []) && every stored xs l)
unfolding every
every_cons true xs a l = split (member a xs) (λ e. rw e) (λ e. rw e)
every_cons false xs a l = split (member a xs) (λ e. rw e) (λ e. rw e)

pub every_none : (stored : Bool) (xs : List (List ℕ)) → every stored xs [] ≡ true
unfolding every
every_none true xs = refl
every_none false xs = refl
