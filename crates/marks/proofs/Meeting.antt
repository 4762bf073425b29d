-- Marks narrowed by one test after another, and what a condition says of a row in cells. Assumes nothing.
use mathlib.Core.Path.{◌≡◌, refl, sym, ap, ◌∙◌}
use mathlib.Core.Bool.{Bool, true, false, ◌&&◌}
use mathlib.Core.List.{List, [], ◌∷◌}
use Prim.Native.Nat.{ℕ, ◌≤◌, ◌<◌}
use lib.Dec.{eqb}
use lib.ListN.{length, get_or}
use borrow.Author.Tests.{eqb-true}
use Rattle.model.specs.Octets.{eq_bytes}
use Rattle.model.specs.Limits.{atom_bytes}
use Rattle.model.specs.Base.{all, member}
use Rattle.model.specs.Schema.{Base}
use Rattle.model.specs.Conditions.{compare}
use Rattle.model.specs.declared.Function.{Function}
use Rattle.model.specs.declared.Function.TheVariants.{Less, AtMost, Equal, Unequal, AtLeast, Greater, Includes, Excludes}
use Rattle.model.proofs.Tests.{split, and_l, and_r, bytes_same}
use Rattle.marks.specs.Marks.{every, met, kept_as, Narrowed}
use Rattle.marks.proofs.Atoms.{and_true}

-- ── tests one after another: p is what all of them say, q what those say that are left ──
pub record Left (p q : List (List ℕ) → Bool) (rows : List (List (List ℕ))) (before now : List Bool) : Type 0 where
  pub size : length now ≡ length before
  pub here : (i : ℕ) → i < length rows → (get_or before i false && p (get_or rows i [])) ≡ (get_or now i false && q (get_or rows i []))
  pub beyond : (i : ℕ) → length rows ≤ i → get_or now i false ≡ get_or before i false
  pub sound : (i : ℕ) → i < length rows → get_or now i false ≡ true → get_or before i false ≡ true

pub three : (a t q r : Bool) → (a ≡ true → q ≡ (t && r)) → (a && q) ≡ ((a && t) && r)
three true t q r h = h refl
three false t q r h = refl

pub left_none : (p : List (List ℕ) → Bool) (rows : List (List (List ℕ))) (before : List Bool) → Left p p rows before before
left_none p rows before = record { size = refl; here = λ i h. refl; beyond = λ i h. refl; sound = λ i h e. e }

module _ (p q : List (List ℕ) → Bool) (rows : List (List (List ℕ))) (before : List Bool) where
  module _ {now : List Bool} (g : Left p q rows before now) where
    pub left_on : {next : List Bool} (t r : List (List ℕ) → Bool) → Narrowed t rows now next
        → ((i : ℕ) → i < length rows → get_or now i false ≡ true → q (get_or rows i []) ≡ (t (get_or rows i []) && r (get_or rows i [])))
        → Left p r rows before next
    left_on t r n h = record {
      size = n.size ∙ g.size;
      here = λ i l.
          g.here i l ∙ three (get_or now i false) (t (get_or rows i [])) (q (get_or rows i [])) (r (get_or rows i [])) (h i l)
          ∙ ap (λ b. b && r (get_or rows i [])) (sym (n.here i l));
      beyond = λ i l. n.beyond i l ∙ g.beyond i l;
      sound = λ i l e. g.sound i l (and_l (get_or now i false) (t (get_or rows i [])) (sym (n.here i l) ∙ e));
    }

    pub left_end : ((row : List (List ℕ)) → q row ≡ true) → Narrowed p rows before now
    left_end h = record {
      size = g.size;
      here = λ i l. sym (g.here i l ∙ ap (λ b. get_or now i false && b) (h (get_or rows i [])) ∙ and_true (get_or now i false));
      beyond = g.beyond;
    }

-- marks that are narrowed by what comes to the same
pub narrowed_as : {p q : List (List ℕ) → Bool} {rows : List (List (List ℕ))} {before after : List Bool} → ((row : List (List ℕ)) → p row ≡ q row) → Narrowed p rows before after → Narrowed q rows before after
narrowed_as {p} {q} {rows} {before} h n = record { size = n.size; here = λ i l. n.here i l ∙ ap (λ b. get_or before i false && b) (h (get_or rows i [])); beyond = n.beyond }

-- ── what a function says ──
pub met_kept : (f : Function) (k : Base) (xs l : List (List ℕ)) → met f xs (kept_as f k l) ≡ compare f k xs l
unfolding met kept_as every
met_kept Less k xs l = refl
met_kept AtMost k xs l = refl
met_kept Equal k xs l = refl
met_kept Unequal k xs l = refl
met_kept AtLeast k xs l = refl
met_kept Greater k xs l = refl
met_kept Includes k xs l = refl
met_kept Excludes k xs l = refl

-- an atom of another length is not among those of 25 bytes
pub other_length : (a : List ℕ) (xs : List (List ℕ)) → (length a ≡ atom_bytes → ⊥) → all (λ (x : List ℕ). eqb (length x) atom_bytes) xs ≡ true → member a xs ≡ false
other_length a [] h s = refl
other_length a (x ∷ xs) h s =
    split (eq_bytes a x)
    (λ e. absurd (h (ap length (bytes_same a x e) ∙ eqb-true (length x) atom_bytes (and_l (eqb (length x) atom_bytes) (all (λ (x : List ℕ). eqb (length x) atom_bytes) xs) s))))
    (λ e. rw e (other_length a xs h (and_r (eqb (length x) atom_bytes) (all (λ (x : List ℕ). eqb (length x) atom_bytes) xs) s)))
