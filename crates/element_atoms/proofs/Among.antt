-- A test of each element, from a place on. Assumes nothing.
use Rattle.std.specs.Prelude.{Option, Some, None}
use mathlib.Core.Path.{◌≡◌, refl, ap, ◌∙◌}
use mathlib.Core.Bool.{Bool, true, false, ◌||◌}
use mathlib.Core.List.{List, [], ◌∷◌}
use Prim.Native.Nat.{ℕ, ◌<◌}
use native.Mathlib.Omega.{arith}
use lib.ListN.{length, length-append}
use Rattle.model.specs.Octets.{eq_bytes}
use Rattle.model.specs.Base.{any, member}
use Rattle.model.specs.Json.{Json, null, bool, num, str, arr, obj}
use Rattle.inner.specs.Positions.{tree_at}
use Rattle.model.specs.Text.{is_word}
use Rattle.model.specs.Schema.{Base, text}
use Rattle.model.specs.Value.{blank, text_atom}
use Rattle.model.specs.Written.{Names}
use Rattle.octets.proofs.Orders.{eq_length}
use Rattle.elements.specs.Elements.{elements_from, next_element}
use Rattle.elements.proofs.Walk.{walk_rest, walk_end}
use Rattle.element_atoms.specs.Atoms.{cell_of, atom_as, atoms_of}
use Rattle.element_atoms.proofs.Reading.{text_eq}

-- a turn of a walk that looks for one
module _ (s : List ℕ) (set : Bool) (q : Json → Bool) {g : Option ℕ} where
  pub any_end : g ≡ None → any q (elements_from s set g) ≡ false
  any_end h = ap (any q) (walk_end s set h)

  module _ {p : ℕ} (h : g ≡ Some p) where
    any_by : {b : Bool} → q (tree_at s p) ≡ b → any q (elements_from s set g) ≡ (b || any q (elements_from s set (next_element s set p)))
    any_by t = ap (any q) (walk_rest s set h) ∙ ap (λ b. b || any q (elements_from s set (next_element s set p))) t

    pub any_here : q (tree_at s p) ≡ true → any q (elements_from s set g) ≡ true
    any_here t = any_by t

    pub any_on : q (tree_at s p) ≡ false → any q (elements_from s set g) ≡ any q (elements_from s set (next_element s set p))
    any_on t = any_by t

-- atoms among those of elements
pub member_any : (names : Names) (k : Base) (x : List ℕ) (js : List Json) → member x (atoms_of names k js) ≡ any (λ j. eq_bytes x (atom_as names k j)) js
unfolding atoms_of
member_any names k x [] = refl
member_any names k x (j ∷ js) = ap (λ b. eq_bytes x (atom_as names k j) || b) (member_any names k x js)

-- strings that are too long for an atom
module _ (names : Names) (w : List ℕ) (l : 24 < length w) where
  not_blank : eq_bytes (text_atom w) blank ≡ false
  not_blank = eq_length (text_atom w) blank (λ e. omega (arith, e, long_length))
    where
      long_length : 25 < length (text_atom w)
      long_length = simp length-append (omega arith)

  pub word_eq : (j : Json) → eq_bytes (text_atom w) (atom_as names text j) ≡ is_word w j
  unfolding atom_as cell_of is_word
  word_eq null = not_blank
  word_eq (bool b) = not_blank
  word_eq (num t) = not_blank
  word_eq (str t) = text_eq w t
  word_eq (arr xs) = not_blank
  word_eq (obj ms) = not_blank

  pub word_member : (js : List Json) → member (text_atom w) (atoms_of names text js) ≡ any (is_word w) js
  unfolding atoms_of
  word_member [] = refl
  word_member (j ∷ js) = ap (λ b. b || member (text_atom w) (atoms_of names text js)) (word_eq j) ∙ ap (λ b. is_word w j || b) (word_member js)
