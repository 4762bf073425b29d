-- All elements judged, one after another. Assumes nothing.
use Rattle.std.specs.Prelude.{Option, Some, None}
use mathlib.Core.Path.{◌≡◌, refl, sym, ap, ◌∙◌}
use mathlib.Core.Bool.{Bool, true, false, not, ◌&&◌, ◌||◌}
use mathlib.Core.List.{List, [], ◌∷◌, map}
use Prim.Native.Nat.{ℕ, ◌+◌, ◌≤◌}
use native.Mathlib.Omega.{arith}
use lib.IntN.{pos}
use lib.ListN.{length}
use borrow.Author.Tests.{lt-ltb}
use Rattle.model.specs.Base.{any, is_some, member, distinct}
use Rattle.model.specs.Json.{Json}
use Rattle.inner.specs.Positions.{tree_at}
use Rattle.model.specs.Text.{is_word, chars}
use Rattle.inner.specs.Positions.{word_in}
use Rattle.model.specs.Schema.{Base, integer, boolean, text, uuid, Column}
use Rattle.model.specs.Value.{blank, text_atom, in_limits, atom_in_limits, value_of}
use Rattle.model.specs.Written.{Names, atom_in, long_atom}
use Rattle.model.proofs.Tests.{clash}
use Rattle.model.proofs.Atoms.{text_of_text_atom}
use Rattle.atom.proofs.Cells.{and_assoc, and_true}
use Rattle.elements.specs.Elements.{elements_from, next_element}
use Rattle.elements.proofs.Walk.{walk_rest, walk_end}
use Rattle.uuids.proofs.Names.{some_string}
use Rattle.element_atoms.specs.declared.Atom.{Atom}
use Rattle.element_atoms.specs.declared.Atom.TheVariants.{Wrong, Long, Fits}
use Rattle.element_atoms.specs.Atoms.{atom_as, atoms_of, Reads}
use Rattle.element_atoms.proofs.Reading.{wrong_cell, fits_cell, long_cell}
use Rattle.element_atoms.proofs.Among.{word_member}
use Rattle.element_sets.specs.Tallies.{is_typed, all_typed, all_short, all_within, Sees, Tallied}

short_blank : (k : Base) → long_atom k blank ≡ false
short_blank integer = refl
short_blank boolean = refl
short_blank text = refl
short_blank uuid = refl

-- ── one element ──
-- the atom of an element that is not too long
pub reads_cell : (names : Names) (k : Base) (j : Json) (out : List ℕ) (r : Atom) → Reads names k j r out → long_atom k (atom_as names k j) ≡ false → atom_as names k j ≡ out
reads_cell names k j out Wrong p h = wrong_cell names j k out p
reads_cell names k j out Fits p h = fits_cell names j k out p
reads_cell names k j out Long p h =
    let q = long_cell names j k out p in
    absurd (clash (long_atom k (atom_as names k j)) (ap (long_atom k) q.0 ∙ ap (λ b. long_atom b (text_atom (word_in j))) q.2 ∙ lt-ltb 24 (length (word_in j)) q.1) h)

module _ (names : Names) (c : Column) (j : Json) (out : List ℕ) where
  pub sees_wrong : Reads names c.base j Wrong out → {w : Bool} → w ≡ atom_in_limits c c.base out → Sees names c j false true w out
  unfolding Reads is_typed
  sees_wrong p e =
      let q : atom_as names c.base j ≡ out = wrong_cell names j c.base out p in
      record {
        typed = sym (ap is_some p.0);
        short = sym (ap (λ a. not (long_atom c.base a)) (q ∙ p.1) ∙ ap not (short_blank c.base));
        within = e ∙ ap (atom_in_limits c c.base) (sym q);
        atom = reads_cell names c.base j out Wrong p;
      }

  pub sees_fits : Reads names c.base j Fits out → {w : Bool} → w ≡ atom_in_limits c c.base out → Sees names c j true true w out
  unfolding Reads is_typed
  sees_fits p e =
      let q : atom_as names c.base j ≡ out = fits_cell names j c.base out p in
      record {
        typed = sym (ap is_some p.0);
        short = sym (ap (λ a. not (long_atom c.base a)) q ∙ ap not p.1);
        within = e ∙ ap (atom_in_limits c c.base) (sym q);
        atom = reads_cell names c.base j out Fits p;
      }

  abbrev one_string : Option (List ℕ) → Option (List ℕ)
  one_string o = elim o [ None ↦ None | Some t ↦ Some (text_atom t) ]

  pub sees_long : Reads names c.base j Long out → {n : ℕ} → n ≡ chars (word_in j) → {w : Bool} → w ≡ in_limits c (pos n) → Sees names c j true false w out
  unfolding Reads is_typed
  sees_long p {n} m e =
      let q = long_cell names j c.base out p in
      let t = word_in j in
      record {
        typed = sym (ap (λ k. is_some (atom_in names k j)) p.0 ∙ ap (λ o. is_some (one_string o)) (some_string j p.1));
        short = sym (ap (λ k. not (long_atom k (atom_as names c.base j))) p.0 ∙ ap (λ a. not (long_atom text a)) q.0 ∙ ap not (lt-ltb 24 (length t) q.1));
        within = e ∙ ap (λ x. in_limits c (pos x)) (m ∙ ap chars (sym (text_of_text_atom t)))
            ∙ sym (ap (λ k. atom_in_limits c k (atom_as names c.base j)) p.0 ∙ ap (atom_in_limits c text) q.0);
        atom = reads_cell names c.base j out Long p;
      }

-- ── all of them ──
or_not : (a b : Bool) → not (a || b) ≡ (not a && not b)
or_not true b = refl
or_not false b = refl

pub record Counted (names : Names) (c : Column) (js rest : List Json) (n : ℕ) (t s w : Bool) : Type 0 where
  pub count : length js ≡ n + length rest
  pub typed : all_typed names c.base js ≡ (t && all_typed names c.base rest)
  pub short : all_short names c.base js ≡ (s && all_short names c.base rest)
  pub within : all_within names c js ≡ (w && all_within names c rest)

module _ (names : Names) (c : Column) (js : List Json) where
  pub counted_start : Counted names c js js 0 true true true
  counted_start = record { count = omega arith; typed = refl; short = refl; within = refl }

  module _ {rest : List Json} {n : ℕ} {t s w : Bool} (p : Counted names c js rest n t s w) where
    pub counted_end : rest ≡ [] → {atoms : List (List ℕ)} → (all_short names c.base js ≡ true → length js ≤ 4 → atoms ≡ (value_of (atoms_of names c.base js)).atoms) → Tallied names c js n t s w atoms
    unfolding all_typed all_short all_within atoms_of
    counted_end e g = record {
      count = omega (arith, p.count, ap length e);
      typed = sym (p.typed ∙ ap (λ l. t && all_typed names c.base l) e ∙ and_true t);
      short = sym (p.short ∙ ap (λ l. s && all_short names c.base l) e ∙ and_true s);
      within = sym (p.within ∙ ap (λ l. w && all_within names c l) e ∙ and_true w);
      gathered = g;
    }

    pub counted_on : {j : Json} {more : List Json} {a b d : Bool} {x : List ℕ} → rest ≡ j ∷ more → Sees names c j a b d x → Counted names c js more (n + 1) (t && a) (s && b) (w && d)
    unfolding all_typed all_short all_within atoms_of
    counted_on {j} {more} e q = record {
      count = omega (arith, p.count, ap length e);
      typed = p.typed ∙ ap (λ l. t && all_typed names c.base l) e ∙ and_assoc t (is_typed names c.base j) (all_typed names c.base more) ∙ ap (λ x. (t && x) && all_typed names c.base more) (sym q.typed);
      short = p.short ∙ ap (λ l. s && all_short names c.base l) e
          ∙ ap (λ x. s && x) (or_not (long_atom c.base (atom_as names c.base j)) (any (long_atom c.base) (atoms_of names c.base more)))
          ∙ and_assoc s (not (long_atom c.base (atom_as names c.base j))) (all_short names c.base more) ∙ ap (λ x. (s && x) && all_short names c.base more) (sym q.short);
      within = p.within ∙ ap (λ l. w && all_within names c l) e ∙ and_assoc w (atom_in_limits c c.base (atom_as names c.base j)) (all_within names c more) ∙ ap (λ x. (w && x) && all_within names c more) (sym q.within);
    }

-- ── different elements ──
module _ (names : Names) (k : Base) (j : Json) (out : List ℕ) (js : List Json) where
  pub again_long : Reads names k j Long out → member (atom_as names k j) (atoms_of names k js) ≡ any (is_word (word_in j)) js
  again_long p =
      let q = long_cell names j k out p in
      ap (λ a. member a (atoms_of names k js)) q.0 ∙ ap (λ b. member (text_atom (word_in j)) (atoms_of names b js)) q.2 ∙ word_member names (word_in j) q.1 js

module _ (names : Names) (k : Base) (s : List ℕ) (set : Bool) {g : Option ℕ} where
  pub distinct_end : g ≡ None → distinct (atoms_of names k (elements_from s set g)) ≡ true
  unfolding atoms_of
  distinct_end h = ap (λ l. distinct (map (atom_as names k) l)) (walk_end s set h)

  module _ {p : ℕ} (h : g ≡ Some p) where
    pub distinct_by : {b : Bool} → b ≡ member (atom_as names k (tree_at s p)) (atoms_of names k (elements_from s set (next_element s set p)))
        → distinct (atoms_of names k (elements_from s set g)) ≡ (not b && distinct (atoms_of names k (elements_from s set (next_element s set p))))
    unfolding atoms_of
    distinct_by e = ap (λ l. distinct (map (atom_as names k) l)) (walk_rest s set h)
        ∙ ap (λ b. not b && distinct (atoms_of names k (elements_from s set (next_element s set p)))) (sym e)
