-- Names that are ids are short, and a short name is what its cell holds. Assumes nothing.
use Rattle.std.specs.Prelude.{Option, Some, None}
use mathlib.Core.Path.{◌≡◌, refl, sym, ap, ◌∙◌}
use mathlib.Core.List.{List, [], ◌∷◌}
use mathlib.Core.Bool.{true, false, not, ◌&&◌}
use Prim.Native.Nat.{ℕ, suc, ◌-◌}
use lib.Dec.{leb}
use lib.ListN.{length, replicate}
use lib.Seq.{take-append_seam}
use Rattle.model.specs.Octets.{eq_bytes}
use Rattle.model.specs.Base.{all, ascii}
use Rattle.model.specs.Json.{Json, null, bool, num, str, arr, obj, Named}
use Rattle.inner.specs.Positions.{tree_at, well_at, is_true}
use Rattle.model.specs.Nav.{kind_of, is_text, text_in}
use Rattle.model.specs.Members.{members_in, has_member, member_value}
use Rattle.inner.specs.Positions.{Means}
use Rattle.inner.specs.Positions.{word_in}
use Rattle.model.specs.Value.{text_of}
use Rattle.model.specs.SchemaText.{names, is_letter, is_id_byte, is_id, truth_or, is_lasting, is_indexed, parts_tests, columns_fit, column_fits}
use Rattle.model.proofs.Tests.{split, clash, and_l, and_r, parts, bytes_same}
use Rattle.model.proofs.SchemaLaws.{value_missing}
use Rattle.names.specs.Names.{short_cell, name_cell}

-- a string, and what it says
pub string_text : (j : Json) → is_text (kind_of j) ≡ true → word_in j ≡ text_in j
unfolding kind_of word_in text_in
string_text null h = refl
string_text (bool b) h = refl
string_text (num t) h = absurd (clash false h refl)
string_text (str t) h = refl
string_text (arr xs) h = refl
string_text (obj ms) h = refl

-- the text in the cell of a name
pub cell_short : (t : List ℕ) → leb (length t) 24 ≡ true → text_of (short_cell t) ≡ t
unfolding short_cell
cell_short t h = rw (short_cell, h) (take-append_seam t (replicate (25 - suc (length t)) 0))

pub cell_long : (t : List ℕ) → leb (length t) 24 ≡ false → text_of (short_cell t) ≡ []
unfolding short_cell
cell_long t h = rw (short_cell, h)

-- an id is short, and the empty name is none
pub id_short : (t : List ℕ) → is_id t ≡ true → leb (length t) 24 ≡ true
unfolding is_id
id_short [] h = refl
id_short (b ∷ t) h = and_r (is_letter b && all is_id_byte t) _ h

pub has_id_lem : (w : List ℕ) (ms : List Named) → all is_id (names ms) ≡ true → has_member w ms ≡ true → is_id w ≡ true
unfolding has_member
has_id_lem w [] a h = absurd (clash false h refl)
has_id_lem w (m ∷ ms) a h =
    split
    (eq_bytes m.name w)
    (λ e. rw (bytes_same m.name w e) at (and_l (is_id m.name) _ a))
    (λ e. has_id_lem w ms (and_r (is_id m.name) _ a) (rw (has_member, e) at h))

-- what is looked up by the text in a name's cell is what is looked up by the name
module _ (ms : List Named) (ids : all is_id (names ms) ≡ true) where
  pub has_cell : (t : List ℕ) → has_member (text_of (short_cell t)) ms ≡ has_member t ms
  unfolding is_id
  has_cell t =
      split (leb (length t) 24) (λ e. ap (λ (w : List ℕ). has_member w ms) (cell_short t e))
      (λ e.
      let none_here : has_member [] ms ≡ false = split (has_member [] ms) (λ h. absurd (clash false (has_id_lem [] ms ids h) refl)) (λ h. h) in
      let none_there : has_member t ms ≡ false = split (has_member t ms) (λ h. absurd (clash _ (id_short t (has_id_lem t ms ids h)) e)) (λ h. h) in
      ap (λ (w : List ℕ). has_member w ms) (cell_long t e) ∙ none_here ∙ sym none_there)

  pub value_cell : (t : List ℕ) → has_member t ms ≡ true → member_value (text_of (short_cell t)) ms ≡ member_value t ms
  value_cell t h = ap (λ (w : List ℕ). member_value w ms) (cell_short t (id_short t (has_id_lem t ms ids h)))

truth_true : (j : Json) → truth_or false j ≡ is_true j
unfolding truth_or is_true
truth_true null = refl
truth_true (bool b) = refl
truth_true (num t) = refl
truth_true (str t) = refl
truth_true (arr xs) = refl
truth_true (obj ms) = refl

-- a column that has the member, and one that has it not
module _ (s : List ℕ) (j : Json) where
  pub lasting_at : {f : Option ℕ} {v : ℕ} → Means s f (has_member (ascii "ephemeral") (members_in j)) (member_value (ascii "ephemeral") (members_in j)) → f ≡ Some v → not (is_true (tree_at s v)) ≡ is_lasting j
  unfolding Means is_lasting
  lasting_at {f} {v} m e =
      let k : Means s (Some v) (has_member (ascii "ephemeral") (members_in j)) (member_value (ascii "ephemeral") (members_in j)) = rw e at m in
      ap not (sym (truth_true (tree_at s v)) ∙ ap (truth_or false) (sym k.1))

  pub lasting_none : {f : Option ℕ} → Means s f (has_member (ascii "ephemeral") (members_in j)) (member_value (ascii "ephemeral") (members_in j)) → f ≡ None → true ≡ is_lasting j
  unfolding Means is_lasting member_value truth_or
  lasting_none {f} m e =
      let k : has_member (ascii "ephemeral") (members_in j) ≡ false = rw e at m in
      sym (ap (λ (x : Json). not (truth_or false x)) (value_missing (ascii "ephemeral") null (members_in j) k))

-- an item that is a string, looked up among the columns
module _ (s : List ℕ) (ms : List Named) (ids : all is_id (names ms) ≡ true) (j : Json) where
  pub indexed_not : is_text (kind_of j) ≡ false → false ≡ is_indexed ms j
  unfolding is_indexed
  indexed_not h = rw (is_indexed, h)

  module _ (t : is_text (kind_of j) ≡ true) {name : List ℕ} (q : name ≡ text_of (name_cell j)) where
    looked : name ≡ text_of (short_cell (text_in j))
    unfolding name_cell
    looked = q ∙ ap (λ (w : List ℕ). text_of (short_cell w)) (string_text j t)

    has_is : has_member name ms ≡ has_member (text_in j) ms
    has_is = ap (λ (w : List ℕ). has_member w ms) looked ∙ has_cell ms ids (text_in j)

    module _ (f : Option ℕ) (m : Means s f (has_member name ms) (member_value name ms)) where
      pub found_well : {v : ℕ} → f ≡ Some v → well_at s v ≡ true
      unfolding Means
      found_well {v} e = let k : Means s (Some v) (has_member name ms) (member_value name ms) = rw e at m in k.2

      pub indexed_at : {v : ℕ} → f ≡ Some v → is_lasting (tree_at s v) ≡ is_indexed ms j
      unfolding Means is_indexed
      indexed_at {v} e =
          let k : Means s (Some v) (has_member name ms) (member_value name ms) = rw e at m in
          let h : has_member (text_in j) ms ≡ true = sym has_is ∙ k.0 in
          let u : tree_at s v ≡ member_value (text_in j) ms = sym k.1 ∙ ap (λ (w : List ℕ). member_value w ms) looked ∙ value_cell ms ids (text_in j) h in
          rw (is_indexed, t, h, u)

      pub indexed_none : f ≡ None → false ≡ is_indexed ms j
      unfolding Means is_indexed
      indexed_none e =
          let k : has_member name ms ≡ false = rw e at m in
          let h : has_member (text_in j) ms ≡ false = sym has_is ∙ k in
          rw (is_indexed, t, h)

-- the columns of a table that fits have ids for names
pub columns_ids : (tables : List (List ℕ)) (j : Json) → columns_fit tables j ≡ true → all is_id (names (members_in j)) ≡ true
unfolding columns_fit
columns_ids tables j h = (parts (parts_tests 6 (λ (columns : List (List ℕ)). column_fits tables) j) h).1.0
