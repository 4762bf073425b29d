-- A string looked up among ids. Assumes nothing.
use Rattle.std.specs.Prelude.{Option, Some, None}
use mathlib.Core.Path.{◌≡◌, refl, sym, ap, ◌∙◌}
use mathlib.Core.List.{List, [], ◌∷◌}
use mathlib.Core.Bool.{true, false}
use Prim.Native.Nat.{ℕ, ◌<◌, ◌≤◌}
use native.Mathlib.Omega.{arith}
use borrow.Author.Tests.{lt-ltb, leb-false}
use lib.Dec.{leb}
use lib.ListN.{length}
use Rattle.model.specs.Octets.{eq_bytes}
use Rattle.model.specs.Base.{all, member, place_of}
use Rattle.model.specs.Json.{Json, null, bool, num, str, arr, obj}
use Rattle.model.specs.Nav.{kind_of, text_in}
use Rattle.inner.specs.Positions.{word_in}
use Rattle.model.specs.Value.{text_of}
use Rattle.model.specs.SchemaText.{is_one_of, is_id, place_or}
use Rattle.model.proofs.Tests.{split, clash, and_l, and_r, bytes_same}
use Rattle.model.proofs.Atoms.{text_of_text_atom}
use Rattle.model.proofs.SchemaLaws.{place_below}
use Rattle.names.specs.Names.{short_cell, name_cell}
use Rattle.catalog.specs.Entries.{is_found}
use Rattle.catalog.proofs.Ids.{id_none, id_long}
use Rattle.catalog.proofs.Lookups.{found_member}
use Rattle.column_types.specs.Types.{place_byte}

-- what is no id is not among ids
not_id : (w : List ℕ) (ws : List (List ℕ)) → all is_id ws ≡ true → is_id w ≡ false → member w ws ≡ false
not_id w [] h e = refl
not_id w (x ∷ ws) h e =
    split
    (eq_bytes w x)
    (λ q. absurd (let r : w ≡ x = bytes_same w x q in clash (is_id x) (and_l (is_id x) _ h) (rw r at e)))
    (λ q. rw q (not_id w ws (and_r (is_id x) _ h) e))

-- what is not there has no place
none_there : (w : List ℕ) (ws : List (List ℕ)) → member w ws ≡ false → place_of w ws ≡ None
none_there w [] h = refl
none_there w (x ∷ ws) h =
    split
    (eq_bytes w x)
    (λ e. absurd (clash true refl (rw e at h)))
    (λ e. let r : place_of w ws ≡ None = none_there w ws (rw e at h) in rw (place_of, e, r))

-- a short string is what its cell says; of a long one, which is no id, the cell says the empty one
pub data Cell (t : List ℕ) : Type 0 where
  short : text_of (short_cell t) ≡ t → Cell t
  long : is_id t ≡ false → text_of (short_cell t) ≡ [] → Cell t

pub cell_of : (t : List ℕ) → Cell t
unfolding short_cell
cell_of t =
    split
    (leb (length t) 24)
    (λ e. short (rw (short_cell, e) (text_of_text_atom t)))
    (λ e. long (id_long t (leb-false (length t) 24 e)) (rw (short_cell, e)))

module _ (ws : List (List ℕ)) (ids : all is_id ws ≡ true) where
  none_empty : member [] ws ≡ false
  none_empty = not_id [] ws ids (id_none [] refl)

  cell_place : (t : List ℕ) → place_of (text_of (short_cell t)) ws ≡ place_of t ws
  cell_place t = go (cell_of t)
    where
      go : Cell t → place_of (text_of (short_cell t)) ws ≡ place_of t ws
      go (short q) = rw q
      go (long n q) = rw q (none_there [] ws none_empty ∙ sym (none_there t ws (not_id t ws ids n)))

  -- a string that is one of the names, and where it stands
  pub one_of : (j : Json) → is_found ((place_of (text_of (name_cell j)) ws)) ≡ is_one_of ws j
  unfolding name_cell word_in kind_of text_in
  one_of j = ap (λ (o : Option ℕ). is_found (o)) (cell_place (word_in j)) ∙ found_member (word_in j) ws ∙ go j
    where
      go : (j : Json) → member (word_in j) ws ≡ is_one_of ws j
      go null = none_empty
      go (bool b) = none_empty
      go (num t) = none_empty
      go (str t) = refl
      go (arr xs) = none_empty
      go (obj ms) = none_empty

  pub place_is : (j : Json) → is_one_of ws j ≡ true → length ws ≤ 4 → place_byte ((place_of (text_of (name_cell j)) ws)) ≡ place_or (text_in j) ws
  unfolding name_cell word_in kind_of text_in place_byte
  place_is null h few = absurd (clash false h refl)
  place_is (bool b) h few = absurd (clash false h refl)
  place_is (num t) h few = absurd (clash false h refl)
  place_is (str t) h few =
      let r : (k : ℕ) × (place_of t ws ≡ Some k) × (k < length ws) = place_below t ws h in
      rw (cell_place t, place_or, r.1, place_byte, lt-ltb r.0 256 (omega (arith, r.2)))
  place_is (arr xs) h few = absurd (clash false h refl)
  place_is (obj ms) h few = absurd (clash false h refl)
