-- A name looked up in cells, one after another. Assumes nothing.
use Rattle.std.specs.Prelude.{Option, Some, None}
use mathlib.Core.Path.{◌≡◌, refl, sym, ap, ◌∙◌}
use mathlib.Core.List.{List, [], ◌∷◌, map}
use mathlib.Core.Bool.{true, false}
use Prim.Native.Nat.{ℕ, suc, ◌+◌, ◌<◌, ◌≤◌}
use native.Mathlib.Numerals.{add-one}
use native.Mathlib.Omega.{arith}
use lib.ListN.{length, get_or, drop, drop_of_length-le}
use lib.Seq.{drop-cons}
use Rattle.model.specs.Octets.{eq_bytes}
use Rattle.model.specs.Base.{member, place_of}
use Rattle.model.specs.Schema.{Column}
use Rattle.model.specs.Catalog.{entry_name, column_from}
use Rattle.model.proofs.Tests.{split}
use Rattle.catalog.specs.Entries.{is_found, entry_named}

-- a place found from i on
abbrev pub found_from : ℕ → Option ℕ → Option ℕ
found_from i None = None
found_from i (Some k) = Some (i + k)

-- one place more is passed
past : (i : ℕ) (o : Option ℕ) → found_from i (elim o [ None ↦ None | Some k ↦ Some (suc k) ]) ≡ found_from (i + 1) o
past i None = refl
past i (Some k) = ap Some (omega arith)

from_start : (o : Option ℕ) → o ≡ found_from 0 o
from_start None = refl
from_start (Some k) = ap Some (omega arith)

module _ (cells : List (List ℕ)) (w : List ℕ) where
  abbrev pub left : ℕ → Option ℕ
  left i = place_of w (map entry_name (drop i cells))

  pub named_start : entry_named cells w ≡ found_from 0 (left 0)
  unfolding entry_named
  named_start = from_start (place_of w (map entry_name cells))

  pub named_end : (i : ℕ) → length cells ≤ i → found_from i (left i) ≡ None
  named_end i h = rw (drop_of_length-le cells h)

  module _ (i : ℕ) (h : i < length cells) where
    next : drop i cells ≡ get_or cells i [] ∷ drop (i + 1) cells
    next = drop-cons cells i [] h ∙ ap (λ (k : ℕ). get_or cells i [] ∷ drop k cells) (sym (add-one i))

    pub named_here : eq_bytes w (entry_name (get_or cells i [])) ≡ true → found_from i (left i) ≡ Some i
    named_here e = rw (next, place_of, e) (ap Some (omega arith))

    pub named_next : eq_bytes w (entry_name (get_or cells i [])) ≡ false → found_from i (left i) ≡ found_from (i + 1) (left (i + 1))
    named_next e = rw (next, place_of, e) (past i (left (i + 1)))

-- a place is found exactly of what is there
pub found_member : (w : List ℕ) (ws : List (List ℕ)) → is_found ((place_of w ws)) ≡ member w ws
unfolding is_found
found_member w [] = refl
found_member w (x ∷ ws) =
    split (eq_bytes w x) (λ e. rw (place_of, e)) (λ e. rw (place_of, e) (later (place_of w ws) ∙ found_member w ws))
  where
    later : (o : Option ℕ) → is_found ((elim o [ None ↦ None | Some k ↦ Some (suc k) ])) ≡ is_found (o)
    later None = refl
    later (Some k) = refl

-- the names in entries are those of the columns that they say
pub cells_names : (l : List (List ℕ)) → map entry_name l ≡ map (λ (c : Column). c.name) (map column_from l)
cells_names [] = refl
cells_names (x ∷ l) = ap (λ (r : List (List ℕ)). entry_name x ∷ r) (cells_names l)
