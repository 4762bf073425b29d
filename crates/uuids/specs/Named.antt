-- uuid-names by places of the text. Assumes nothing: these are definitions.
use Rattle.std.specs.Prelude.{ℕ, zero, suc, ◌+◌, ◌*◌, ◌/◌, ◌%◌, ◌≤◌, ◌<◌, ◌≡◌, Bool, true, false, List, [], ◌∷◌, map, length, get_or, set, Option, Some, None}
use Rattle.model.specs.Limits.{most_request_bytes, most_operations, fresh_bytes}
use Rattle.model.specs.Base.{is_some}
use Rattle.model.specs.Json.{Json, Named}
use Rattle.model.specs.Value.{uuid_atom}
use Rattle.inner.specs.Positions.{Says, tree_at, items_from}
use Rattle.model.specs.Text.{is_word}
use Rattle.model.specs.Members.{members_in}
use Rattle.model.specs.Written.{Names, string_in}
use Rattle.model.specs.Transact.{fresh_ids, insert_name, is_named}

-- the operations of a request, from the place of the first on
unfoldable pub operations_at : List ℕ → Option ℕ → List (List Named)
operations_at s ops = map members_in (items_from s ops)

-- ── the table of uuid-names: the fresh ids, then two bytes for each operation ──
abbrev pub names_bytes : ℕ
names_bytes = fresh_bytes + 2 * most_operations

-- the two bytes of operation k: one more than the place of its uuid-name, 0 where it is no insert that has one
unfoldable pub entry_at : List ℕ → ℕ → ℕ
entry_at names k = 256 * get_or names (fresh_bytes + 2 * k) 0 + get_or names (fresh_bytes + 2 * k + 1) 0

unfoldable pub entry_put : List ℕ → ℕ → ℕ → List ℕ
entry_put names k q = set (set names (fresh_bytes + 2 * k) (q / 256)) (fresh_bytes + 2 * k + 1) (q % 256)

-- whether an entry is that name's
unfoldable pub is_entry : List ℕ → List ℕ → ℕ → Bool
is_entry s w zero = false
is_entry s w (suc p) = is_word w (tree_at s p)

-- the entry of an operation
pub record EntryOf (s : List ℕ) (o : List Named) (q : ℕ) : Type 0 where
  pub fits : q < 65536
  pub names : (w : List ℕ) → is_entry s w q ≡ is_named (insert_name o) w

-- the first of n entries, the k-th and on, that is that name's
unfoldable pub place_from : List ℕ → List ℕ → List ℕ → ℕ → ℕ → Option ℕ
place_from s names w zero k = None
place_from s names w (suc n) k = elim (is_entry s w (entry_at names k)) [ true ↦ Some k | false ↦ place_from s names w n (k + 1) ]

unfoldable pub place_in : List ℕ → List ℕ → List ℕ → Option ℕ
place_in s names w = place_from s names w most_operations 0

-- the id at a place that there is
unfoldable pub id_by : List ℕ → Option ℕ → Option ℕ
id_by ids (Some k) = Some (get_or ids k 0)
id_by ids None = None

-- what the uuid-names stand for
unfoldable pub names_at : List ℕ → List ℕ → Names
names_at s names w = id_by (fresh_ids names) (place_in s names w)

-- a request that is run: what the table of ends says is true, and both it and the table of uuid-names have their lengths
pub record Running (s ends names : List ℕ) : Type 0 where
  pub says : Says s ends
  pub short : length s ≤ most_request_bytes
  pub size : length names ≡ names_bytes

-- the place, k and on, of the first insert of that uuid-name
unfoldable pub place_named : ℕ → List ℕ → List (List Named) → Option ℕ
place_named k w [] = None
place_named k w (o ∷ os) = elim (is_named (insert_name o) w) [ true ↦ Some k | false ↦ place_named (k + 1) w os ]

-- a table that was filled for a request
pub record Filled (s : List ℕ) (ops : Option ℕ) (fresh names : List ℕ) : Type 0 where
  pub size : length names ≡ names_bytes
  pub ids : fresh_ids names ≡ fresh_ids fresh
  pub places : (w : List ℕ) → place_in s names w ≡ place_named 0 w (operations_at s ops)

-- the atom that there is, or what was there before
unfoldable pub atom_or : List ℕ → Option (List ℕ) → List ℕ
atom_or before None = before
atom_or before (Some a) = a

-- whether there is an atom, which is then written; else nothing is
pub record Answered (atom : Option (List ℕ)) (before : List ℕ) (r : Bool) (after : List ℕ) : Type 0 where
  pub found : r ≡ is_some atom
  pub out : after ≡ atom_or before atom

-- the atom of an id that there is, and of id k of the table
unfoldable pub atom_of : Option ℕ → Option (List ℕ)
atom_of o = elim o [ None ↦ None | Some i ↦ Some (uuid_atom i) ]

unfoldable pub fresh_atom : List ℕ → ℕ → List ℕ
fresh_atom names k = uuid_atom (get_or (fresh_ids names) k 0)

-- what a string stands for as a uuid-name
unfoldable pub named_in : Names → Json → Option ℕ
named_in names j = elim (string_in j) [ None ↦ None | Some t ↦ names t ]
