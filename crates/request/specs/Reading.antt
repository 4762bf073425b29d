-- A request by places of its text. Assumes nothing: these are definitions.
use Rattle.std.specs.Prelude.{ℕ, ◌≤◌, ◌≡◌, Bool, true, ◌&&◌, List, leb, length, Some}
use Rattle.model.specs.Base.{all, is_some}
use Rattle.model.specs.Limits.{most_operations, most_request_bytes}
use Rattle.model.specs.Json.{Json}
use Rattle.inner.specs.Positions.{Says, tree_at, items_from, items_fine}
use Rattle.model.specs.Nav.{kind_of, is_text, is_object, items_in, text_in}
use Rattle.model.specs.Transact.{request_items, read_request}
use Rattle.uuids.specs.Named.{operations_at}
use Rattle.request.specs.declared.Request.{Request}
use Rattle.request.specs.declared.Items.{Items}

-- at most as many values as a request may have, all objects
unfoldable pub few_objects : List Json → Bool
few_objects l = leb (length l) most_operations && all (λ (j : Json). is_object (kind_of j)) l

-- whether values are so, and how many they are then
pub record Counted (l : List Json) (r : Items) : Type 0 where
  pub few : r.few ≡ few_objects l
  pub count : r.few ≡ true → r.count ≡ length l

-- what was read of the text s: whether it is a request, where the database's name stands, where its operations begin, and how many they are
pub record RequestRead (s ends : List ℕ) (r : Request) : Type 0 where
  pub accepted : r.fits ≡ is_some (read_request s)
  pub request : r.fits ≡ true → read_request s ≡ Some (record { name = text_in (tree_at s r.name); operations = operations_at s r.ops })
  pub says : r.fits ≡ true → Says s ends
  pub short : r.fits ≡ true → length s ≤ most_request_bytes
  pub named : r.fits ≡ true → is_text (kind_of (tree_at s r.name)) ≡ true
  pub fine : r.fits ≡ true → items_fine s r.ops ≡ true
  pub few : r.fits ≡ true → length (items_from s r.ops) ≤ most_operations
  pub count : r.fits ≡ true → r.count ≡ length (items_from s r.ops)

-- the same of a value that has been read at the text's front
pub record Parted (s : List ℕ) (r : Request) : Type 0 where
  pub accepted : r.fits ≡ is_some (request_items (items_in (tree_at s 0)))
  pub request : r.fits ≡ true → request_items (items_in (tree_at s 0)) ≡ Some (record { name = text_in (tree_at s r.name); operations = operations_at s r.ops })
  pub named : r.fits ≡ true → is_text (kind_of (tree_at s r.name)) ≡ true
  pub fine : r.fits ≡ true → items_fine s r.ops ≡ true
  pub few : r.fits ≡ true → length (items_from s r.ops) ≤ most_operations
  pub count : r.fits ≡ true → r.count ≡ length (items_from s r.ops)
