-- A search over working rows or over a schema's tables finds what the model's tests say. Assumes nothing.
use mathlib.Core.Path.{◌≡◌, refl, ap}
use mathlib.Core.Bool.{Bool, ◌||◌}
use mathlib.Core.List.{List, [], ◌∷◌, map}
use Prim.Native.Nat.{ℕ, zero, suc, ◌+◌, ◌≤◌}
use native.Mathlib.Omega.{arith}
use lib.ListN.{length, get_or, take, drop}
use lib.Seq.{drop-cons}
use Rattle.std.specs.List.{list_any}
use Rattle.model.specs.Base.{any}
use Rattle.model.specs.Schema.{Schema}
use Rattle.model.specs.Rows.{Row}
use Rattle.model.specs.Areas.{row_from}
use Rattle.model.specs.Catalog.{tables_from, table_place, is_set, root_offset}
use Rattle.inner.specs.Working.{working}
use Rattle.garbage.proofs.Roots.{says_root, root_is}

pub any_rows : (s : Schema) (n : ℕ) (cells : List (List (List ℕ))) (q : Row → Bool) → list_any (λ r. q (row_from s r)) (take n cells) ≡ any q (working s n cells)
unfolding working
any_rows s n cells q = go (take n cells)
  where
    go : (l : List (List (List ℕ))) → list_any (λ r. q (row_from s r)) l ≡ any q (map (row_from s) l)
    go [] = refl
    go (r ∷ l) = ap (λ (b : Bool). q (row_from s r) || b) (go l)

-- an entry of a table that says that it is root
abbrev pub says : List ℕ → Bool
says entry = is_set entry root_offset

pub any_tables : (cells : List (List ℕ)) (a k : ℕ) → table_place a + k ≤ length cells → list_any says (take k (drop (table_place a) cells)) ≡ any says_root (tables_from cells a k)
any_tables cells a zero h = refl
any_tables cells a (suc k) h =
    let next : suc (table_place a) ≡ table_place (suc a) = omega arith in
    rw (drop-cons cells (table_place a) [] (omega arith), root_is cells a, next) (ap (λ (b : Bool). says (get_or cells (table_place a) []) || b) (any_tables cells (suc a) k (omega arith)))
