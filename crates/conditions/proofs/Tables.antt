-- A table looked up by name in its cell. Assumes nothing.
use mathlib.Core.Path.{◌≡◌, refl, sym, ap, ◌∙◌}
use mathlib.Core.List.{List, [], ◌∷◌, map}
use Prim.Native.Nat.{ℕ, zero, suc, ◌+◌, ◌≤◌}
use native.Mathlib.Omega.{arith}
use lib.ListN.{length, get_or, take, drop}
use lib.Seq.{drop-cons}
use Rattle.model.specs.Base.{place_of}
use Rattle.model.specs.Json.{Json, null, bool, num, str, arr, obj}
use Rattle.model.specs.Schema.{Table}
use Rattle.model.specs.Catalog.{entry_name, column_from, table_from, tables_from, packed_tables}
use Rattle.conditions.specs.Lookup.{column_in, table_in}
use Rattle.catalog.proofs.Lookups.{cells_names}

-- the names of k tables from t on are those of their cells
names_are : (cells : List (List ℕ)) (t k : ℕ) → 1 + t + k ≤ length cells → map entry_name (take k (drop (1 + t) cells)) ≡ map (λ (x : Table). x.name) (tables_from cells t k)
unfolding table_from
names_are cells t zero h = refl
names_are cells t (suc k) h =
    let z : suc (1 + t) ≡ 1 + suc t = omega arith in
    ap (λ (l : List (List ℕ)). map entry_name (take (suc k) l)) (drop-cons cells (1 + t) [] (omega arith) ∙ ap (λ (m : ℕ). get_or cells (1 + t) [] ∷ drop m cells) z)
    ∙ ap (λ (l : List (List ℕ)). entry_name (get_or cells (1 + t) []) ∷ l) (names_are cells (suc t) k (omega arith))

pub table_named_lem : (cells : List (List ℕ)) (n : ℕ) → n ≡ get_or (get_or cells 0 []) 25 0 → 1 + n ≤ length cells → (j : Json) → (column_in (map column_from (take n (drop 1 cells))) j) ≡ (table_in (packed_tables cells) j)
table_named_lem cells n e h null = refl
table_named_lem cells n e h (bool b) = refl
table_named_lem cells n e h (num t) = refl
table_named_lem cells n e h (str t) =
    ap (λ (l : List (List ℕ)). (place_of t l)) (sym (cells_names (take n (drop 1 cells))) ∙ names_are cells 0 n (omega arith))
    ∙ ap (λ (k : ℕ). (place_of t (map (λ (x : Table). x.name) (tables_from cells 0 k)))) e
table_named_lem cells n e h (arr xs) = refl
table_named_lem cells n e h (obj ms) = refl
