-- Which tables are root, by the bytes of a schema. Assumes nothing.
use mathlib.Core.Path.{◌≡◌, refl, sym, ap, ◌∙◌}
use mathlib.Core.Bool.{Bool, true, false, not, ◌||◌}
use mathlib.Core.List.{List, []}
use Prim.Native.Nat.{ℕ, zero, suc, ◌+◌, ◌≤◌, ◌<◌}
use native.Mathlib.Nat.{add-zero}
use native.Mathlib.Omega.{arith}
use lib.ListN.{get_or}
use Rattle.model.specs.Base.{any}
use Rattle.model.specs.Schema.{Table, root_at, is_root}
use Rattle.model.specs.Catalog.{table_place, table_from, tables_from, packed_tables, table_count, is_set, root_offset}
use Rattle.model.proofs.Tests.{or_true}

-- a table's own word
abbrev pub says_root : Table → Bool
says_root x = x.root

module _ (cells : List (List ℕ)) where
  abbrev pub root_said : ℕ → Bool
  root_said t = is_set (get_or cells (table_place t) []) root_offset

  pub root_is : (t : ℕ) → (table_from cells t).root ≡ root_said t
  unfolding table_from
  root_is t = refl

  root_from : (a k t : ℕ) → t < k → root_at (tables_from cells a k) t ≡ root_said (a + t)
  root_from a zero t h = absurd (omega arith)
  root_from a (suc k) zero h = root_is a ∙ ap root_said (sym (add-zero a))
  root_from a (suc k) (suc t) h =
      let e : suc a + t ≡ a + suc t = omega arith in
      root_from (suc a) k t (omega arith) ∙ ap root_said e

  root_past : (a k t : ℕ) → k ≤ t → root_at (tables_from cells a k) t ≡ true
  root_past a zero t h = refl
  root_past a (suc k) zero h = absurd (omega arith)
  root_past a (suc k) (suc t) h = root_past (suc a) k t (omega arith)

  module _ (t : ℕ) where
    pub is_root_past : table_count cells ≤ t → is_root (packed_tables cells) t ≡ true
    is_root_past h = rw (root_past 0 (table_count cells) t h) (or_true (not (any says_root (packed_tables cells))))

    says : t < table_count cells → root_at (packed_tables cells) t ≡ root_said t
    says h =
        let e : 0 + t ≡ t = omega arith in
        root_from 0 (table_count cells) t h ∙ ap root_said e

    pub is_root_says : t < table_count cells → root_said t ≡ true → is_root (packed_tables cells) t ≡ true
    is_root_says h e = rw (says h, e) (or_true (not (any says_root (packed_tables cells))))

    pub is_root_none : t < table_count cells → root_said t ≡ false → is_root (packed_tables cells) t ≡ not (any says_root (packed_tables cells))
    is_root_none h e = rw (says h, e) (or_no (not (any says_root (packed_tables cells))))
      where
        or_no : (b : Bool) → (b || false) ≡ b
        or_no true = refl
        or_no false = refl
