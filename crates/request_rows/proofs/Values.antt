-- The values of a row as written: what is got of it, of all columns and of one. Assumes nothing.
use Rattle.std.specs.Prelude.{Option, Some, None}
use mathlib.Core.Path.{◌≡◌, refl, ap, ◌∙◌}
use mathlib.Core.Bool.{Bool}
use mathlib.Core.List.{List, [], ◌∷◌, map}
use Prim.Native.Nat.{ℕ, zero, suc, ◌<◌}
use native.Mathlib.Omega.{arith}
use lib.ListN.{length, get_or, length-map, get_or-map}
use Rattle.model.specs.declared.Fault.{Fault}
use Rattle.model.specs.Json.{Json, Named}
use Rattle.inner.specs.Positions.{tree_at}
use Rattle.model.specs.Members.{members_in}
use Rattle.model.specs.Schema.{Column}
use Rattle.model.specs.Written.{Names, member_named}
use Rattle.model.specs.Operations.{value_written, column_written, columns_written}
use Rattle.model.specs.Catalog.{column_from}
use Rattle.uuids.specs.Named.{names_at}
use Rattle.request_rows.specs.Assigned.{absent_by, named_by, written_row, value_for, values_for}

module _ (names : Names) (ms : List Named) (absent named : Column → Fault) where
  got_one : (c : Column) (o : Option Json) → (column_written names absent named c o).got ≡ elim o [ None ↦ None | Some j ↦ Some (value_written names c j).got ]
  got_one c None = refl
  got_one c (Some j) = refl

  got_all : (cs : List Column) → (columns_written names absent named cs ms).got ≡ values_for names ms cs
  unfolding values_for value_for
  got_all [] = refl
  got_all (c ∷ cs) = λ i. got_one c (member_named c.name ms) i ∷ got_all cs i

module _ (insert : Bool) (text : List ℕ) (names : List ℕ) (columns : List (List ℕ)) (at : ℕ) where
  -- what is got of a row, whether it is inserted or updated
  pub row_got : (written_row insert text names columns at).got ≡ values_for (names_at text names) (members_in (tree_at text at)) (map column_from columns)
  unfolding written_row
  row_got = got_all (names_at text names) (members_in (tree_at text at)) (absent_by insert) (named_by insert) (map column_from columns)

  pub got_length : length (written_row insert text names columns at).got ≡ length (map column_from columns)
  unfolding values_for
  got_length = ap length row_got ∙ length-map (map column_from columns) (value_for (names_at text names) (members_in (tree_at text at)))

-- ── one column ──
module _ (names : Names) (ms : List Named) (c : Column) where
  pub value_missing : member_named c.name ms ≡ None → value_for names ms c ≡ None
  unfolding value_for
  value_missing e = ap (λ (o : Option Json). elim o [ None ↦ None | Some j ↦ Some (value_written names c j).got ]) e

  module _ {j : Json} (e : member_named c.name ms ≡ Some j) where
    pub value_there : value_for names ms c ≡ Some (value_written names c j).got
    unfolding value_for
    value_there = ap (λ (o : Option Json). elim o [ None ↦ None | Some j ↦ Some (value_written names c j).got ]) e

-- ── the columns by their cells ──
at_map : {A B : Type 0} (f : A → B) (l : List A) (i : ℕ) (a : A) (b : B) → i < length l → get_or (map f l) i b ≡ f (get_or l i a)
at_map f [] i a b h = absurd (omega arith)
at_map f (x ∷ l) zero a b h = refl
at_map f (x ∷ l) (suc i) a b h = at_map f l i a b (omega arith)

module _ (names : Names) (ms : List Named) (cells : List (List ℕ)) where
  pub values_length : length (values_for names ms (map column_from cells)) ≡ length cells
  unfolding values_for
  values_length = length-map (map column_from cells) (value_for names ms) ∙ length-map cells column_from

  module _ (c : ℕ) (h : c < length cells) where
    pub values_at : get_or (values_for names ms (map column_from cells)) c None ≡ value_for names ms (column_from (get_or cells c []))
    unfolding values_for
    values_at = at_map (value_for names ms) (map column_from cells) c (column_from []) None (omega (arith, length-map cells column_from)) ∙ ap (value_for names ms) (get_or-map column_from cells c [])
