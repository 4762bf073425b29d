-- What the tables of an accepted schema keep to: at most 4 of them, and 6 columns in each. Assumes nothing.
use mathlib.Core.Path.{◌≡◌}
use mathlib.Core.Bool.{Bool, true}
use Prim.Native.Nat.{ℕ, ◌≤◌}
use borrow.Author.Tests.{leb-true}
use lib.Dec.{leb}
use lib.ListN.{length}
use Rattle.model.specs.Base.{all}
use Rattle.model.specs.Limits.{most_tables, most_columns}
use Rattle.model.specs.Schema.{Table, Schema, Database}
use Rattle.model.specs.Sane.{table_sane, sane_table, database_sane, sane}
use Rattle.model.proofs.Tests.{parts}
use Rattle.model.proofs.Lists.{all_imply}

-- "columns in a table | 6", of one table and of all
abbrev pub narrow_table : Table → Bool
narrow_table t = leb (length t.columns) most_columns

abbrev pub narrow : Schema → Bool
narrow s = all narrow_table s

-- what holds of the tables of an accepted schema
pub record Kept (s : Schema) : Type 0 where
  pub few : length s ≤ most_tables
  pub narrow : narrow s ≡ true

table_narrow : (n : ℕ) (t : Table) → sane_table n t ≡ true → narrow_table t ≡ true
unfolding sane_table
table_narrow n t h = (parts (table_sane n t) h).1.0

pub sane_kept : (d : Database) → sane d ≡ true → Kept d.tables
unfolding sane
sane_kept d h =
    let p = parts (database_sane d) h in
    record {
      few = leb-true (length d.tables) most_tables p.1.0;
      narrow = all_imply (sane_table (length d.tables)) narrow_table (table_narrow (length d.tables)) d.tables p.1.1.0;
    }
