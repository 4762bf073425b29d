-- What a schema says: tables, columns and their types (document 01, "A schema needs name, version .. and tables"). Assumes nothing: these are definitions.
use Rattle.std.specs.Prelude.{ℕ, zero, suc, Bool, true, not, ◌&&◌, ◌||◌, List, [], ◌∷◌, map, eqb, ℤ, Option}
use Rattle.model.specs.Base.{any, place_of}

-- "Base types are integer, boolean, string and uuid"
pub data Base : Type 0 where
  integer boolean text uuid : Base

-- "refTable, refType (strong unless said)": the table that a uuid refers to
pub data Refers : Type 0 where
  plain : Refers
  strong weak : (table : ℕ) → Refers

-- `low` and `high` are the limits of an integer's value, or of a string's length in characters; other types have none
pub record Column : Type 0 where
  pub name : List ℕ
  pub base : Base
  pub refers : Refers
  pub min : ℕ
  pub max : ℕ
  pub low : ℤ
  pub high : ℤ
  pub mutable : Bool

pub record Table : Type 0 where
  pub name : List ℕ
  pub columns : List Column
  pub root : Bool
  pub max_rows : Option ℕ
  pub indexes : List (List ℕ)

-- "Tables and columns are numbered from 0 in text order": by their places in these lists
abbrev pub Schema : Type 0
Schema = List Table

-- a schema and the database's name
pub record Database : Type 0 where
  pub name : List ℕ
  pub tables : Schema

abbrev pub columns_of : Schema → ℕ → List Column
columns_of [] t = []
columns_of (x ∷ s) zero = x.columns
columns_of (x ∷ s) (suc t) = columns_of s t

-- "min 1 max 1 is a scalar however spelled; min 0 max 1 is a set" (reading 12)
abbrev pub scalar : Column → Bool
scalar c = eqb c.min 1 && eqb c.max 1

-- look-up by name
abbrev pub table_named : Schema → List ℕ → Option ℕ
table_named s w = place_of w (map (λ (t : Table). t.name) s)

abbrev pub column_named : List Column → List ℕ → Option ℕ
column_named cs w = place_of w (map (λ (c : Column). c.name) cs)

-- "If no table says isRoot true, all are root"
abbrev pub root_at : Schema → ℕ → Bool
root_at [] t = true
root_at (x ∷ s) zero = x.root
root_at (x ∷ s) (suc t) = root_at s t

abbrev pub is_root : Schema → ℕ → Bool
is_root s t = not (any (λ (x : Table). x.root) s) || root_at s t
