-- A catalog that an area in good order may hold: the entries of a database that keeps every rule on schemas. Assumes nothing: these are definitions.
use Rattle.std.specs.Prelude.{ℕ, ◌≡◌, Bool, true, ◌&&◌, List, length}
use Rattle.model.specs.Limits.{entry_count}
use Rattle.model.specs.Base.{eq_lists}
use Rattle.model.specs.Catalog.{database_from, catalog_of}
use Rattle.model.specs.Sane.{sane}

pub record Accepted (catalog : List (List ℕ)) : Type 0 where
  pub size : length catalog ≡ entry_count
  pub same : catalog_of (database_from catalog) ≡ catalog
  pub sane : sane (database_from catalog) ≡ true

-- the test of it
unfoldable pub is_accepted : List (List ℕ) → Bool
is_accepted catalog = eq_lists (catalog_of (database_from catalog)) catalog && sane (database_from catalog)
