-- Fresh ids by their places. Assumes nothing: these are definitions.
use Rattle.std.specs.Prelude.{ℕ, ◌≡◌, Bool, true, not, ◌&&◌, List, [], ◌∷◌, eqb, length, get_or, drop}
use Rattle.model.specs.Limits.{id_bytes}
use Rattle.model.specs.Octets.{value}
use Rattle.model.specs.Base.{any}
use Rattle.model.specs.Rows.{Row, has_id}
use Rattle.model.specs.Transact.{fresh_ids, ids_good}

-- the fresh ids from k on, and fresh id k
unfoldable pub fresh_from : ℕ → List ℕ → List ℕ
fresh_from k fresh = drop k (fresh_ids fresh)

unfoldable pub fresh_at : List ℕ → ℕ → ℕ
fresh_at fresh k = get_or (fresh_ids fresh) k 0

-- its bytes
pub record FreshId (fresh : List ℕ) (k : ℕ) (id : List ℕ) : Type 0 where
  pub size : length id ≡ id_bytes
  pub is : value id ≡ fresh_at fresh k

-- the first of some fresh ids may be given: it is not zero, no row's, and unlike the others (refusal 6)
unfoldable pub id_good : List ℕ → List Row → Bool
id_good [] rows = true
id_good (i ∷ l) rows = not (eqb i 0) && not (has_id i rows) && not (any (eqb i) l)

-- all of them may be given
unfoldable pub fresh_good : List ℕ → List Row → Bool
fresh_good fresh rows = ids_good (fresh_ids fresh) rows
