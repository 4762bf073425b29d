-- `rows::has_id_from` meets its contract.
use mathlib.Core.Path.{sym, ap, ◌∙◌}
use mathlib.Core.List.{List, map}
use Prim.Native.Nat.{ℕ, ◌-◌}
use lib.Dec.{eqb}
use lib.ListN.{take, drop}
use Rattle.std.proofs.Common.{rules, tests}
use Rattle.std.proofs.lemmas.Iterator.{YieldsList-from_slice}
use Rattle.std.proofs.lemmas.Iterator.Search.{any_from_yields_List}
use Rattle.std.proofs.lemmas.List.{drop-map}
use Rattle.model.specs.Octets.{value}
use Rattle.model.specs.Areas.{row_from}
use Rattle.model.specs.Rows.{has_id}
use Rattle.inner.specs.Working.{working, id_in}
use Rattle.std.proofs.lemmas.Slice.{between_is}
use Rattle.rows.proofs.Search.{any_id}
use Rattle.rows.proofs.has_id_from.Goals as goal

pub returns : goal.returns
unfolding working
returns c =
    λ s.
    let a = c.args in
    any_from_yields_List (λ (r : List (List ℕ)). eqb (value a.id.now) (id_in r)) _ _ _ c.any.ensures.ran (YieldsList-from_slice (take (a.n - a.from) (drop a.from a.rows.now)) cc) (λ x b q k. search (rules, tests))
    ∙ any_id s (value a.id.now) (take (a.n - a.from) (drop a.from a.rows.now))
    ∙ sym (ap (has_id (value a.id.now)) (drop-map (row_from s) a.from (take a.n a.rows.now) ∙ sym (ap (map (row_from s)) (between_is a.rows.now a.from a.n))))
