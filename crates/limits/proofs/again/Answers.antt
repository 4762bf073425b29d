-- `limits::again` meets its contract.
use mathlib.Core.Path.{ap, ◌∙◌}
use mathlib.Core.Bool.{Bool, ◌&&◌}
use mathlib.Core.List.{List, []}
use Prim.Native.Nat.{ℕ, ◌+◌, ◌-◌}
use lib.ListN.{get_or, take, drop}
use Rattle.std.proofs.Common.{rules, tests}
use Rattle.std.proofs.lemmas.Iterator.{YieldsList-from_slice}
use Rattle.std.proofs.lemmas.Iterator.Search.{any_from_yields_List}
use Rattle.std.proofs.lemmas.Slice.{between_is}
use Rattle.model.specs.Base.{any, keep}
use Rattle.limits.specs.Alike.{of_t, same_cells}
use Rattle.limits.proofs.Kept.{any_both}
use Rattle.limits.proofs.again.Goals as goal

pub returns : goal.returns
returns c =
    let a = c.args in
    let same : List (List ℕ) → Bool = same_cells a.index.now (get_or a.rows.now a.i []) in
    let l = take (a.n - (a.i + 1)) (drop (a.i + 1) a.rows.now) in
    any_from_yields_List (λ (r : List (List ℕ)). of_t a.table r && same r) _ _ _ c.any.ensures.ran (YieldsList-from_slice l cc) (λ x b q k. search (rules, tests))
    ∙ any_both (of_t a.table) same l
    ∙ ap (λ (m : List (List (List ℕ))). any same (keep (of_t a.table) m)) (between_is a.rows.now (a.i + 1) a.n)
