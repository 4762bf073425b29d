-- `references::one_names` meets its contract.
use mathlib.Core.Path.{sym, ◌∙◌}
use mathlib.Core.Bool.{Bool}
use mathlib.Core.List.{List}
use Prim.Native.Nat.{ℕ}
use lib.Dec.{eqb}
use lib.ListN.{take}
use Rattle.std.proofs.Common.{rules, tests}
use Rattle.std.proofs.lemmas.Iterator.{YieldsList-from_slice}
use Rattle.std.proofs.lemmas.Iterator.Search.{any_from_yields_List}
use Rattle.model.specs.Value.{uuid_of}
use Rattle.model.specs.Rows.{key_of}
use Rattle.inner.specs.Working.{key_in}
use Rattle.references.proofs.Walks.{any_list, any_keys}
use Rattle.references.proofs.one_names.Goals as goal

pub returns : goal.returns
returns c =
    let a = c.args in
    let l = take a.count a.atoms.now in
    let names : List ℕ → Bool = λ atom. eqb (key_of a.table (uuid_of atom)) (key_in a.row.now) in
    any_from_yields_List names _ _ _ c.any.ensures.ran (YieldsList-from_slice l cc) (λ x b q k. search (rules, tests))
    ∙ any_list names l ∙ sym (any_keys a.table (key_in a.row.now) l)
