-- `references::all_named` meets its contract.
use mathlib.Core.Path.{sym, ◌∙◌}
use mathlib.Core.Bool.{Bool}
use mathlib.Core.List.{List}
use Prim.Native.Nat.{ℕ}
use lib.ListN.{take}
use Rattle.std.proofs.Common.{rules, tests}
use Rattle.std.proofs.lemmas.Iterator.{YieldsList-from_slice}
use Rattle.std.proofs.lemmas.Iterator.Search.{all_from_yields_List}
use Rattle.model.specs.Value.{uuid_of}
use Rattle.model.specs.Rows.{key_of, has}
use Rattle.inner.specs.Working.{working}
use Rattle.references.proofs.Walks.{all_list, all_keys}
use Rattle.references.proofs.all_named.Goals as goal

pub returns : goal.returns
returns c =
    λ s.
    let a = c.args in
    let l = take a.count a.atoms.now in
    let there : ℕ → Bool = λ k. has k (working s a.n a.rows.now) in
    let named : List ℕ → Bool = λ atom. there (key_of a.table (uuid_of atom)) in
    all_from_yields_List named _ _ _ c.all.ensures.ran (YieldsList-from_slice l cc) (λ x b q k. search (rules, tests))
    ∙ all_list named l ∙ sym (all_keys a.table there l)
