-- `rows::one_may_be` meets its contract.
use mathlib.Core.Path.{◌≡◌, refl, sym, ◌∙◌}
use mathlib.Core.Bool.{Bool, true}
use mathlib.Core.List.{[]}
use Prim.Native.Nat.{ℕ, ◌+◌, ◌%◌}
use native.Mathlib.Omega.{arith}
use lib.Dec.{eqb}
use lib.ListN.{get_or}
use Rattle.model.proofs.Tests.{clash}
use Rattle.inner.specs.Working.{id_in}
use Rattle.rows.proofs.Search.{one_more}
use Rattle.rows.proofs.one_may_be.Goals as goal

pub returns-then-may_be : goal.returns-then-may_be
returns-then-may_be c = λ k e h. absurd (clash true refl e)

pub returns-then-may_be-2 : goal.returns-then-may_be-2
returns-then-may_be-2 c = λ k e h. absurd (clash true refl e)

pub returns-then-may_be-3 : goal.returns-then-may_be-3
returns-then-may_be-3 c = λ k e h. absurd (clash true refl e)

pub returns : goal.returns
returns c =
    let a = c.args in
    let test : ℕ → Bool = λ (j : ℕ). eqb (id_in (get_or a.rows.now (a.i + j) []) % 18446744073709551616) a.low in
    let z : a.i + 0 ≡ a.i = omega arith in
    λ k e h.
    one_more test 3
    (one_more test 2
    (one_more test 1
    (one_more test 0
    (λ j p. absurd (omega arith))
    (rw z (sym c.may_be.ensures ∙ c.if-may_be.false)))
    (sym c.may_be-2.ensures ∙ c.if-may_be-2.false))
    (sym c.may_be-3.ensures ∙ c.if-may_be-3.false))
    (sym c.may_be-4.ensures ∙ e)
    k
    h
