-- `rows::of_four` meets its contract.
use mathlib.Core.Path.{sym, ◌∙◌}
use mathlib.Core.Bool.{true, false}
use native.Mathlib.Omega.{arith}
use Rattle.rows.specs.Post.{key_of_halves}
use Rattle.rows.proofs.Search.{from_here, none_yet, at_start, one_more}
use Rattle.rows.proofs.of_four.Goals as goal

pub returns-then-lies_at : goal.returns-then-lies_at
returns-then-lies_at c =
    let a = c.args in
    let k = key_of_halves a.table a.high a.low in
    let t = from_here k a.rows.now a.i in
    record { most = omega arith; others = none_yet k a.rows.now a.i; here = λ h. at_start k a.rows.now a.i true (sym c.lies_at.ensures ∙ c.if-lies_at.true) }

pub returns-then-lies_at-2 : goal.returns-then-lies_at-2
returns-then-lies_at-2 c =
    let a = c.args in
    let k = key_of_halves a.table a.high a.low in
    let t = from_here k a.rows.now a.i in
    record { most = omega arith; others = one_more t 0 (none_yet k a.rows.now a.i) (at_start k a.rows.now a.i false (sym c.lies_at.ensures ∙ c.if-lies_at.false)); here = λ h. sym c.lies_at-2.ensures ∙ c.if-lies_at-2.true }

pub returns-then-lies_at-3 : goal.returns-then-lies_at-3
returns-then-lies_at-3 c =
    let a = c.args in
    let k = key_of_halves a.table a.high a.low in
    let t = from_here k a.rows.now a.i in
    record { most = omega arith; others = one_more t 1 (one_more t 0 (none_yet k a.rows.now a.i) (at_start k a.rows.now a.i false (sym c.lies_at.ensures ∙ c.if-lies_at.false))) (sym c.lies_at-2.ensures ∙ c.if-lies_at-2.false); here = λ h. sym c.lies_at-3.ensures ∙ c.if-lies_at-3.true }

pub returns-then-lies_at-4 : goal.returns-then-lies_at-4
returns-then-lies_at-4 c =
    let a = c.args in
    let k = key_of_halves a.table a.high a.low in
    let t = from_here k a.rows.now a.i in
    record { most = omega arith; others = one_more t 2 (one_more t 1 (one_more t 0 (none_yet k a.rows.now a.i) (at_start k a.rows.now a.i false (sym c.lies_at.ensures ∙ c.if-lies_at.false))) (sym c.lies_at-2.ensures ∙ c.if-lies_at-2.false)) (sym c.lies_at-3.ensures ∙ c.if-lies_at-3.false); here = λ h. sym c.lies_at-4.ensures ∙ c.if-lies_at-4.true }

pub returns : goal.returns
returns c =
    let a = c.args in
    let k = key_of_halves a.table a.high a.low in
    let t = from_here k a.rows.now a.i in
    record { most = omega arith; others = one_more t 3 (one_more t 2 (one_more t 1 (one_more t 0 (none_yet k a.rows.now a.i) (at_start k a.rows.now a.i false (sym c.lies_at.ensures ∙ c.if-lies_at.false))) (sym c.lies_at-2.ensures ∙ c.if-lies_at-2.false)) (sym c.lies_at-3.ensures ∙ c.if-lies_at-3.false)) (sym c.lies_at-4.ensures ∙ c.if-lies_at-4.false); here = λ h. absurd (omega arith) }
