-- `uuids::is_named` meets its contract.
use mathlib.Core.Path.{◌≡◌, ap, ◌∙◌}
use Prim.Native.Nat.{ℕ, suc, ◌-◌}
use native.Mathlib.Omega.{arith}
use borrow.Author.Tests.{le-ltb}
use Rattle.inner.specs.Positions.{tree_at, word_in}
use Rattle.uuids.specs.Named.{is_entry}
use Rattle.uuids.proofs.is_named.Goals as goal

pub returns-then-p-gt0 : goal.returns-then-p-gt0
unfolding is_entry
returns-then-p-gt0 c =
    let a = c.args in
    let s = a.text.now in
    let z : suc (c.entry_at-p.result - 1) ≡ c.entry_at-p.result = omega arith in
    c.same_strings.ensures ∙ ap (is_entry s (word_in (tree_at s a.at))) (z ∙ c.entry_at-p.ensures)

pub returns-else-p-gt0 : goal.returns-else-p-gt0
unfolding is_entry
returns-else-p-gt0 c =
    let a = c.args in
    let s = a.text.now in
    let z : ◌≡◌ {A = ℕ} 0 c.entry_at-p.result = omega arith in
    le-ltb 0 c.entry_at-p.result c.if-p-gt0.false ∙ ap (is_entry s (word_in (tree_at s a.at))) (z ∙ c.entry_at-p.ensures)
