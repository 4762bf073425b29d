-- `selection::with_name` meets its contract.
use mathlib.Core.Path.{◌∙◌, ap}
use mathlib.Core.List.{List}
use Prim.Native.Nat.{ℕ}
use native.Mathlib.Omega.{arith}
use Rattle.inner.specs.Positions.{tree_at}
use Rattle.model.specs.Text.{is_word}
use Rattle.selection.proofs.Names.{adding_none, adding_on, adding_end}
use Rattle.selection.proofs.with_name.Goals as goal

pub loop-c-init : goal.loop-c-init
loop-c-init c =
    let a = c.args in
    (omega arith, adding_none (tree_at a.text.now a.at) a.columns.now a.flags c.well_formed.1.1.1.0.1.0.1 c.is_word-id.ensures)

pub loop-c-preserved : goal.loop-c-preserved
loop-c-preserved c =
    let a = c.args in
    let j = tree_at a.text.now a.at in
    (omega (arith, c.loop-c-test.true), adding_on j a.columns.now a.flags c.loop-c.c (omega (arith, c.loop-c-test.true, c.requires)) c.loop-c-test.true c.loop-c.invariant.1 (c.is_word-same.ensures ∙ ap (λ (w : List ℕ). is_word w j) c.name_of.ensures))

pub returns : goal.returns
returns c =
    let a = c.args in
    adding_end (tree_at a.text.now a.at) a.columns.now a.flags c.loop-c.c c.loop-c-test.false c.loop-c.invariant.1
