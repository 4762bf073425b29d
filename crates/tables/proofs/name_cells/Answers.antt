-- `tables::name_cells` meets its contract.
use mathlib.Core.Path.{◌≡◌, ap, ◌∙◌}
use mathlib.Core.List.{List, ◌++◌}
use Prim.Native.Nat.{ℕ}
use native.Mathlib.Omega.{arith}
use lib.ListN.{replicate}
use Rattle.tables.specs.Tables.{head_at}
use Rattle.tables.proofs.All.{naming_more}
use Rattle.tables.proofs.name_cells.Goals as goal

pub loop-i-preserved : goal.loop-i-preserved
unfolding head_at
loop-i-preserved c =
    naming_more c.args.text.now c.args.places.now c.args.n c.requires.n_le_most_tables c.requires.n_in_bounds c.loop-i.invariant c.loop-i-test.true (c.name_entry.ensures ∙ ap (λ (x : List ℕ). x ++ replicate 23 0) c.name_at-name.ensures)

pub returns : goal.returns
returns c =
    let k = c.loop-i.invariant in
    let f = k.few in
    let t = c.loop-i-test.false in
    let e : c.loop-i.i ≡ c.args.n = omega arith in
    (k.size, rw (← e) k.are)
