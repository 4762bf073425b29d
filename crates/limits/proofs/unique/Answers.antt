-- `limits::unique` meets its contract.
use mathlib.Core.Path.{sym, ap, ◌∙◌}
use native.Mathlib.Omega.{arith}
use mathlib.Core.List.{[]}
use Prim.Native.Nat.{◌+◌}
use lib.ListN.{get_or, drop, take}
use Rattle.model.specs.Base.{keep}
use Rattle.limits.specs.Alike.{of_t, unique_cells}
use Rattle.limits.proofs.Kept.{keep_yes, keep_end}
use Rattle.limits.proofs.Indexed.{unique_here}
use Rattle.limits.proofs.unique.Goals as goal

pub returns-then-again : goal.returns-then-again
returns-then-again c =
    let l = c.loop-i in
    sym (l.invariant ∙ ap (unique_cells c.args.index.now) (keep_yes (of_t c.args.table) [] c.args.rows.now c.args.n l.i c.requires.n_in_bounds (omega arith) (sym c.is_of.ensures ∙ c.if-is_of.true))
    ∙ unique_here c.args.index.now (get_or c.args.rows.now l.i []) (keep (of_t c.args.table) (drop (l.i + 1) (take c.args.n c.args.rows.now))) (sym c.again.ensures ∙ c.if-again.true))

pub returns : goal.returns
returns c =
    let l = c.loop-i in
    sym (l.invariant ∙ ap (unique_cells c.args.index.now) (keep_end (of_t c.args.table) [] c.args.rows.now c.args.n l.i c.requires.n_in_bounds (omega arith)))
