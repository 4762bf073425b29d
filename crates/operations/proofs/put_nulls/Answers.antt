-- `operations::put_nulls` meets its contract.
use mathlib.Core.Path.{refl, ap, ◌∙◌}
use native.Mathlib.Omega.{arith}
use lib.ListN.{length}
use Rattle.json_writer.proofs.Putting.{due_all, due_is, due_next, due_none}
use Rattle.nav.proofs.Walk.{walk_rest, walk_fine, walk_less}
use Rattle.operations.proofs.Nulls.{nulls_next, nulls_end}
use Rattle.operations.proofs.put_nulls.Goals as goal

pub loop-h-init : goal.loop-h-init
loop-h-init c = (refl, c.requires.g_value, omega arith, due_all _ _ _)

pub put_comma-e-requires : goal.put_comma-e-requires
put_comma-e-requires c = omega (arith, c.loop-h.invariant.2, ap length (walk_rest c.args.text.now c.in-Some.is), c.requires.g_len_bound, c.requires.nulls_most_bound)

pub put_null-e-requires : goal.put_null-e-requires
put_null-e-requires c =
    let l = c.loop-h in
    omega (arith, l.invariant.2, ap length (walk_rest c.args.text.now c.in-Some.is), c.put_comma-e.ensures.short, c.requires.g_len_bound, c.requires.nulls_most_bound)

pub next_item-h-requires : goal.next_item-h-requires
next_item-h-requires c = c.requires.says

pub loop-h-smaller : goal.loop-h-smaller
loop-h-smaller c = rw c.next_item-h.ensures (walk_less c.args.text.now c.in-Some.is)

pub loop-h-preserved : goal.loop-h-preserved
loop-h-preserved c =
    let s = c.args.text.now in
    let l = c.loop-h in
    let h = c.in-Some.is in
    rw c.next_item-h.ensures (c.put_null-e.auto.out ∙ c.put_comma-e.auto.out ∙ l.invariant.0, (walk_fine s h l.invariant.1).1, omega (arith, l.invariant.2, ap length (walk_rest s h), c.put_comma-e.ensures.short, c.put_null-e.ensures.short), due_next (due_next (due_is l.invariant.3 (nulls_next s h)) c.put_comma-e.ensures) c.put_null-e.ensures)

pub shape_of-answer : goal.shape_of-answer
shape_of-answer c = c.loop-h.invariant.0

pub returns : goal.returns
returns c =
    let l = c.loop-h in
    due_none (due_is l.invariant.3 (nulls_end c.args.text.now c.in_default.is)) 80 (omega (arith, l.invariant.2, c.requires.g_len_bound))
