-- `operations::run` meets its contract.
use Prim.Native.Nat.{◌≤◌}
use mathlib.Core.Path.{refl, sym, ap, ◌∙◌}
use native.Mathlib.Omega.{arith}
use lib.ListN.{length}
use Rattle.inner.specs.Positions.{well_at}
use Rattle.catalog.proofs.Laws.{few_tables}
use Rattle.nav.proofs.Walk.{walk_rest, walk_fine, walk_less}
use Rattle.operations.proofs.Going.{going_start, going_end, going_more, going_on, going_stop}
use Rattle.operations.proofs.run.Goals as goal

pub loop-g-init : goal.loop-g-init
loop-g-init c =
    (refl, refl, going_start _ _ _ _ _ _ _ _ c.requires.listed.fine c.requires.listed.few c.requires.n_le_most_rows)

pub shape_of-rows-in_default : goal.shape_of-rows-in_default
shape_of-rows-in_default c = c.loop-g.invariant.0

pub shape_of-answer-in_default : goal.shape_of-answer-in_default
shape_of-answer-in_default c = c.loop-g.invariant.1 ∙ c.put_byte-at.auto.out

pub returns-in_default : goal.returns-in_default
returns-in_default c = going_end c.loop-g.invariant.2 c.put_byte-at.ensures c.in_default.is

pub put_comma-at-requires : goal.put_comma-at-requires
put_comma-at-requires c =
    omega (arith, c.loop-g.invariant.2.short, c.loop-g.invariant.2.size, c.put_byte-at.ensures.short)

pub read-call-requires : goal.read-call-requires
read-call-requires c = record { says = c.requires.running.says; op_value = (walk_fine c.args.text.now c.in-Some.is c.loop-g.invariant.2.fine).0; schema_bound = few_tables _ c.requires.accepted }

pub operate-d-requires : goal.operate-d-requires
operate-d-requires c =
    let short : c.put_comma-at.result ≤ 4000000 = let v = c.loop-g.invariant.2 in omega (arith, v.short, v.size, c.put_comma-at.ensures.short, c.put_byte-at.ensures.short) in
    let v = c.loop-g.invariant in
    let h = c.in-Some.is in
    let e = c.read-call.ensures in
    record {
      begun = record {
        running = c.requires.running;
        accepted = c.requires.accepted;
        well = ap (well_at c.args.text.now) e.at ∙ (walk_fine c.args.text.now h v.2.fine).0;
        early = omega (arith, e.number, going_more v.2 h);
        here = e.here;
        count = omega (arith, e.count, v.2.few);
        room = λ j low few. v.2.room j (omega (arith, low, e.count, ap length (walk_rest c.args.text.now h))) few;
      };
      result_most_bound = omega (arith, short);
    }

pub next_item-g-requires : goal.next_item-g-requires
next_item-g-requires c = c.requires.running.says

pub put_result-at-requires : goal.put_result-at-requires
put_result-at-requires c =
    let short : c.put_comma-at.result ≤ 4000000 = let v = c.loop-g.invariant.2 in omega (arith, v.short, v.size, c.put_comma-at.ensures.short, c.put_byte-at.ensures.short) in
    record { result_most_bound = omega (arith, short); fresh_bytes_in_bounds = omega (arith, c.requires.running.size); i_lt_most_operations = going_more c.loop-g.invariant.2 c.in-Some.is }

pub overflow_add-i : goal.overflow_add-i
overflow_add-i c = omega (arith, c.loop-g.invariant.2.size)

pub loop-g-smaller : goal.loop-g-smaller
loop-g-smaller c =
    rw c.next_item-g.ensures (walk_less c.args.text.now c.in-Some.is)

pub loop-g-preserved : goal.loop-g-preserved
loop-g-preserved c =
    let v = c.loop-g.invariant in
    (c.operate-d.auto.rows ∙ v.0, c.put_result-at.auto.answer ∙ c.operate-d.auto.answer ∙ c.put_comma-at.auto.out ∙ v.1, going_on v.2 c.in-Some.is c.requires.listed.places c.put_comma-at.ensures c.read-call.ensures c.operate-d.ensures c.operate-d.auto.rows (sym c.is_fine.ensures ∙ c.if-is_fine.true) c.put_result-at.ensures refl c.next_item-g.ensures c.may_change-pending.ensures)

pub stop-requires : goal.stop-requires
stop-requires c =
    let short : c.put_comma-at.result ≤ 4000000 = let v = c.loop-g.invariant.2 in omega (arith, v.short, v.size, c.put_comma-at.ensures.short, c.put_byte-at.ensures.short) in
    let v = c.loop-g.invariant.2 in
    let h = c.in-Some.is in
    record {
      says = c.requires.running.says;
      g_value = rw c.next_item-g.ensures (walk_fine c.args.text.now h v.fine).1;
      g_len_bound = rw c.next_item-g.ensures (omega (arith, v.size, ap length (walk_rest c.args.text.now h)));
      stop_most_bound = omega (arith, short);
    }

pub shape_of-rows-else-is_fine : goal.shape_of-rows-else-is_fine
shape_of-rows-else-is_fine c = c.operate-d.auto.rows ∙ c.loop-g.invariant.0

pub shape_of-answer-else-is_fine : goal.shape_of-answer-else-is_fine
shape_of-answer-else-is_fine c =
    c.stop.auto.answer ∙ c.operate-d.auto.answer ∙ c.put_comma-at.auto.out ∙ c.loop-g.invariant.1 ∙ c.put_byte-at.auto.out

pub returns-else-is_fine : goal.returns-else-is_fine
returns-else-is_fine c =
    going_stop c.loop-g.invariant.2 c.in-Some.is c.requires.listed.places c.put_comma-at.ensures c.read-call.ensures c.operate-d.ensures c.operate-d.auto.rows c.put_byte-at.ensures (sym c.is_fine.ensures ∙ c.if-is_fine.false) c.next_item-g.ensures c.stop.ensures
