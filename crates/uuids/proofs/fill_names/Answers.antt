-- `uuids::fill_names` meets its contract.
use mathlib.Core.Path.{ap, ◌∙◌}
use Prim.Native.Nat.{ℕ}
use lib.ListN.{replicate}
use Rattle.nav.proofs.Walk.{walk_fine, walk_less}
use Rattle.uuids.proofs.Table.{filling_start, filling_room, filling_on, filling_end}
use Rattle.uuids.proofs.fill_names.Goals as goal

pub loop-g-init : goal.loop-g-init
loop-g-init c =
    let a = c.args in
    filling_start a.text.now a.ops a.fresh.now c.clear.new.b c.put_bytes.new.out c.requires.ops_value c.requires.fresh_len (c.clear.ensures ∙ ap (λ (n : ℕ). replicate {A = ℕ} n 0) c.requires.names_len) c.put_bytes.ensures

pub entry_of-q-requires : goal.entry_of-q-requires
entry_of-q-requires c = record { says = c.requires.says; at_value = (walk_fine c.args.text.now c.in-Some.is c.loop-g.invariant.fine).0; text_len_bound = c.requires.text_len_bound }

pub put_entry-requires : goal.put_entry-requires
put_entry-requires c =
    let a = c.args in
    record { names_len = c.loop-g.invariant.size; k_lt_most_operations = filling_room a.text.now a.ops a.fresh.now c.loop-g.invariant c.in-Some.is c.requires.ops_len_bound; q_bound = c.entry_of-q.ensures.fits }

pub loop-g-smaller : goal.loop-g-smaller
loop-g-smaller c =
    rw c.next_item-g.ensures (walk_less c.args.text.now c.in-Some.is)

pub loop-g-preserved : goal.loop-g-preserved
loop-g-preserved c =
    let a = c.args in
    let h = c.in-Some.is in
    let t = c.loop-g.invariant in
    rw c.put_entry.ensures
    (filling_on a.text.now a.ops a.fresh.now t h (filling_room a.text.now a.ops a.fresh.now t h c.requires.ops_len_bound) c.entry_of-q.ensures c.next_item-g.ensures)

pub returns : goal.returns
returns c =
    let a = c.args in
    filling_end a.text.now a.ops a.fresh.now c.loop-g.invariant c.in_default.is
