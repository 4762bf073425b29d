-- `store::reply::reply` meets its contract.
use mathlib.Core.Path.{◌≡◌, refl, sym, ◌∙◌}
use mathlib.Core.Bool.{true}
use Prim.Native.Nat.{◌≤◌}
use native.Mathlib.Omega.{arith}
use borrow.Author.Tests.{not-true, not-false}
use lib.ListN.{length}
use Rattle.model.specs.Limits.{store_bytes}
use Rattle.model.specs.Catalog.{packed_tables}
use Rattle.area.specs.Layout.{row_count}
use Rattle.area.specs.Writing.{number_in}
use Rattle.store.specs.GoodOrder.{run_in, Held}
use Rattle.store.specs.Replying.{reply_on, Asked}
use Rattle.store.proofs.After.{few_as, ordered_as, sound_as, settled_as}
use Rattle.store.proofs.Telling.{Replied, area_ordered}
use Rattle.store.proofs.Replies.{refused_asked, concluded_as}
use Rattle.store.proofs.Transacting.{lengths, transact_disordered, transact_stays, transact_commits}
use Rattle.store.proofs.reply.reply.Goals as goal

pub returns-then-not-opened : goal.returns-then-not-opened
returns-then-not-opened c =
    let a = c.args in
    (transact_disordered a.area.now a.request.now a.fresh.now a.records.now a.answer.now true (sym c.requires.answer_value) refl (c.opened.ensures.bad (c.if-not-opened.true)) c.refuse.ensures).1

pub row_count-n-requires : goal.row_count-n-requires
row_count-n-requires c =
    let sizes : (length c.args.area.now ≡ store_bytes) × (length c.args.fresh.now ≡ 256) × (26249 ≤ length c.args.records.now) = lengths c.args.area.now c.args.fresh.now c.args.records.now c.args.answer.now true (sym c.requires.answer_value) refl in
    omega (arith, (sizes).0)

pub judge-q-requires : goal.judge-q-requires
judge-q-requires c =
    let sizes : (length c.args.area.now ≡ store_bytes) × (length c.args.fresh.now ≡ 256) × (26249 ≤ length c.args.records.now) = lengths c.args.area.now c.args.fresh.now c.args.records.now c.args.answer.now true (sym c.requires.answer_value) refl in
    let held : Held c.args.area.now c.opened.new.schema c.opened.new.rows = c.opened.ensures.good (c.if-not-opened.false) in
    ((sizes).1, ordered_as (held) c.row_count-n.result c.row_count-n.ensures)

pub returns-then-not-q : goal.returns-then-not-q
returns-then-not-q c =
    let held : Held c.args.area.now c.opened.new.schema c.opened.new.rows = c.opened.ensures.good (c.if-not-opened.false) in
    let asked : let a = c.args in Asked c.opened.new.schema c.row_count-n.result c.opened.new.rows a.request.now a.fresh.now a.ends.now a.asked.count c.judge-q.result = c.judge-q.ensures _ c.requires.request_read in
    let a = c.args in
    let cells = c.opened.new.schema in
    let rows = c.opened.new.rows in
    (transact_stays a.area.now a.request.now a.fresh.now a.records.now a.answer.now true (sym c.requires.answer_value) refl cells rows (held)
    (refused_asked a.area.now cells rows (held) a.request.now a.fresh.now a.records.now a.answer.now c.row_count-n.result c.row_count-n.ensures (asked) ((not-true _ c.if-not-q.true)) c.refuse-then-not-q.ensures refl) refl).1

pub transact-o-requires : goal.transact-o-requires
transact-o-requires c =
    let held : Held c.args.area.now c.opened.new.schema c.opened.new.rows = c.opened.ensures.good (c.if-not-opened.false) in
    let asked : let a = c.args in Asked c.opened.new.schema c.row_count-n.result c.opened.new.rows a.request.now a.fresh.now a.ends.now a.asked.count c.judge-q.result = c.judge-q.ensures _ c.requires.request_read in
    let k = held in
    let q = asked in
    let h = (not-false _ c.if-not-q.false) in
    record { readable = q.running h; accepted = k.accepted; ops_len_bound = q.few h; n_le_most_rows = (few_as k c.row_count-n.result c.row_count-n.ensures, λ m low few. omega (arith, c.opened.auto.rows, c.requires.rows_fit.1 m (omega (arith, low, c.row_count-n.ensures, q.counted h)) few)); sure = record { sound = sound_as k c.row_count-n.result c.row_count-n.ensures; lawful = settled_as k c.row_count-n.result c.row_count-n.ensures; ids = q.ids h; operations = q.operations h } }

pub conclude-e-requires : goal.conclude-e-requires
conclude-e-requires c =
    let sizes : (length c.args.area.now ≡ store_bytes) × (length c.args.fresh.now ≡ 256) × (26249 ≤ length c.args.records.now) = lengths c.args.area.now c.args.fresh.now c.args.records.now c.args.answer.now true (sym c.requires.answer_value) refl in
    let held : Held c.args.area.now c.opened.new.schema c.opened.new.rows = c.opened.ensures.good (c.if-not-opened.false) in
    let a = c.args in
    let k = held in
    let z = sizes in
    record { accepted = k.accepted; store_bytes_in_bounds = (omega (arith, z.0), k.few, c.transact-o.ensures.few, z.2); ordered = (area_ordered (row_count a.area.now) c.opened.new.rows a.area.now k.read k.ordered, c.transact-o.ensures.ordered) }

pub number_of-requires : goal.number_of-requires
number_of-requires c =
    let sizes : (length c.args.area.now ≡ store_bytes) × (length c.args.fresh.now ≡ 256) × (26249 ≤ length c.args.records.now) = lengths c.args.area.now c.args.fresh.now c.args.records.now c.args.answer.now true (sym c.requires.answer_value) refl in
    omega (arith, (sizes).0)

pub overflow_cast-next : goal.overflow_cast-next
overflow_cast-next c =
    let held : Held c.args.area.now c.opened.new.schema c.opened.new.rows = c.opened.ensures.good (c.if-not-opened.false) in
    let asked : let a = c.args in Asked c.opened.new.schema c.row_count-n.result c.opened.new.rows a.request.now a.fresh.now a.ends.now a.asked.count c.judge-q.result = c.judge-q.ensures _ c.requires.request_read in
    let replied : let a = c.args in let cells = c.opened.new.schema in let rows = c.opened.new.rows in let n = row_count a.area.now in Replied (packed_tables cells) (reply_on cells (number_in a.area.now) n rows a.request.now a.fresh.now (length a.answer.now)) (run_in a.area.now) (number_in a.area.now) n rows c.transact-o.new.rows a.records.now c.conclude-e.new.records a.answer.now c.conclude-e.new.answer c.conclude-e.result = let a = c.args in
    concluded_as a.area.now c.opened.new.schema c.opened.new.rows (held) a.request.now a.fresh.now a.records.now a.answer.now c.row_count-n.result c.row_count-n.ensures
    (asked) ((not-false _ c.if-not-q.false)) c.clear.ensures c.transact-o.ensures (c.transact-o.auto.answer ∙ c.clear.auto.b) c.conclude-e.ensures in
    omega (arith, (replied).last)

pub overflow_add-next : goal.overflow_add-next
overflow_add-next c =
    let held : Held c.args.area.now c.opened.new.schema c.opened.new.rows = c.opened.ensures.good (c.if-not-opened.false) in
    let asked : let a = c.args in Asked c.opened.new.schema c.row_count-n.result c.opened.new.rows a.request.now a.fresh.now a.ends.now a.asked.count c.judge-q.result = c.judge-q.ensures _ c.requires.request_read in
    let replied : let a = c.args in let cells = c.opened.new.schema in let rows = c.opened.new.rows in let n = row_count a.area.now in Replied (packed_tables cells) (reply_on cells (number_in a.area.now) n rows a.request.now a.fresh.now (length a.answer.now)) (run_in a.area.now) (number_in a.area.now) n rows c.transact-o.new.rows a.records.now c.conclude-e.new.records a.answer.now c.conclude-e.new.answer c.conclude-e.result = let a = c.args in
    concluded_as a.area.now c.opened.new.schema c.opened.new.rows (held) a.request.now a.fresh.now a.records.now a.answer.now c.row_count-n.result c.row_count-n.ensures
    (asked) ((not-false _ c.if-not-q.false)) c.clear.ensures c.transact-o.ensures (c.transact-o.auto.answer ∙ c.clear.auto.b) c.conclude-e.ensures in
    omega (arith, (replied).last, c.number_of.ensures)

pub write_number-requires : goal.write_number-requires
write_number-requires c =
    let sizes : (length c.args.area.now ≡ store_bytes) × (length c.args.fresh.now ≡ 256) × (26249 ≤ length c.args.records.now) = lengths c.args.area.now c.args.fresh.now c.args.records.now c.args.answer.now true (sym c.requires.answer_value) refl in
    omega (arith, (sizes).0)

pub write_rows-requires : goal.write_rows-requires
write_rows-requires c =
    let sizes : (length c.args.area.now ≡ store_bytes) × (length c.args.fresh.now ≡ 256) × (26249 ≤ length c.args.records.now) = lengths c.args.area.now c.args.fresh.now c.args.records.now c.args.answer.now true (sym c.requires.answer_value) refl in
    let held : Held c.args.area.now c.opened.new.schema c.opened.new.rows = c.opened.ensures.good (c.if-not-opened.false) in
    let asked : let a = c.args in Asked c.opened.new.schema c.row_count-n.result c.opened.new.rows a.request.now a.fresh.now a.ends.now a.asked.count c.judge-q.result = c.judge-q.ensures _ c.requires.request_read in
    let replied : let a = c.args in let cells = c.opened.new.schema in let rows = c.opened.new.rows in let n = row_count a.area.now in Replied (packed_tables cells) (reply_on cells (number_in a.area.now) n rows a.request.now a.fresh.now (length a.answer.now)) (run_in a.area.now) (number_in a.area.now) n rows c.transact-o.new.rows a.records.now c.conclude-e.new.records a.answer.now c.conclude-e.new.answer c.conclude-e.result = let a = c.args in
    concluded_as a.area.now c.opened.new.schema c.opened.new.rows (held) a.request.now a.fresh.now a.records.now a.answer.now c.row_count-n.result c.row_count-n.ensures
    (asked) ((not-false _ c.if-not-q.false)) c.clear.ensures c.transact-o.ensures (c.transact-o.auto.answer ∙ c.clear.auto.b) c.conclude-e.ensures in
    let w = replied in
    (w.long c.if-commits.true, w.few, omega (arith, (sizes).0, c.write_number.auto.area))

pub shape_of-rows-then-commits : goal.shape_of-rows-then-commits
shape_of-rows-then-commits c =
    let rows_kept : length c.transact-o.new.rows ≡ length c.args.rows.now = c.transact-o.auto.rows ∙ c.opened.auto.rows in
    rows_kept

pub shape_of-answer-then-commits : goal.shape_of-answer-then-commits
shape_of-answer-then-commits c =
    c.conclude-e.auto.answer ∙ c.transact-o.auto.answer ∙ c.clear.auto.b

pub returns-then-commits : goal.returns-then-commits
returns-then-commits c =
    let held : Held c.args.area.now c.opened.new.schema c.opened.new.rows = c.opened.ensures.good (c.if-not-opened.false) in
    let asked : let a = c.args in Asked c.opened.new.schema c.row_count-n.result c.opened.new.rows a.request.now a.fresh.now a.ends.now a.asked.count c.judge-q.result = c.judge-q.ensures _ c.requires.request_read in
    let replied : let a = c.args in let cells = c.opened.new.schema in let rows = c.opened.new.rows in let n = row_count a.area.now in Replied (packed_tables cells) (reply_on cells (number_in a.area.now) n rows a.request.now a.fresh.now (length a.answer.now)) (run_in a.area.now) (number_in a.area.now) n rows c.transact-o.new.rows a.records.now c.conclude-e.new.records a.answer.now c.conclude-e.new.answer c.conclude-e.result = let a = c.args in
    concluded_as a.area.now c.opened.new.schema c.opened.new.rows (held) a.request.now a.fresh.now a.records.now a.answer.now c.row_count-n.result c.row_count-n.ensures
    (asked) ((not-false _ c.if-not-q.false)) c.clear.ensures c.transact-o.ensures (c.transact-o.auto.answer ∙ c.clear.auto.b) c.conclude-e.ensures in
    let a = c.args in
    (transact_commits a.area.now a.request.now a.fresh.now a.records.now a.answer.now true (sym c.requires.answer_value) refl c.opened.new.schema c.opened.new.rows (held)
    (replied) c.if-commits.true c.number_of.result c.number_of.ensures c.write_number.new.area c.write_rows.new.area c.write_number.ensures c.write_rows.ensures).1

pub shape_of-rows-else-commits : goal.shape_of-rows-else-commits
shape_of-rows-else-commits c =
    let rows_kept : length c.transact-o.new.rows ≡ length c.args.rows.now = c.transact-o.auto.rows ∙ c.opened.auto.rows in
    rows_kept

pub returns-else-commits : goal.returns-else-commits
returns-else-commits c =
    let held : Held c.args.area.now c.opened.new.schema c.opened.new.rows = c.opened.ensures.good (c.if-not-opened.false) in
    let asked : let a = c.args in Asked c.opened.new.schema c.row_count-n.result c.opened.new.rows a.request.now a.fresh.now a.ends.now a.asked.count c.judge-q.result = c.judge-q.ensures _ c.requires.request_read in
    let replied : let a = c.args in let cells = c.opened.new.schema in let rows = c.opened.new.rows in let n = row_count a.area.now in Replied (packed_tables cells) (reply_on cells (number_in a.area.now) n rows a.request.now a.fresh.now (length a.answer.now)) (run_in a.area.now) (number_in a.area.now) n rows c.transact-o.new.rows a.records.now c.conclude-e.new.records a.answer.now c.conclude-e.new.answer c.conclude-e.result = let a = c.args in
    concluded_as a.area.now c.opened.new.schema c.opened.new.rows (held) a.request.now a.fresh.now a.records.now a.answer.now c.row_count-n.result c.row_count-n.ensures
    (asked) ((not-false _ c.if-not-q.false)) c.clear.ensures c.transact-o.ensures (c.transact-o.auto.answer ∙ c.clear.auto.b) c.conclude-e.ensures in
    let a = c.args in
    (transact_stays a.area.now a.request.now a.fresh.now a.records.now a.answer.now true (sym c.requires.answer_value) refl c.opened.new.schema c.opened.new.rows (held)
    (replied) c.if-commits.false).1
