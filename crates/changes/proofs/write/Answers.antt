-- `changes::write` meets its contract.
use mathlib.Core.Path.{◌≡◌, sym, ◌∙◌}
use mathlib.Core.List.{List, [], ◌++◌}
use Prim.Native.Nat.{ℕ, ◌+◌, ◌*◌}
use native.Mathlib.Omega.{arith}
use lib.ListN.{length, replicate}
use Rattle.model.specs.Schema.{Schema}
use Rattle.model.specs.Catalog.{packed_tables}
use Rattle.model.specs.Rows.{Row}
use Rattle.model.specs.Records.{Change, gones, walk}
use Rattle.inner.specs.Working.{working}
use Rattle.area.specs.Layout.{rows_at}
use Rattle.changes.specs.Walk.{Recorded, row_most}
use Rattle.changes.proofs.Writing.{recorded_is, recorded_then, finished_count, finished_bytes}
use Rattle.changes.proofs.Rows.{closed_none, closed_some}
use Rattle.changes.proofs.write.Goals as goal

pub put_gones-to-requires : goal.put_gones-to-requires
put_gones-to-requires c =
    let p = c.requires.store_bytes_in_bounds in
    let l = c.clear.auto.b in
    record { store_bytes_in_bounds = (p.0, p.1); ordered = c.requires.ordered.1; room = record { few = omega arith; room = omega (arith, p); enough = omega (arith, l, p) } }

pub put_rows-to-requires : goal.put_rows-to-requires
put_rows-to-requires c =
    let p = c.requires.store_bytes_in_bounds in
    let l = c.put_gones-to.auto.records ∙ c.clear.auto.b in
    record { accepted = c.requires.accepted; store_bytes_in_bounds = (p.0, p.1); ordered = c.requires.ordered; room = record { few = (c.put_gones-to.ensures []).few; room = omega (arith, (c.put_gones-to.ensures []).short, p); enough = omega (arith, l, p) } }

pub returns-then-to-eq0 : goal.returns-then-to-eq0
returns-then-to-eq0 c =
    let schema : Schema = packed_tables c.args.schema.now in
    let before : List Row = working schema c.args.m (rows_at c.args.m c.args.area.now) in
    let after : List Row = working schema c.args.n c.args.after.now in
    let changed : List Change = gones after before ++ walk schema before after in
    let most : ℕ = 26 * c.args.m + row_most * c.args.n in
    let whole : Recorded c.args.run c.args.number changed most (record { count = 0; at = 0 }) c.clear.new.b c.put_rows-to.result c.put_rows-to.new.records = recorded_then (c.put_gones-to.ensures schema) c.put_rows-to.ensures in
    let cleared : c.clear.new.b ≡ replicate (length c.args.records.now) 0 = c.clear.ensures in
    let none : length (changed) ≡ 0 = sym (finished_count (whole)) ∙ c.if-to-eq0.true in
    let p = recorded_is (whole) (closed_none (changed) none) (most) (omega arith) in
    record { value = sym c.if-to-eq0.true ∙ finished_count p; records_after = finished_bytes p (length c.args.records.now) (cleared) }

pub put_end-to-requires : goal.put_end-to-requires
put_end-to-requires c =
    let p = c.requires.store_bytes_in_bounds in
    let q = c.put_gones-to.ensures [] in
    let o = c.put_rows-to.ensures in
    let l = c.put_rows-to.auto.records ∙ c.put_gones-to.auto.records ∙ c.clear.auto.b in
    record { few = o.few; room = omega (arith, q.short, o.short, p); enough = omega (arith, l, p) }

pub returns : goal.returns
returns c =
    let schema : Schema = packed_tables c.args.schema.now in
    let before : List Row = working schema c.args.m (rows_at c.args.m c.args.area.now) in
    let after : List Row = working schema c.args.n c.args.after.now in
    let changed : List Change = gones after before ++ walk schema before after in
    let most : ℕ = 26 * c.args.m + row_most * c.args.n in
    let whole : Recorded c.args.run c.args.number changed most (record { count = 0; at = 0 }) c.clear.new.b c.put_rows-to.result c.put_rows-to.new.records = recorded_then (c.put_gones-to.ensures schema) c.put_rows-to.ensures in
    let cleared : c.clear.new.b ≡ replicate (length c.args.records.now) 0 = c.clear.ensures in
    let p = recorded_is (recorded_then (whole) c.put_end-to.ensures) (closed_some (changed) (λ h. c.if-to-eq0.false (finished_count (whole) ∙ h))) (most + 9) (omega arith) in
    record { value = finished_count p; records_after = finished_bytes p (length c.args.records.now) (cleared) }
