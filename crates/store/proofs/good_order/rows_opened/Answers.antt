-- `store::good_order::rows_opened` meets its contract.
use mathlib.Core.Path.{sym, subst, ◌∙◌}
use Prim.Native.Nat.{ℕ}
use native.Mathlib.Omega.{arith}
use Rattle.inner.specs.Working.{Ordered}
use Rattle.model.proofs.Octets.{octets}
use Rattle.store.proofs.Opening.{cells_accepted, rows_few, opened_part, opened_types, opened_rules}
use Rattle.store.proofs.good_order.rows_opened.Goals as goal

pub part_good-requires : goal.part_good-requires
part_good-requires c = record { accepted = cells_accepted c.args.area.now c.args.schema.now c.requires.kept; store_bytes_in_bounds = (omega (arith, c.requires.area_len.0), c.requires.area_len.1) }

pub returns-then-not-part_good : goal.returns-then-not-part_good
returns-then-not-part_good c =
    let a = c.args.area.now in
    opened_part a c.args.schema.now c.requires.kept c.requires.area_len.0 (octets a (λ i. (c.shared_slice_known-1.given i).fits)) c.args.rows.now c.part_good.new.rows c.part_good.result c.part_good.ensures c.part_good.auto.rows (c.if-not-part_good.true)

pub rows_meet-requires : goal.rows_meet-requires
rows_meet-requires c =
    let a = c.args.area.now in
    let few = rows_few a c.args.schema.now c.requires.kept c.requires.area_len.0 (octets a (λ i. (c.shared_slice_known-1.given i).fits)) c.args.rows.now c.part_good.new.rows c.part_good.result c.part_good.ensures (c.if-not-part_good.false) in
    record { accepted = cells_accepted a c.args.schema.now c.requires.kept; n_in_bounds = omega (arith, c.row_count-n.ensures, c.part_good.auto.rows, c.requires.area_len.1 few) }

pub returns-then-not-rows_meet : goal.returns-then-not-rows_meet
returns-then-not-rows_meet c =
    let a = c.args.area.now in
    opened_types a c.args.schema.now c.requires.kept c.requires.area_len.0 (octets a (λ i. (c.shared_slice_known-1.given i).fits)) c.args.rows.now c.part_good.new.rows c.part_good.result c.part_good.ensures (c.if-not-part_good.false)
    c.row_count-n.result c.row_count-n.ensures c.part_good.auto.rows (sym c.rows_meet.ensures ∙ c.if-not-rows_meet.true)

pub lawful-requires : goal.lawful-requires
lawful-requires c =
    let a = c.args.area.now in
    record { accepted = cells_accepted a c.args.schema.now c.requires.kept; ordered = subst (λ (n : ℕ). Ordered n c.part_good.new.rows) (sym c.row_count-n.ensures) (c.part_good.ensures.ordered (c.if-not-part_good.false)) }

pub returns : goal.returns
returns c =
    let a = c.args.area.now in
    opened_rules a c.args.schema.now c.requires.kept c.requires.area_len.0 (octets a (λ i. (c.shared_slice_known-1.given i).fits)) c.args.rows.now c.part_good.new.rows c.part_good.result c.part_good.ensures (c.if-not-part_good.false)
    c.row_count-n.result c.row_count-n.ensures (sym c.rows_meet.ensures ∙ c.if-not-rows_meet.false) c.part_good.auto.rows c.lawful.result c.lawful.ensures
