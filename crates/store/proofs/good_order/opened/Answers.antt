-- `store::good_order::opened` meets its contract.
use mathlib.Core.Path.{sym, ap, ◌∙◌}
use Rattle.catalog.specs.Accepted.{is_accepted}
use Rattle.area.proofs.States.{store_refused, store_other}
use Rattle.store.proofs.Opening.{opened_other, opened_refused, opened_rows}
use Rattle.store.proofs.good_order.opened.Goals as goal

pub returns-then-area-ne-STORE_BYTES : goal.returns-then-area-ne-STORE_BYTES
returns-then-area-ne-STORE_BYTES c =
    let s = c.args in
    opened_other s.area.now s.schema.now s.rows.now s.rows.now c.if-area-ne-STORE_BYTES.true (store_other s.area.now c.if-area-ne-STORE_BYTES.true)

pub returns-then-not-is_accepted : goal.returns-then-not-is_accepted
returns-then-not-is_accepted c =
    let a = c.args in
    opened_refused a.area.now a.schema.now a.rows.now a.rows.now c.if-area-ne-STORE_BYTES.false _ c.read_catalog.ensures (store_refused a.area.now (ap is_accepted (sym c.read_catalog.ensures) ∙ sym c.is_accepted.ensures ∙ c.if-not-is_accepted.true))

pub rows_opened-requires : goal.rows_opened-requires
rows_opened-requires c = record { area_len = (c.if-area-ne-STORE_BYTES.false, c.requires); kept = record { there = c.read_catalog.ensures; accepted = sym c.is_accepted.ensures ∙ c.if-not-is_accepted.false } }

pub returns : goal.returns
returns c =
    let a = c.args in
    opened_rows a.area.now a.schema.now a.rows.now _ c.if-area-ne-STORE_BYTES.false _ c.read_catalog.ensures c.rows_opened.ensures
