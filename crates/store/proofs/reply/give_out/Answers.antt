-- `store::reply::give_out` meets its contract.
use mathlib.Core.Path.{sym, subst}
use Prim.Native.Nat.{ℕ, ◌≤◌}
use Rattle.model.specs.Catalog.{packed_tables}
use Rattle.inner.specs.Working.{Ordered}
use Rattle.area.specs.Layout.{rows_at}
use Rattle.store.proofs.GivingOut.{out_spent, out_given}
use native.Mathlib.Omega.{arith}
use borrow.Author.Rules.{rules}
use Rattle.store.proofs.reply.give_out.Goals as goal

pub write-k-requires : goal.write-k-requires
write-k-requires c =
    let p = c.requires.store_bytes_in_bounds in
    record { accepted = c.requires.accepted; store_bytes_in_bounds = (p.0, omega (arith, p.1, c.row_count-n.ensures), p.2, p.3); ordered = (subst (λ (m : ℕ). Ordered m (rows_at m c.args.area.now)) (sym c.row_count-n.ensures) c.requires.ordered.0, c.requires.ordered.1) }

pub returns-then-left-k : goal.returns-then-left-k
returns-then-left-k c =
    let x = c.args in
    let low : c.number_of-number.result ≤ 4294967295 = search rules in
    out_spent (packed_tables x.schema.now) x.area.now x.rows.now x.count x.records.now x.answer.now c.row_count-n.result c.run_of-run.result c.number_of-number.result c.row_count-n.ensures c.run_of-run.ensures c.number_of-number.ensures low
    c.write-k.result c.write-k.ensures.value c.if-left-k.true c.write-k.auto.records c.refuse.ensures c.no_effect.ensures

pub returns : goal.returns
returns c =
    let x = c.args in
    let low : c.number_of-number.result ≤ 4294967295 = search rules in
    out_given (packed_tables x.schema.now) x.area.now x.rows.now x.count x.records.now x.answer.now c.row_count-n.result c.run_of-run.result c.number_of-number.result c.row_count-n.ensures c.run_of-run.ensures c.number_of-number.ensures low
    c.write-k.result c.write-k.ensures.value c.if-left-k.false c.write-k.ensures.records_after
