-- `mirror::start` meets its contract.
use native.Mathlib.Omega.{arith}
use Rattle.mirror.proofs.Starting.{start_other, start_refused, start_is}
use Rattle.mirror.proofs.Numbered.{start_numbered}
use borrow.Author.Rules.{rules}
use Rattle.mirror.proofs.start.Goals as goal

pub returns-then-area-ne-MIRROR_BYTES : goal.returns-then-area-ne-MIRROR_BYTES
returns-then-area-ne-MIRROR_BYTES c =
    let a = c.args in
    let both = start_numbered a.area.now a.schema.now a.run (start_other a.area.now a.schema.now a.run c.if-area-ne-MIRROR_BYTES.true) in
    record { result_value = both.0; run_value = both.1 }

pub returns-then-not-read : goal.returns-then-not-read
returns-then-not-read c =
    let a = c.args in
    let both = start_numbered a.area.now a.schema.now a.run (start_refused a.area.now a.schema.now a.run c.if-area-ne-MIRROR_BYTES.false (c.read.ensures.refused (c.if-not-read.true))) in
    record { result_value = both.0; run_value = both.1 }

pub write_store-requires : goal.write_store-requires
write_store-requires c = record { store_bytes_in_bounds = search rules; n_in_bounds = (omega arith, omega arith) }

pub returns : goal.returns
returns c =
    let a = c.args in
    let both = start_numbered a.area.now a.schema.now a.run (start_is a.area.now a.schema.now a.run c.if-area-ne-MIRROR_BYTES.false _ _ _ _ (c.read.ensures.database (c.if-not-read.false)) (omega (arith, c.ranges.run)) (c.write_store.ensures _ (c.read.ensures.accepted (c.if-not-read.false)).same tt) c.write_tail.ensures) in
    record { result_value = both.0; run_value = both.1 }
