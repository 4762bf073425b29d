-- `store::start` meets its contract.
use native.Mathlib.Omega.{arith}
use Rattle.store.proofs.Calls.{start_numbered, start_length, start_schema, start_made}
use Rattle.store.proofs.start.Goals as goal

pub returns-then-area-ne-STORE_BYTES : goal.returns-then-area-ne-STORE_BYTES
returns-then-area-ne-STORE_BYTES c =
    let a = c.args in
    let both = start_numbered a.area.now a.schema.now a.run (start_length a.area.now a.schema.now a.run c.if-area-ne-STORE_BYTES.true) in
    record { result_value = both.0; value = both.1.0; area_after = both.1.1 }

pub returns-then-not-read : goal.returns-then-not-read
returns-then-not-read c =
    let a = c.args in
    let both = start_numbered a.area.now a.schema.now a.run (start_schema a.area.now a.schema.now a.run c.if-area-ne-STORE_BYTES.false (c.read.ensures.refused (c.if-not-read.true))) in
    record { result_value = both.0; value = both.1.0; area_after = both.1.1 }

pub write_store-requires : goal.write_store-requires
write_store-requires c = record { store_bytes_in_bounds = omega (arith, c.if-area-ne-STORE_BYTES.false); n_in_bounds = (omega arith, omega arith) }

pub returns : goal.returns
returns c =
    let a = c.args in
    let e = c.if-not-read.false in
    let both = start_numbered a.area.now a.schema.now a.run (start_made a.area.now a.schema.now a.run c.if-area-ne-STORE_BYTES.false _ _ c.write_store.new.area (c.read.ensures.database e) (c.write_store.ensures _ (c.read.ensures.accepted e).same tt)) in
    record { result_value = both.0; value = both.1.0; area_after = both.1.1 }
