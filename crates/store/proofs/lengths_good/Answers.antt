-- `store::lengths_good` meets its contract.
use borrow.Author.Tests.{eq-eqb, ne_eqb, le-leb, lt-leb}
use Rattle.store.proofs.Transacting.{and_true}
use Rattle.store.proofs.lengths_good.Goals as goal

pub returns-then-area-ne-STORE_BYTES : goal.returns-then-area-ne-STORE_BYTES
returns-then-area-ne-STORE_BYTES c = rw (ne_eqb _ _ c.if-area-ne-STORE_BYTES.true)

pub returns-then-fresh-ne-FRESH_BYTES : goal.returns-then-fresh-ne-FRESH_BYTES
returns-then-fresh-ne-FRESH_BYTES c = rw (eq-eqb _ _ c.if-area-ne-STORE_BYTES.false, ne_eqb _ _ c.if-fresh-ne-FRESH_BYTES.true)

pub returns-then-records-lt-LEAST_RECORDS : goal.returns-then-records-lt-LEAST_RECORDS
returns-then-records-lt-LEAST_RECORDS c = rw (eq-eqb _ _ c.if-area-ne-STORE_BYTES.false, eq-eqb _ _ c.if-fresh-ne-FRESH_BYTES.false, lt-leb _ _ c.if-records-lt-LEAST_RECORDS.true)

pub returns : goal.returns
returns c = rw (eq-eqb _ _ c.if-area-ne-STORE_BYTES.false, eq-eqb _ _ c.if-fresh-ne-FRESH_BYTES.false, le-leb _ _ c.if-records-lt-LEAST_RECORDS.false) (and_true _)
