-- `arrival::acts` meets its contract.
use mathlib.Core.List.{List}
use mathlib.Core.Path.{ap, ◌∙◌}
use Prim.Native.Nat.{ℕ}
use native.Mathlib.Omega.{arith}
use Rattle.inner.proofs.Working.{working_length}
use Rattle.model.specs.Octets.{value}
use Rattle.model.specs.Catalog.{packed_tables}
use Rattle.model.specs.Records.{known}
use Rattle.model.specs.Rows.{key_of, has}
use Rattle.inner.specs.Working.{working}
use Rattle.record.specs.Reading.{id_in}
use Rattle.arrival.proofs.Doing.{left_as, narrow, born_known, born_room, gone_there, gone_some, column_known, column_here, acts_born, acts_gone, acts_column}
use Rattle.arrival.proofs.acts.Goals as goal

pub born-requires : goal.born-requires
born-requires c =
    let a = c.args in
    let e = c.in-Born.is in
    let r = c.in-Born.r in
    let rows = working (packed_tables a.schema.now) a.count a.rows.now in
    let p = c.id_of-id.ensures in
    record { accepted = c.requires.accepted; count_lt_most_rows = (omega (arith, born_room a.schema.now c.requires.accepted a.arrival a.bytes.now rows c.requires.welcome r e, working_length (packed_tables a.schema.now) a.rows.now a.count (omega (arith, c.requires.ready))), c.requires.ready.room); id_value = ap (λ (l : List ℕ). known (packed_tables a.schema.now) r.table (value l)) p ∙ born_known a.schema.now c.requires.accepted a.arrival a.bytes.now rows c.requires.welcome r e }

pub overflow_sub-result : goal.overflow_sub-result
overflow_sub-result c =
    let a = c.args in
    omega (arith, gone_some a.schema.now c.requires.accepted a.arrival a.bytes.now (working (packed_tables a.schema.now) a.count a.rows.now) c.requires.welcome c.in-Gone.r c.in-Gone.is, working_length (packed_tables a.schema.now) a.rows.now a.count (omega (arith, c.requires.ready)))

pub set-requires : goal.set-requires
set-requires c =
    let a = c.args in
    let e = c.in-Column.is in
    let r = c.in-Column.r in
    let rows = working (packed_tables a.schema.now) a.count a.rows.now in
    let w = c.requires.welcome in
    record { ready = c.requires.ready; c_lt_most_columns = omega (arith, c.wide.ensures, column_here a.schema.now c.requires.accepted a.arrival a.bytes.now rows w r e, narrow a.schema.now c.requires.accepted r.table (value (id_in a.bytes.now)) (column_known a.schema.now c.requires.accepted a.arrival a.bytes.now rows w r e)) }

pub returns-in-Born : goal.returns-in-Born
returns-in-Born c =
    let a = c.args in
    let t = packed_tables a.schema.now in
    let rows = working t a.count a.rows.now in
    left_as t _ _ a.count a.rows.now _ c.born.new.rows (acts_born t a.arrival a.bytes.now rows _ c.id_of-id.ensures c.in-Born.r c.in-Born.is) c.born.ensures

pub returns-in-Gone : goal.returns-in-Gone
returns-in-Gone c =
    let a = c.args in
    let t = packed_tables a.schema.now in
    let rows = working t a.count a.rows.now in
    let e = c.in-Gone.is in
    let r = c.in-Gone.r in
    let p = c.id_of-id-in-Gone.ensures in
    left_as t _ _ a.count a.rows.now _ c.gone.new.rows (acts_gone t a.arrival a.bytes.now rows _ p r e)
    (c.gone.ensures t (ap (λ (l : List ℕ). has (key_of r.table (value l)) rows) p ∙ gone_there a.schema.now c.requires.accepted a.arrival a.bytes.now rows c.requires.welcome r e))

pub returns-in-Column : goal.returns-in-Column
returns-in-Column c =
    let a = c.args in
    let t = packed_tables a.schema.now in
    let rows = working t a.count a.rows.now in
    let e = c.in-Column.is in
    let r = c.in-Column.r in
    let w = c.requires.welcome in
    let p = c.id_of-id-in-Column.ensures in
    let v = c.wide.ensures in
    let h = column_known a.schema.now c.requires.accepted a.arrival a.bytes.now rows w r e in
    left_as t _ _ a.count a.rows.now _ c.set.new.rows (acts_column t a.arrival a.bytes.now rows _ p r _ _ e v c.atoms-atoms.ensures)
    (c.set.ensures t (ap (λ (l : List ℕ). known t r.table (value l)) p ∙ h)
    (omega (arith, v, column_here a.schema.now c.requires.accepted a.arrival a.bytes.now rows w r e))
    (narrow a.schema.now c.requires.accepted r.table (value (id_in a.bytes.now)) h))
