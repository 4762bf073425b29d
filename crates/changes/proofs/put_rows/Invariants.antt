-- The loop of `changes::put_rows`.
use mathlib.Core.List.{[]}
use Prim.Native.Nat.{◌*◌, ◌≤◌, ◌<◌}
use lib.ListN.{get_or, drop}
use Rattle.model.specs.Schema.{Schema}
use Rattle.model.specs.Records.{walk}
use Rattle.model.specs.Catalog.{packed_tables}
use Rattle.inner.specs.Working.{working, key_in}
use Rattle.area.specs.Layout.{rows_at}
use Rattle.changes.specs.Walk.{fore}
use Rattle.changes.proofs.Writing.{Along}
use Rattle.changes.proofs.put_rows.Given as goal

abbrev pub invariant-loop-i : goal.invariant-loop-i
invariant-loop-i l =
    let s = packed_tables l.schema in
    let before = working s l.m (rows_at l.m l.area) in
    (l.i ≤ l.n) × ((z : Schema) → l.i < l.n → l.j ≤ fore (key_in (get_or l.after l.i [])) (working z l.m (rows_at l.m l.area))) × Along l.by.run l.by.number (walk s before (working s l.n l.after)) (794 * l.i) l.initial.to l.initial.records l.to l.records (walk s before (drop l.i (working s l.n l.after)))
