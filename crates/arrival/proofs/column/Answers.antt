-- `arrival::column` meets its contract.
use mathlib.Core.List.{[]}
use mathlib.Core.Path.{sym, ap, ◌∙◌}
use Prim.Native.Nat.{ℕ}
use native.Mathlib.Omega.{arith}
use lib.ListN.{get_or, replicate}
use Rattle.inner.proofs.Places.{place_at, place_none}
use Rattle.inner.proofs.Working.{working_length}
use Rattle.model.specs.Octets.{value}
use Rattle.model.specs.Catalog.{packed_tables}
use Rattle.model.specs.Rows.{key_of}
use Rattle.inner.specs.Working.{working}
use Rattle.arrival.specs.Steps.{column_in}
use Rattle.arrival.proofs.Changes.{found_column, no_row_column}
use Rattle.arrival.proofs.column.Goals as goal

pub offset_bounds-rows-i : goal.offset_bounds-rows-i
offset_bounds-rows-i c =
    let a = c.args in
    let w = place_at (key_of a.table (value a.id.now)) (working [] a.count a.rows.now) c.in-Some.i (sym (c.find-found.ensures []) ∙ c.in-Some.is) in
    omega (arith, w.within, working_length [] a.rows.now a.count (omega (arith, c.requires.ready)), c.requires.ready)

pub bounds-rows-i : goal.bounds-rows-i
bounds-rows-i c =
    let a = c.args in
    let w = place_at (key_of a.table (value a.id.now)) (working [] a.count a.rows.now) c.in-Some.i (sym (c.find-found.ensures []) ∙ c.in-Some.is) in
    omega (arith, w.within, working_length [] a.rows.now a.count (omega (arith, c.requires.ready)), c.requires.ready)

pub returns-in-Some : goal.returns-in-Some
returns-in-Some c =
    let a = c.args in
    let t = packed_tables a.schema.now in
    let i = c.in-Some.i in
    let w = place_at (key_of a.table (value a.id.now)) (working t a.count a.rows.now) i (sym (c.find-found.ensures t) ∙ c.in-Some.is) in
    c.put_column.ensures
    ∙ ap (column_in t (get_or a.rows.now i [])) c.wide.ensures
    ∙ sym (found_column t a.count a.rows.now (omega (arith, c.requires.ready)) a.table (value a.id.now) a.c i w)

pub returns-in-None : goal.returns-in-None
returns-in-None c =
    let a = c.args in
    let t = packed_tables a.schema.now in
    c.clear.ensures
    ∙ ap (λ (n : ℕ). replicate n 0) c.requires.out_len
    ∙ sym (no_row_column (working t a.count a.rows.now) a.table (value a.id.now) a.c (place_none (key_of a.table (value a.id.now)) (working t a.count a.rows.now) (sym (c.find-found.ensures t) ∙ c.in-None.is)))
