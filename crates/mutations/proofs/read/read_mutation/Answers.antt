-- `mutations::read::read_mutation` meets its contract.
use mathlib.Core.Path.{refl}
use native.Mathlib.Omega.{arith}
use Rattle.mutations.specs.Mutating.{Parted}
use Rattle.mutations.proofs.Faulty.{parted, none_is, read_is}
use Rattle.mutations.proofs.read.read_mutation.Goals as goal

pub returns-in_default : goal.returns-in_default
returns-in_default c =
    let a = c.args in
    none_is a.text.now a.names.now a.columns.now a.at c.parts_at-t.ensures _ _ c.in_default.is refl

pub offset_bounds-columns-i : goal.offset_bounds-columns-i
offset_bounds-columns-i c =
    let parts : let a = c.args in Parted a.text.now a.columns.now a.at c.in-Some.i c.in-Some.m c.in-Some.v = let a = c.args in
    parted a.text.now a.names.now a.columns.now a.at c.parts_at-t.ensures c.in-Some.is in
    omega (arith, c.well_formed, (parts).place)

pub bounds-columns-i : goal.bounds-columns-i
bounds-columns-i c =
    let parts : let a = c.args in Parted a.text.now a.columns.now a.at c.in-Some.i c.in-Some.m c.in-Some.v = let a = c.args in
    parted a.text.now a.names.now a.columns.now a.at c.parts_at-t.ensures c.in-Some.is in
    (parts).place

pub mutation_value-g-requires : goal.mutation_value-g-requires
mutation_value-g-requires c =
    let parts : let a = c.args in Parted a.text.now a.columns.now a.at c.in-Some.i c.in-Some.m c.in-Some.v = let a = c.args in
    parted a.text.now a.names.now a.columns.now a.at c.parts_at-t.ensures c.in-Some.is in
    record { running = c.requires.running; at_value = (parts).well }

pub returns : goal.returns
returns c =
    let a = c.args in
    read_is a.text.now a.names.now a.columns.now a.at c.parts_at-t.ensures c.in-Some.is c.mutation_value-g.ensures c.column_fault-f.ensures
