-- `mutations::step::mutate_row` meets its contract.
use mathlib.Core.Path.{◌≡◌, sym, ap, ◌∙◌}
use mathlib.Core.Bool.{true}
use mathlib.Core.List.{List, []}
use Prim.Native.Nat.{ℕ}
use lib.IntN.{ℤ}
use lib.ListN.{get_or}
use Rattle.model.specs.Catalog.{column_from}
use Rattle.model.specs.Conditions.{first_int}
use Rattle.mutations.specs.Steps.{elements_of, arithmetic_on, inserted_on}
use Rattle.mutations.specs.Mutating.{elements_read}
use Rattle.mutations.proofs.Stepping.{stepped_as, insert_arm, delete_arm, arithmetic_arm, read_held, insert_held, five_held}
use Rattle.mutations.proofs.Rowing.{row_stepped}
use Rattle.mutations.proofs.step.mutate_row.Goals as goal

pub returns-in-Insert : goal.returns-in-Insert
returns-in-Insert c =
    let held : c.args.m.fits ≡ true = insert_held c.args.text.now c.args.m c.args.atoms.now c.requires.ready c.in-Insert.is in
    let a = c.args in
    let z = column_from (get_or a.columns.now a.m.place []) in
    let l = elements_read a.text.now a.names.now z.base a.m a.atoms.now in
    let x = elements_of a.m.place a.row.now in
    row_stepped a.text.now a.names.now a.columns.now c.requires.place_in_bounds.1 a.m a.atoms.now c.requires.place_in_bounds.0 c.insert.result a.row.now c.insert.new.row
    (stepped_as (ap (λ (y : List (List ℕ)). inserted_on z y x) (sym (read_held a.text.now a.names.now z.base a.m a.atoms.now (held))) ∙ insert_arm z a.m.mutator l x c.in-Insert.is) c.insert.ensures)

pub returns-in-Delete : goal.returns-in-Delete
returns-in-Delete c =
    let a = c.args in
    let z = column_from (get_or a.columns.now a.m.place []) in
    row_stepped a.text.now a.names.now a.columns.now c.requires.place_in_bounds.1 a.m a.atoms.now c.requires.place_in_bounds.0 c.delete.result a.row.now c.delete.new.row
    (stepped_as (delete_arm z a.m.mutator (elements_read a.text.now a.names.now z.base a.m a.atoms.now) (elements_of a.m.place a.row.now) c.in-Delete.is) c.delete.ensures)

pub returns-in_default : goal.returns-in_default
returns-in_default c =
    let a = c.args in
    let z = column_from (get_or a.columns.now a.m.place []) in
    let l = elements_read a.text.now a.names.now z.base a.m a.atoms.now in
    let x = elements_of a.m.place a.row.now in
    let y = five_held a.text.now a.m a.atoms.now c.requires.ready (c.in_default.not-Insert, c.in_default.not-Delete) in
    row_stepped a.text.now a.names.now a.columns.now c.requires.place_in_bounds.1 a.m a.atoms.now c.requires.place_in_bounds.0 c.arithmetic.result a.row.now c.arithmetic.new.row
    (stepped_as
    (ap (λ (b : ℤ). arithmetic_on z a.m.mutator b x) (sym (c.requires.ready.first y))
    ∙ ap (λ (b : List (List ℕ)). arithmetic_on z a.m.mutator (first_int b) x) (sym (read_held a.text.now a.names.now z.base a.m a.atoms.now y))
    ∙ arithmetic_arm z a.m.mutator l x (c.in_default.not-Insert, c.in_default.not-Delete))
    c.arithmetic.ensures)
