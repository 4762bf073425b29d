-- `arrival::canonical` meets its contract.
use mathlib.Core.List.{[]}
use mathlib.Core.Path.{◌∙◌}
use native.Mathlib.Omega.{arith}
use lib.ListN.{get_or}
use Rattle.model.specs.Catalog.{column_from, column_place}
use Rattle.model.specs.Value.{canonical_for}
use Rattle.arrival.proofs.Records.{listed_place, canonical_column}
use Rattle.arrival.proofs.canonical.Goals as goal

pub column-requires : goal.column-requires
column-requires c =
    let p = listed_place c.args.schema.now c.requires.accepted c.args.arrival c.args.bytes.now c.in-Column.r c.in-Column.is c.requires.bytes_value in
    (omega (arith, c.wide-t.ensures, p.0), omega (arith, c.wide-c.ensures, p.1))

pub returns-in-Column : goal.returns-in-Column
returns-in-Column c =
    let x = c.args.schema.now in
    let p = c.wide-t.ensures in
    let q = c.wide-c.ensures in
    let r = c.atoms-atoms.ensures in
    let e = c.column.ensures ∙ (λ j. get_or x (column_place (p j) (q j)) []) in
    let v = c.in-Column.r in
    c.canonical_by.ensures
    ∙ (λ j. canonical_for (column_from (e j)) (record { count = v.count; atoms = r j }))
    ∙ canonical_column x c.requires.accepted c.args.arrival c.args.bytes.now v c.in-Column.is c.requires.bytes_value
