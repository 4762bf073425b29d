-- `arrival::fits` meets its contract.
use mathlib.Core.List.{List}
use mathlib.Core.Path.{ap, ◌∙◌}
use Prim.Native.Nat.{ℕ}
use native.Mathlib.Omega.{arith}
use Rattle.model.specs.Octets.{value}
use Rattle.model.specs.Rows.{key_of, has, has_id}
use Rattle.inner.specs.Working.{working}
use Rattle.arrival.proofs.Records.{fits_born, fits_gone, fits_column}
use Rattle.arrival.proofs.fits.Goals as goal

pub returns-in-Gone : goal.returns-in-Gone
returns-in-Gone c =
    let a = c.args in
    let r = c.in-Gone.r in
    λ s.
    fits_gone s a.arrival a.bytes.now a.count a.rows.now (omega (arith, c.requires.ready)) c.has_row.result r c.in-Gone.is
    (c.has_row.ensures s ∙ ap (λ (l : List ℕ). has (key_of r.table (value l)) (working s a.count a.rows.now)) c.id_of-in-Gone.ensures)

pub returns-in-Column : goal.returns-in-Column
returns-in-Column c =
    let a = c.args in
    let r = c.in-Column.r in
    λ s.
    fits_column s a.arrival a.bytes.now a.count a.rows.now (omega (arith, c.requires.ready)) c.has_row-in-Column.result r c.in-Column.is
    (c.has_row-in-Column.ensures s ∙ ap (λ (l : List ℕ). has (key_of r.table (value l)) (working s a.count a.rows.now)) c.id_of-in-Column.ensures)

pub returns-then-not-has_id : goal.returns-then-not-has_id
returns-then-not-has_id c =
    let a = c.args in
    λ s.
    let e = fits_born s a.arrival a.bytes.now a.count a.rows.now (omega (arith, c.requires.ready)) c.has_id.result _ c.in-Born.is
    (c.has_id.ensures s ∙ ap (λ (l : List ℕ). has_id (value l) (working s a.count a.rows.now)) c.id_of.ensures) in
    rw c.if-not-has_id.true at e

pub returns-else-not-has_id : goal.returns-else-not-has_id
returns-else-not-has_id c =
    let a = c.args in
    λ s.
    let e = fits_born s a.arrival a.bytes.now a.count a.rows.now (omega (arith, c.requires.ready)) c.has_id.result _ c.in-Born.is
    (c.has_id.ensures s ∙ ap (λ (l : List ℕ). has_id (value l) (working s a.count a.rows.now)) c.id_of.ensures) in
    rw c.if-not-has_id.false (rw c.if-not-has_id.false at e)
