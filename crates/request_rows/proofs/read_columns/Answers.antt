-- `request_rows::read_columns` meets its contract.
use mathlib.Core.Path.{refl}
use mathlib.Core.Bool.{false}
use lib.ListN.{replicate}
use Rattle.inner.specs.Positions.{tree_at}
use Rattle.model.specs.Members.{members_in}
use Rattle.uuids.specs.Named.{names_at}
use Rattle.request_rows.proofs.Reading.{reading_none, reading_on, reading_end}
use Rattle.request_rows.proofs.read_columns.Goals as goal

pub loop-c-init : goal.loop-c-init
loop-c-init c =
    let a = c.args in
    reading_none a.insert (names_at a.text.now a.names.now) (members_in (tree_at a.text.now a.at)) a.columns.now a.row.now (replicate 6 false) refl

pub loop-c-preserved : goal.loop-c-preserved
loop-c-preserved c =
    let a = c.args in
    let h = c.loop-c-test.true in
    reading_on a.insert (names_at a.text.now a.names.now) (members_in (tree_at a.text.now a.at)) a.columns.now a.row.now c.loop-c.c c.loop-c.invariant c.requires.columns_len_bound h c.read_column-r.ensures c.earlier-f.ensures

pub returns : goal.returns
returns c =
    let a = c.args in
    reading_end a.insert (names_at a.text.now a.names.now) (members_in (tree_at a.text.now a.at)) a.columns.now a.row.now c.loop-c.c c.loop-c.invariant c.loop-c-test.false
