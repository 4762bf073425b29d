-- `garbage::counts::count_all` meets its contract.
use mathlib.Core.Path.{◌≡◌, refl, ap, ◌∙◌}
use native.Mathlib.Omega.{arith}
use lib.ListN.{length}
use Rattle.model.specs.Catalog.{packed_tables}
use Rattle.references.proofs.Packs.{few_columns_lem}
use Rattle.garbage.proofs.Counting.{adding_none, adding_room, adding_on, adding_end}
use Rattle.garbage.proofs.counts.count_all.Goals as goal

pub loop-i-init : goal.loop-i-init
loop-i-init c =
    let a = c.args in
    (omega arith, refl, adding_none (packed_tables a.schema.now) a.n a.rows.now a.counts.now c.requires.ordered.2)

pub count_row-requires : goal.count_row-requires
count_row-requires c =
    let a = c.args in
    let l = c.loop-i in
    let z : length a.counts.now ≡ 32 = ap length c.requires.ordered.2 in
    record { accepted = c.requires.accepted; ordered = (c.requires.ordered.0, omega (arith, c.requires.ordered.1, l.invariant.1, z)); room = adding_room (packed_tables a.schema.now) a.n a.rows.now c.requires.ordered.0 l.i c.loop-i-test.true l.counts l.invariant.2 c.requires.ordered.1 (few_columns_lem a.schema.now c.requires.accepted) }

pub loop-i-preserved : goal.loop-i-preserved
loop-i-preserved c =
    let a = c.args in
    let l = c.loop-i in
    let t = c.loop-i-test.true in (
      omega arith,
      c.count_row.auto.counts ∙ l.invariant.1,
      adding_on (packed_tables a.schema.now) a.n a.rows.now c.requires.ordered.0 l.i t l.counts l.invariant.2 c.count_row.new.counts c.count_row.ensures,
    )

pub returns : goal.returns
returns c =
    let a = c.args in
    let l = c.loop-i in
    adding_end (packed_tables a.schema.now) a.n a.rows.now c.requires.ordered.0.there l.i l.counts c.loop-i-test.false l.invariant.2
