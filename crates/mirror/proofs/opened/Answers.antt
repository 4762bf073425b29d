-- `mirror::opened` meets its contract.
use mathlib.Core.Path.{sym, ◌∙◌}
use mathlib.Core.List.{[]}
use Rattle.model.proofs.Octets.{octets}
use Rattle.model.proofs.Tests.{clash}
use Rattle.mirror.proofs.Opening.{open_refused, catalog_accepted, open_bad, open_good}
use Rattle.mirror.proofs.opened.Goals as goal
use Rattle.mirror.proofs.opened.Goals.{then-is_accepted, else-is_accepted}

pub part_good-requires-clause-accepted : goal.part_good-requires-clause-accepted
part_good-requires-clause-accepted c = catalog_accepted c.args.area.now c.requires.0 _ [] c.read_catalog.ensures (sym c.is_accepted.ensures ∙ c.if-is_accepted.true)

pub returns-then-part_good : goal.returns-then-part_good
returns-then-part_good c =
    let a = c.args.area.now in
    elim c.if-is_accepted.branch [
      | then-is_accepted w ↦ rw w.rows-is (open_good a c.requires.0 _ _ c.read_catalog.ensures (octets a (λ i. (c.type_inv.area i).fits))
          (sym c.is_accepted.ensures ∙ w.if-is_accepted.true) c.args.rows.now w.part_good.result (sym w.value-is ∙ c.if-part_good.true) w.part_good.ensures c.mirror_part.result c.mirror_part.ensures)
      | else-is_accepted w ↦ absurd (clash _ (sym w.value-is ∙ c.if-part_good.true) w.if-is_accepted.false)
    ]

pub returns-else-part_good : goal.returns-else-part_good
returns-else-part_good c =
    let a = c.args.area.now in
    elim c.if-is_accepted.branch [
      | then-is_accepted w ↦ rw c.if-part_good.false (open_bad a c.requires.0 _ _ c.read_catalog.ensures (octets a (λ i. (c.type_inv.area i).fits))
          (sym c.is_accepted.ensures ∙ w.if-is_accepted.true) (sym (sym w.value-is ∙ c.if-part_good.false) ∙ w.part_good.ensures.good))
      | else-is_accepted w ↦ rw c.if-part_good.false (open_refused a c.requires.0 _ _ c.read_catalog.ensures (sym c.is_accepted.ensures ∙ w.if-is_accepted.false))
    ]
