-- `lookups::count_ids` meets its contract.
use Rattle.std.proofs.Common.{◌≡◌, ◌∙◌, sym, ℕ, List, [], ◌<◌, length, arith}
use Rattle.std.proofs.lemmas.Grind.{common_steps}
use Rattle.std.proofs.lemmas.List.Sums.{count_by_more_yes, count_by_more_no}
use Rattle.std.specs.Prelude.{count_by}
use Rattle.model.specs.Octets.{value}
use Rattle.model.specs.Rows.{has_id}
use Rattle.inner.specs.Working.{working}
use Rattle.lookups.proofs.Laws.{count_is}
use Rattle.lookups.proofs.count_ids.Goals as goal
use Rattle.lookups.proofs.count_ids.Goals.{then-has_id, else-has_id}

pub loop-id-preserved : goal.loop-id-preserved
loop-id-preserved c =
    let rows = c.args.rows.now in
    let ids = c.args.ids.now in
    let i = c.loop-id.id-index in
    let before : i < length ids = omega arith in
    elim c.if-has_id.branch [
      | then-has_id w ↦ (omega arith, λ s. omega (arith, c.loop-id.invariant.1 s, count_by_more_yes (λ (k : List ℕ). has_id (value k) (working s (length rows) rows)) ids i [] before (sym (c.has_id.ensures s) ∙ w.if-has_id.true)))
      | else-has_id w ↦ (omega arith, λ s. omega (arith, c.loop-id.invariant.1 s, count_by_more_no (λ (k : List ℕ). has_id (value k) (working s (length rows) rows)) ids i [] before (sym (c.has_id.ensures s) ∙ w.if-has_id.false)))
    ]

pub returns : goal.returns
returns c =
    λ s.
    let rows = working s (length c.args.rows.now) c.args.rows.now in
    let counted : c.loop-id.count ≡ count_by (λ (k : List ℕ). has_id (value k) rows) c.args.ids.now = grind (arith, common_steps, c.loop-id.invariant.1 s) in
    counted ∙ sym (count_is (λ (k : ℕ). has_id k rows) c.args.ids.now)
