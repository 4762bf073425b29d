-- `lookups::count_keys` meets its contract.
use Rattle.std.proofs.Common.{◌≡◌, ◌∙◌, sym, ℕ, List, [], ◌<◌, length, arith}
use Rattle.std.proofs.lemmas.Grind.{common_steps}
use Rattle.std.proofs.lemmas.List.Sums.{count_by_more_yes, count_by_more_no}
use Rattle.std.specs.Prelude.{count_by}
use Rattle.model.specs.Octets.{value}
use Rattle.model.specs.Rows.{has}
use Rattle.inner.specs.Working.{working}
use Rattle.lookups.proofs.Laws.{count_is}
use Rattle.lookups.proofs.count_keys.Goals as goal
use Rattle.lookups.proofs.count_keys.Goals.{then-has_key, else-has_key}

pub loop-key-preserved : goal.loop-key-preserved
loop-key-preserved c =
    let rows = c.args.rows.now in
    let keys = c.args.keys.now in
    let i = c.loop-key.key-index in
    let before : i < length keys = omega arith in
    elim c.if-has_key.branch [
      | then-has_key w ↦ (omega arith, λ s. omega (arith, c.loop-key.invariant.1 s, count_by_more_yes (λ (k : List ℕ). has (value k) (working s (length rows) rows)) keys i [] before (sym (c.has_key.ensures s) ∙ w.if-has_key.true)))
      | else-has_key w ↦ (omega arith, λ s. omega (arith, c.loop-key.invariant.1 s, count_by_more_no (λ (k : List ℕ). has (value k) (working s (length rows) rows)) keys i [] before (sym (c.has_key.ensures s) ∙ w.if-has_key.false)))
    ]

pub returns : goal.returns
returns c =
    λ s.
    let rows = working s (length c.args.rows.now) c.args.rows.now in
    let counted : c.loop-key.count ≡ count_by (λ (k : List ℕ). has (value k) rows) c.args.keys.now = grind (arith, common_steps, c.loop-key.invariant.1 s) in
    counted ∙ sym (count_is (λ (k : ℕ). has k rows) c.args.keys.now)
