-- `garbage::counts::any_loose` meets its contract.
use Rattle.std.specs.Prelude.{Option, ℕ}
use mathlib.Core.Path.{sym, ◌∙◌, subst}
use native.Mathlib.Omega.{arith}
use lib.ListN.{replicate}
use Rattle.model.specs.Catalog.{packed_tables}
use Rattle.inner.specs.Working.{working}
use Rattle.garbage.specs.Loose.{LooseAt}
use Rattle.garbage.specs.Counts.{NextAt}
use Rattle.garbage.proofs.Marking.{loose_at_any, loose_at_none, roots_none, next_any, next_none_any}
use Rattle.garbage.proofs.counts.any_loose.Goals as goal

pub returns-in_default : goal.returns-in_default
returns-in_default c =
    let sc = packed_tables c.args.schema.now in
    let w = working sc c.args.n c.args.rows.now in
    sym (loose_at_none sc w (subst (λ (f : Option ℕ). LooseAt sc w f) c.in_default.is c.first_loose-first.ensures))

pub returns-then-n-gt-ROWS : goal.returns-then-n-gt-ROWS
returns-then-n-gt-ROWS c =
    let sc = packed_tables c.args.schema.now in
    let w = working sc c.args.n c.args.rows.now in
    sym (loose_at_any sc w c.in-Some.field-0 (subst (λ (f : Option ℕ). LooseAt sc w f) c.in-Some.is c.first_loose-first.ensures))

pub returns-then-not-any_not_root : goal.returns-then-not-any_not_root
returns-then-not-any_not_root c =
    sym (roots_none (packed_tables c.args.schema.now) c.args.n c.args.rows.now c.requires.ordered (sym c.any_not_root.ensures ∙ c.if-not-any_not_root.true))

pub returns-in_default-next : goal.returns-in_default-next
returns-in_default-next c =
    let sc = packed_tables c.args.schema.now in
    sym (next_none_any sc c.args.n c.args.rows.now c.requires.ordered c.count_all.new.counts (omega (arith, c.if-n-gt-ROWS.false)) c.count_all.ensures
    (subst (λ (f : Option ℕ). NextAt sc c.args.n c.args.rows.now (replicate 32 1) c.count_all.new.counts f) c.in_default-next.is c.next_to_go-next.ensures))

pub returns : goal.returns
returns c =
    let sc = packed_tables c.args.schema.now in
    sym (next_any sc c.args.n c.args.rows.now c.requires.ordered c.count_all.new.counts (omega (arith, c.if-n-gt-ROWS.false)) c.count_all.ensures c.in-Some-next.field-0
    (subst (λ (f : Option ℕ). NextAt sc c.args.n c.args.rows.now (replicate 32 1) c.count_all.new.counts f) c.in-Some-next.is c.next_to_go-next.ensures))
