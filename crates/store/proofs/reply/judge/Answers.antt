-- `store::reply::judge` meets its contract.
use mathlib.Core.Path.{sym, ap, ◌∙◌}
use mathlib.Core.List.{List}
use Prim.Native.Nat.{ℕ}
use borrow.Author.Tests.{not-true, not-false}
use Rattle.inner.specs.Positions.{tree_at}
use Rattle.model.specs.Text.{is_word}
use Rattle.model.specs.Catalog.{packed_tables}
use Rattle.store.proofs.Asking.{asked_bad, asked_other, asked_fresh, asked_runs}
use Rattle.store.proofs.reply.judge.Goals as goal

pub returns-then-not-q : goal.returns-then-not-q
returns-then-not-q c ends read =
    asked_bad c.args.schema.now c.args.n c.args.rows.now c.args.request.now c.args.fresh.now ends read ((not-true _ c.if-not-q.true))

pub returns-then-not-is_word : goal.returns-then-not-is_word
returns-then-not-is_word c ends read =
    asked_other c.args.schema.now c.args.n c.args.rows.now c.args.request.now c.args.fresh.now ends read ((not-false _ c.if-not-q.false))
    (ap (λ (w : List ℕ). is_word w (tree_at c.args.request.now c.args.q.name)) (sym c.name_of.ensures) ∙ sym c.is_word.ensures ∙ c.if-not-is_word.true)

pub returns-then-not-ids_good : goal.returns-then-not-ids_good
returns-then-not-ids_good c ends read =
    asked_fresh c.args.schema.now c.args.n c.args.rows.now c.args.request.now c.args.fresh.now ends read ((not-false _ c.if-not-q.false))
    (ap (λ (w : List ℕ). is_word w (tree_at c.args.request.now c.args.q.name)) (sym c.name_of.ensures) ∙ sym c.is_word.ensures ∙ c.if-not-is_word.false)
    (sym (c.ids_good.ensures (packed_tables c.args.schema.now)) ∙ c.if-not-ids_good.true)

pub returns : goal.returns
returns c ends read =
    asked_runs c.args.schema.now c.args.n c.args.rows.now c.args.request.now c.args.fresh.now ends read ((not-false _ c.if-not-q.false))
    (ap (λ (w : List ℕ). is_word w (tree_at c.args.request.now c.args.q.name)) (sym c.name_of.ensures) ∙ sym c.is_word.ensures ∙ c.if-not-is_word.false)
    (sym (c.ids_good.ensures (packed_tables c.args.schema.now)) ∙ c.if-not-ids_good.false) c.requires.0
