-- `store::reply::at_commit` meets its contract.
use mathlib.Core.Path.{sym, ◌∙◌}
use Rattle.store.proofs.Commits.{closed_fine, closed_failed}
use Rattle.store.proofs.reply.at_commit.Goals as goal

pub returns-then-is_fine : goal.returns-then-is_fine
returns-then-is_fine c = closed_fine c.commit-c.ensures c.commit-c.auto.rows c.args.first (sym c.is_fine.ensures ∙ c.if-is_fine.true) c.put_byte-end.ensures

pub returns : goal.returns
returns c = closed_failed c.commit-c.ensures c.commit-c.auto.rows c.args.first (sym c.is_fine.ensures ∙ c.if-is_fine.false) c.put_comma-end.ensures c.put_error-end.ensures c.put_byte-end-2.ensures
