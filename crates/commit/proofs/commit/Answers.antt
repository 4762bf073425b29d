-- `commit::commit` meets its contract.
use mathlib.Core.Path.{sym, ◌∙◌}
use Rattle.model.specs.Catalog.{packed_tables}
use Rattle.commit.proofs.Laws.{commit_missing, commit_few, commit_over, commit_fine}
use Rattle.commit.proofs.commit.Goals as goal

pub returns-then-not-all_found : goal.returns-then-not-all_found
returns-then-not-all_found c =
    commit_missing (packed_tables c.args.schema.now) c.args.n c.args.rows.now c.requires.ordered (sym c.all_found.ensures ∙ c.if-not-all_found.true)

pub returns-then-not-all_enough : goal.returns-then-not-all_enough
returns-then-not-all_enough c =
    commit_few (packed_tables c.args.schema.now) c.args.n c.args.rows.now c.collect_by_counts-m.result c.collect_by_counts-m.new.rows c.weaken.new.rows c.requires.ordered.there
    (sym c.all_found.ensures ∙ c.if-not-all_found.false)
    c.collect_by_counts-m.ensures c.weaken.ensures
    (sym c.all_enough.ensures ∙ c.if-not-all_enough.true)

pub returns-then-not-tables_good : goal.returns-then-not-tables_good
returns-then-not-tables_good c =
    commit_over (packed_tables c.args.schema.now) c.args.n c.args.rows.now c.collect_by_counts-m.result c.collect_by_counts-m.new.rows c.weaken.new.rows c.requires.ordered.there
    (sym c.all_found.ensures ∙ c.if-not-all_found.false)
    c.collect_by_counts-m.ensures c.weaken.ensures
    (sym c.all_enough.ensures ∙ c.if-not-all_enough.false)
    (sym c.tables_good.ensures ∙ c.if-not-tables_good.true)

pub returns : goal.returns
returns c =
    commit_fine (packed_tables c.args.schema.now) c.args.n c.args.rows.now c.collect_by_counts-m.result c.collect_by_counts-m.new.rows c.weaken.new.rows c.requires.ordered.there
    (sym c.all_found.ensures ∙ c.if-not-all_found.false)
    c.collect_by_counts-m.ensures c.weaken.ensures
    (sym c.all_enough.ensures ∙ c.if-not-all_enough.false)
    (sym c.tables_good.ensures ∙ c.if-not-tables_good.false)
