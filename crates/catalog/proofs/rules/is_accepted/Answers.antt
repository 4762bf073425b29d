-- `catalog::rules::is_accepted` meets its contract.
use Rattle.std.proofs.Common.{◌≡◌, ℕ, ◌+◌, ◌-◌, map, take, drop, sym, ap, ◌∙◌, arith}
use Rattle.std.proofs.lemmas.Grind.{common_steps}
use Rattle.model.specs.Base.{distinct}
use Rattle.model.specs.Catalog.{entry_name, table_count}
use Rattle.catalog.proofs.Tables.{few_database, fine_next, fine_not, fine_end, judged_database, judged_tables, judged_names}
use Rattle.catalog.proofs.Judged.{accepted_is}
use Rattle.catalog.proofs.rules.is_accepted.Goals as goal

pub returns-then-not-is_database : goal.returns-then-not-is_database
returns-then-not-is_database c =
    let x = c.args.catalog.now in
    sym (judged_database x (cc)) ∙ accepted_is x c.told-catalog

pub loop-t-preserved : goal.loop-t-preserved
loop-t-preserved c =
    let x = c.args.catalog.now in
    (c.loop-t.invariant.0, c.loop-t.invariant.1 ∙ fine_next (table_count x) x c.loop-t.t (omega arith) (cc))

pub returns-then-not-table_well : goal.returns-then-not-table_well
returns-then-not-table_well c =
    let x = c.args.catalog.now in
    sym (judged_tables x (cc) (c.loop-t.invariant.1 ∙ fine_not (table_count x) x c.loop-t.t (omega arith) (cc))) ∙ accepted_is x c.told-catalog

pub slice_bounds-are_distinct-end : goal.slice_bounds-are_distinct-end
slice_bounds-are_distinct-end c = grind (arith, common_steps, few_database)

pub returns : goal.returns
returns c =
    let x = c.args.catalog.now in
    let q : 1 + c.wide.result - 1 ≡ table_count x = omega arith in
    c.are_distinct.ensures ∙ ap (λ (k : ℕ). distinct (map entry_name (take k (drop 1 x)))) q
    ∙ sym (judged_names x (cc) (c.loop-t.invariant.1 ∙ fine_end (table_count x) x c.loop-t.t (omega arith)))
    ∙ accepted_is x c.told-catalog
