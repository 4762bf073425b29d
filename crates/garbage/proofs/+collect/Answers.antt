-- `garbage::collect` meets its contract.
use Rattle.std.specs.Prelude.{Option, Some, ℕ}
use mathlib.Core.Path.{subst}
use native.Mathlib.Omega.{arith}
use Rattle.model.specs.Catalog.{packed_tables}
use Rattle.inner.specs.Working.{working}
use Rattle.model.specs.Schema.{Schema}
use Rattle.garbage.specs.Loose.{LooseAt}
use Rattle.garbage.proofs.Loosely.{collected_stop, collected_on, loose_within}
use Rattle.garbage.proofs.+collect.Goals as goal

pub returns-in_default : goal.returns-in_default
returns-in_default t c =
    let sc = packed_tables c.args.schema.now in
    collected_stop sc c.args.n c.args.rows.now c.requires.ordered (subst (λ (f : Option ℕ). LooseAt sc (working sc c.args.n c.args.rows.now) f) c.in_default.is c.first_loose-found.ensures)

pub remove_at-requires : goal.remove_at-requires
remove_at-requires t c =
    let schema : Schema = packed_tables c.args.schema.now in
    let found : LooseAt schema (working schema c.args.n c.args.rows.now) (Some c.in-Some.i) = subst (λ (f : Option ℕ). LooseAt schema (working schema c.args.n c.args.rows.now) f) c.in-Some.is c.first_loose-found.ensures in
    (loose_within schema c.args.n c.args.rows.now c.requires.ordered c.in-Some.i found, c.requires.ordered.there)

pub overflow_sub-n : goal.overflow_sub-n
overflow_sub-n t c =
    let schema : Schema = packed_tables c.args.schema.now in
    let found : LooseAt schema (working schema c.args.n c.args.rows.now) (Some c.in-Some.i) = subst (λ (f : Option ℕ). LooseAt schema (working schema c.args.n c.args.rows.now) f) c.in-Some.is c.first_loose-found.ensures in
    omega (arith, loose_within schema c.args.n c.args.rows.now c.requires.ordered c.in-Some.i found)

pub collect-requires : goal.collect-requires
collect-requires t c =
    let schema : Schema = packed_tables c.args.schema.now in
    let found : LooseAt schema (working schema c.args.n c.args.rows.now) (Some c.in-Some.i) = subst (λ (f : Option ℕ). LooseAt schema (working schema c.args.n c.args.rows.now) f) c.in-Some.is c.first_loose-found.ensures in
    (omega (arith, loose_within schema c.args.n c.args.rows.now c.requires.ordered c.in-Some.i found), (c.requires.accepted, c.remove_at.ensures.ordered c.requires.ordered))

pub returns : goal.returns
returns t c =
    let schema : Schema = packed_tables c.args.schema.now in
    let found : LooseAt schema (working schema c.args.n c.args.rows.now) (Some c.in-Some.i) = subst (λ (f : Option ℕ). LooseAt schema (working schema c.args.n c.args.rows.now) f) c.in-Some.is c.first_loose-found.ensures in
    collected_on schema c.args.n c.args.rows.now c.requires.ordered c.in-Some.i found c.collect.result c.remove_at.new.rows c.collect.new.rows
    (omega (arith, loose_within schema c.args.n c.args.rows.now c.requires.ordered c.in-Some.i found)) c.remove_at.ensures c.collect.ensures
