-- `store::reply::transact` meets its contract.
use mathlib.Core.Path.{refl}
use native.Mathlib.Omega.{arith}
use Rattle.model.specs.Catalog.{packed_tables}
use Rattle.inner.specs.Working.{working}
use Rattle.model.proofs.Octets.{octets}
use Rattle.operations.specs.Running.{RunAll}
use Rattle.store.specs.Replying.{run_on}
use Rattle.store.proofs.Commits.{filled_all, run_ordered, ended_commit, ended_idle}
use Rattle.store.proofs.reply.transact.Goals as goal

pub fill_names-requires : goal.fill_names-requires
fill_names-requires c =
    let p = c.requires in
    record { says = p.readable.says; ops_value = p.readable.fine; text_len_bound = p.readable.short; ops_len_bound = p.ops_len_bound; fresh_len = p.readable.ids; names_len = refl }

pub run-ran-requires : goal.run-ran-requires
run-ran-requires c =
    let p = c.requires in
    let e = c.fill_names.ensures in
    record { running = record { says = p.readable.says; short = p.readable.short; size = e.size }; accepted = p.accepted; listed = record { fine = p.readable.fine; few = p.ops_len_bound; places = e.places }; n_le_most_rows = p.n_le_most_rows }

pub at_commit-requires : goal.at_commit-requires
at_commit-requires c =
    let did : let s = packed_tables c.args.schema.now in RunAll s (run_on s c.args.text.now c.args.ops c.args.fresh.now (working s c.args.n c.args.rows.now)) c.args.n c.args.rows.now c.run-ran.new.rows c.args.answer.now c.run-ran.new.answer c.run-ran.result = let s = packed_tables c.args.schema.now in
    filled_all s c.args.text.now c.args.ops c.args.fresh.now _ (working s c.args.n c.args.rows.now) c.fill_names.ensures c.run-ran.ensures in
    let all = did in
    record {
      accepted = c.requires.accepted;
      ordered = run_ordered c.args.schema.now c.requires.accepted c.args.text.now c.args.ops c.args.fresh.now c.requires.ops_len_bound c.requires.readable.ids (octets c.args.fresh.now (λ i. (c.shared_slice_known-3-1.given i).fits))
          c.args.n c.args.rows.now _ c.requires.sure all c.run-ran.ensures.long (all.fine c.if-ran.true);
      at_bound = omega (arith, c.run-ran.ensures.answer.short);
    }

pub returns-then-ran : goal.returns-then-ran
returns-then-ran c =
    let did : let s = packed_tables c.args.schema.now in RunAll s (run_on s c.args.text.now c.args.ops c.args.fresh.now (working s c.args.n c.args.rows.now)) c.args.n c.args.rows.now c.run-ran.new.rows c.args.answer.now c.run-ran.new.answer c.run-ran.result = let s = packed_tables c.args.schema.now in
    filled_all s c.args.text.now c.args.ops c.args.fresh.now _ (working s c.args.n c.args.rows.now) c.fill_names.ensures c.run-ran.ensures in
    let all = did in
    ended_commit (packed_tables c.args.schema.now) c.args.text.now c.args.ops c.args.fresh.now c.args.n c.args.rows.now all c.run-ran.auto.rows (all.fine c.if-ran.true) c.is_nothing-first.ensures c.at_commit.ensures

pub returns : goal.returns
returns c =
    let did : let s = packed_tables c.args.schema.now in RunAll s (run_on s c.args.text.now c.args.ops c.args.fresh.now (working s c.args.n c.args.rows.now)) c.args.n c.args.rows.now c.run-ran.new.rows c.args.answer.now c.run-ran.new.answer c.run-ran.result = let s = packed_tables c.args.schema.now in
    filled_all s c.args.text.now c.args.ops c.args.fresh.now _ (working s c.args.n c.args.rows.now) c.fill_names.ensures c.run-ran.ensures in
    ended_idle (packed_tables c.args.schema.now) c.args.text.now c.args.ops c.args.fresh.now c.args.n c.args.rows.now (did) c.run-ran.auto.rows c.if-ran.false c.requires.sure c.requires.n_le_most_rows.0 c.put_byte-end.ensures
