-- `garbage::counts::count_row` meets its contract.
use mathlib.Core.Path.{◌≡◌, refl, sym, ap, ◌∙◌, subst}
use mathlib.Core.List.{List, ◌++◌}
use Prim.Native.Nat.{ℕ, ◌+◌, ◌<◌}
use native.Mathlib.Omega.{arith}
use lib.ListN.{length}
use Rattle.model.specs.Schema.{columns_of}
use Rattle.model.specs.Value.{elements}
use Rattle.model.specs.Commit.{keys_of, strongly}
use Rattle.model.specs.Catalog.{packed_tables}
use Rattle.inner.specs.Working.{table_in, value_in}
use Rattle.references.specs.Links.{pick}
use Rattle.references.proofs.Packs.{few_columns_lem}
use Rattle.references.proofs.Links.{rest_of, here, rest_all, rest_end, rest_on, here_target}
use Rattle.garbage.specs.Counts.{Room, Counted}
use Rattle.garbage.proofs.Counting.{left_start, left_on, left_end, room_on}
use Rattle.garbage.proofs.counts.count_row.Invariants.{strong_in}
use Rattle.garbage.proofs.counts.count_row.Goals as goal

pub loop-c-init : goal.loop-c-init
unfolding pick
loop-c-init c =
    let a = c.args in
    (omega arith, refl, left_start a.up a.n a.rows.now a.own (strong_in a.schema.now a.row.now) a.counts.now (rest_of strongly a.schema.now a.row.now 0) (rest_all strongly a.schema.now a.row.now))

pub count_column-zeros-requires : goal.count_column-zeros-requires
count_column-zeros-requires c =
    let schema : List (List ℕ) = c.args.schema.now in
    let row : List (List ℕ) = c.args.row.now in
    let at : ℕ = c.loop-c.c in
    let few : at < 6 = omega (arith, few_columns_lem schema c.requires.accepted c.table_of-table.result, c.width-w.ensures, c.loop-c-test.true) in
    let within : at < length (columns_of (packed_tables schema) (table_in row)) = omega (arith, c.loop-c-test.true, c.width-w.ensures, ap (λ (t : ℕ). length (columns_of (packed_tables schema) t)) c.table_of-table.ensures) in
    let same : keys_of c.refers-to.result (elements (value_in at row)) ≡ here (pick 1) schema row at = here_target schema row 1 c.table_of-table.result at c.table_of-table.ensures c.refers-to.result c.refers-to.ensures in
    let keys : rest_of (pick 1) schema row at ≡ here (pick 1) schema row at ++ rest_of (pick 1) schema row (at + 1) = rest_on (pick 1) schema row c.requires.accepted at within in
    let a = c.args in
    let l = c.loop-c in
    record {
      c_lt_most_columns = (few, c.requires.ordered.0, omega (arith, c.requires.ordered.1, l.invariant.1));
      room = subst (λ (ks : List ℕ). Room a.up a.n a.rows.now a.own ks l.counts) (sym (same))
          (room_on a.up a.n a.rows.now a.own (strong_in (schema) (row)) a.counts.now (rest_of (pick 1) (schema) (row) (at)) (here (pick 1) (schema) (row) (at)) (rest_of (pick 1) (schema) (row) (at + 1)) l.counts (keys) l.invariant.2 c.requires.room);
    }

pub loop-c-preserved : goal.loop-c-preserved
loop-c-preserved c =
    let schema : List (List ℕ) = c.args.schema.now in
    let row : List (List ℕ) = c.args.row.now in
    let at : ℕ = c.loop-c.c in
    let within : at < length (columns_of (packed_tables schema) (table_in row)) = omega (arith, c.loop-c-test.true, c.width-w.ensures, ap (λ (t : ℕ). length (columns_of (packed_tables schema) t)) c.table_of-table.ensures) in
    let same : keys_of c.refers-to.result (elements (value_in at row)) ≡ here (pick 1) schema row at = here_target schema row 1 c.table_of-table.result at c.table_of-table.ensures c.refers-to.result c.refers-to.ensures in
    let keys : rest_of (pick 1) schema row at ≡ here (pick 1) schema row at ++ rest_of (pick 1) schema row (at + 1) = rest_on (pick 1) schema row c.requires.accepted at within in
    let a = c.args in
    let l = c.loop-c in
    let next = c.count_column-zeros.new.counts in (
      omega (arith, c.loop-c-test.true),
      c.count_column-zeros.auto.counts ∙ l.invariant.1,
      left_on a.up a.n a.rows.now a.own (strong_in (schema) (row)) a.counts.now (rest_of (pick 1) (schema) (row) (at)) (here (pick 1) (schema) (row) (at)) (rest_of (pick 1) (schema) (row) (at + 1)) l.counts (keys) l.invariant.2 next
          (subst (λ (ks : List ℕ). Counted a.up a.n a.rows.now a.own ks l.counts next) (same) c.count_column-zeros.ensures),
    )

pub returns : goal.returns
returns c =
    let a = c.args in
    let l = c.loop-c in
    let w = c.width-w.ensures ∙ ap (λ (t : ℕ). length (columns_of (packed_tables a.schema.now) t)) c.table_of-table.ensures in
    left_end a.up a.n a.rows.now a.own (strong_in a.schema.now a.row.now) a.counts.now (rest_of (pick 1) a.schema.now a.row.now l.c) l.counts
    (rest_end (pick 1) a.schema.now a.row.now l.c (omega (arith, w, c.loop-c-test.false))) l.invariant.2
