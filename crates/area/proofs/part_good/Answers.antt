-- `area::part_good` meets its contract.
use mathlib.Core.Path.{◌≡◌, sym, ap, subst, ◌∙◌}
use mathlib.Core.List.{List, ◌++◌}
use Prim.Native.Nat.{ℕ, ◌+◌, ◌-◌, ◌*◌, ◌≤◌}
use native.Mathlib.Omega.{arith}
use lib.ListN.{length, take, drop}
use lib.Seq.{take_at}
use Rattle.model.specs.Octets.{part}
use Rattle.model.specs.Limits.{rows_offset}
use Rattle.model.specs.Value.{zeros}
use Rattle.inner.specs.Working.{Ordered}
use Rattle.area.specs.Layout.{rows_in, rows_good, rest_zero, row_count}
use Rattle.area.proofs.Copies.{rows_length}
use Rattle.area.proofs.Schemas.{rows_same, rows_ordered, part_rows, read_many, read_rest, read_all}
use Rattle.area.proofs.part_good.Goals as goal
use Rattle.area.proofs.part_good.Goals.{then-n-gt-ROWS-via-then-n-gt-ROWS, then-n-gt-ROWS-via-else-n-gt-ROWS+then-not-rest_blank}

-- what the rows leave, by how many they are
rest : (a : List ℕ) {n : ℕ} → n ≡ row_count a → zeros (part (rows_offset + 625 * n) (625 * (32 - n)) a) ≡ rest_zero a
unfolding rest_zero
rest a q = λ j. zeros (part (rows_offset + 625 * q j) (625 * (32 - q j)) a)

pub returns-then-n-gt-ROWS : goal.returns-then-n-gt-ROWS
returns-then-n-gt-ROWS c =
    let a = c.args in
    let n = c.row_count-n.ensures in
    elim c.then-n-gt-ROWS.branch [
      | then-n-gt-ROWS-via-then-n-gt-ROWS w ↦ read_many a.schema.now a.area.now a.rows.now (omega arith)
      | then-n-gt-ROWS-via-else-n-gt-ROWS+then-not-rest_blank w ↦ read_rest a.schema.now a.area.now a.rows.now (omega arith) (sym (w.rest_blank.ensures ∙ rest a.area.now n) ∙ w.if-not-rest_blank.true)
    ]

pub read_rows-requires : goal.read_rows-requires
read_rows-requires c =
    let enough : c.row_count-n.result ≤ length c.args.rows.now = omega (arith, c.row_count-n.ensures, c.requires.store_bytes_in_bounds.1 (omega (arith, c.row_count-n.ensures, c.if-n-gt-ROWS.false))) in
    (omega (arith, c.requires.store_bytes_in_bounds.0, c.if-n-gt-ROWS.false), enough)

pub rows_good-requires : goal.rows_good-requires
rows_good-requires c =
    let enough : c.row_count-n.result ≤ length c.args.rows.now = omega (arith, c.row_count-n.ensures, c.requires.store_bytes_in_bounds.1 (omega (arith, c.row_count-n.ensures, c.if-n-gt-ROWS.false))) in
    record { accepted = c.requires.accepted; n_in_bounds = omega (arith, enough, c.read_rows.auto.rows) }

pub returns : goal.returns
returns c =
    let x = c.args.schema.now in
    let a = c.args.area.now in
    let n = c.row_count-n.ensures in
    let m = c.row_count-n.result in
    let z = sym (c.rest_blank.ensures ∙ rest a n) ∙ c.if-not-rest_blank.false in
    let r = c.read_rows.new.rows in
    let b = drop rows_offset a in
    let before = c.args.rows.now in
    let there = c.read_rows.ensures in
    let q = ap (take m) there ∙ take_at (rows_in m b) (drop m before) m (rows_length m b) in
    let few : row_count a ≤ 32 = omega (arith, n, c.if-n-gt-ROWS.false) in
    record {
      good = c.rows_good.ensures ∙ rows_same x m r (rows_in m b) q (rows_length m b) ∙ ap (λ (i : ℕ). rows_good x i (rows_in i b)) n ∙ sym (part_rows x a few z);
      rows = there ∙ ap (λ (i : ℕ). rows_in i b ++ drop i before) n ∙ sym (read_all x a before few z);
      ordered = λ e. subst (λ (i : ℕ). Ordered i r) n (rows_ordered x m r (omega (arith, n, c.read_rows.auto.rows, c.requires.store_bytes_in_bounds.1 few)) (sym c.rows_good.ensures ∙ e));
    }
