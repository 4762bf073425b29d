-- `changes::skip` meets its contract.
use mathlib.Core.Path.{◌≡◌, sym, ap, ◌∙◌}
use mathlib.Core.List.{[]}
use Prim.Native.Nat.{ℕ}
use native.Mathlib.Omega.{arith}
use lib.Dec.{ltb}
use lib.ListN.{get_or, drop}
use Rattle.model.specs.Limits.{rows_offset}
use Rattle.inner.specs.Working.{working, key_in}
use Rattle.area.specs.Layout.{rows_at}
use Rattle.area.proofs.Copies.{rows_length, rows_are}
use Rattle.changes.proofs.Rows.{key_value}
use Rattle.changes.proofs.Fore.{fore_drop, fore_here, fore_on, fore_end}
use Rattle.changes.proofs.skip.Goals as goal

pub loop-k-init : goal.loop-k-init
loop-k-init c =
    λ sc. fore_drop (key_in c.args.row.now) c.args.j (working sc c.args.m (rows_at c.args.m c.args.area.now)) (c.requires.j_bound sc)

pub returns-else-less_keys : goal.returns-else-less_keys
returns-else-less_keys c =
    let at : ℕ = c.loop-k.k in
    let here : ltb (key_in (get_or (rows_at c.args.m c.args.area.now) at [])) (key_in c.args.row.now) ≡ c.less_keys.result = let x = ap key_in (rows_are c.args.area.now at c.args.m c.loop-k-test.true) ∙ sym (key_value c.key_at.ensures) in
    let y = sym (key_value c.key_of-key.ensures) in
    (λ j. ltb (x j) (y j)) ∙ sym c.less_keys.ensures in
    let a = c.args in
    let cells = rows_at a.m a.area.now in
    λ sc. omega (arith, c.loop-k.invariant sc, fore_here sc cells a.m (omega (arith, rows_length a.m (drop rows_offset a.area.now))) (key_in a.row.now) (at) c.loop-k-test.true (here ∙ c.if-less_keys.false))

pub loop-k-preserved : goal.loop-k-preserved
loop-k-preserved c =
    let at : ℕ = c.loop-k.k in
    let here : ltb (key_in (get_or (rows_at c.args.m c.args.area.now) at [])) (key_in c.args.row.now) ≡ c.less_keys.result = let x = ap key_in (rows_are c.args.area.now at c.args.m c.loop-k-test.true) ∙ sym (key_value c.key_at.ensures) in
    let y = sym (key_value c.key_of-key.ensures) in
    (λ j. ltb (x j) (y j)) ∙ sym c.less_keys.ensures in
    let a = c.args in
    let cells = rows_at a.m a.area.now in
    λ sc. omega (arith, c.loop-k.invariant sc, fore_on sc cells a.m (omega (arith, rows_length a.m (drop rows_offset a.area.now))) (key_in a.row.now) (at) c.loop-k-test.true (here ∙ c.if-less_keys.true))

pub returns-after-loop-k : goal.returns-after-loop-k
returns-after-loop-k c =
    let a = c.args in
    let l = c.loop-k in
    λ sc. omega (arith, l.invariant sc, fore_end sc (rows_at a.m a.area.now) a.m (omega (arith, rows_length a.m (drop rows_offset a.area.now))) (key_in a.row.now) l.k c.loop-k-test.false)
