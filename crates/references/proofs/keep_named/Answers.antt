-- `references::keep_named` meets its contract.
use mathlib.Core.Path.{◌≡◌, sym, ◌∙◌}
use mathlib.Core.List.{[]}
use mathlib.Core.Logic.{⊎_elim}
use Prim.Native.Nat.{◌≤◌, ◌<◌}
use native.Mathlib.Omega.{arith}
use lib.ListN.{length}
use Rattle.model.specs.Commit.{present}
use Rattle.inner.specs.Working.{working}
use Rattle.references.proofs.Keeping.{sofar_none, sofar_few, sofar_length, sofar_no, sofar_yes}
use Rattle.references.proofs.keep_named.Goals as goal

pub loop-k-init : goal.loop-k-init
loop-k-init c =
    let a = c.args in
    λ s. sofar_none (present (working s a.n a.rows.now) a.table) a.atoms.now a.out.now [] 0 0

pub offset_bounds-atoms-k : goal.offset_bounds-atoms-k
offset_bounds-atoms-k c = omega (arith, c.well_formed)

pub bounds-atoms-k : goal.bounds-atoms-k
bounds-atoms-k c = omega (arith, c.requires)

pub has_named-requires : goal.has_named-requires
has_named-requires c = c.requires.2

pub offset_bounds-atoms-k-then-has_named : goal.offset_bounds-atoms-k-then-has_named
offset_bounds-atoms-k-then-has_named c = omega (arith, c.well_formed)

pub bounds-atoms-k-then-has_named : goal.bounds-atoms-k-then-has_named
bounds-atoms-k-then-has_named c = omega (arith, c.requires)

pub offset_bounds-out-kept : goal.offset_bounds-out-kept
offset_bounds-out-kept c =
    let fewer : c.loop-k.kept ≤ c.loop-k.k = let a = c.args in
    sofar_few (present (working [] a.n a.rows.now) a.table) a.atoms.now a.out.now [] c.loop-k.k c.loop-k.kept c.loop-k.out (c.loop-k.invariant []) (omega (arith, c.requires)) in
    let l = c.loop-k in
    omega (arith, fewer, c.requires, c.well_formed)

pub bounds-out-kept : goal.bounds-out-kept
bounds-out-kept c =
    let fewer : c.loop-k.kept ≤ c.loop-k.k = let a = c.args in
    sofar_few (present (working [] a.n a.rows.now) a.table) a.atoms.now a.out.now [] c.loop-k.k c.loop-k.kept c.loop-k.out (c.loop-k.invariant []) (omega (arith, c.requires)) in
    let same : length c.loop-k.out ≡ length c.args.out.now = let a = c.args in
    sofar_length (present (working [] a.n a.rows.now) a.table) a.atoms.now a.out.now [] c.loop-k.k c.loop-k.kept c.loop-k.out (c.loop-k.invariant []) (omega (arith, fewer, c.requires)) in
    omega (arith, fewer, same, c.requires)

pub overflow_add-kept : goal.overflow_add-kept
overflow_add-kept c =
    let fewer : c.loop-k.kept ≤ c.loop-k.k = let a = c.args in
    sofar_few (present (working [] a.n a.rows.now) a.table) a.atoms.now a.out.now [] c.loop-k.k c.loop-k.kept c.loop-k.out (c.loop-k.invariant []) (omega (arith, c.requires)) in
    omega (arith, fewer, c.requires, c.well_formed)

pub loop-k-preserved : goal.loop-k-preserved
loop-k-preserved c =
    let fewer : c.loop-k.kept ≤ c.loop-k.k = let a = c.args in
    sofar_few (present (working [] a.n a.rows.now) a.table) a.atoms.now a.out.now [] c.loop-k.k c.loop-k.kept c.loop-k.out (c.loop-k.invariant []) (omega (arith, c.requires)) in
    let l = c.loop-k in
    let h : l.k < length c.args.atoms.now = omega (arith, c.requires) in
    let g : l.kept < length c.args.out.now = omega (arith, fewer, c.requires) in
    ⊎_elim (λ w. λ sc. rw (w.out-is, w.kept-is) (sofar_yes (present (working sc c.args.n c.args.rows.now) c.args.table) c.args.atoms.now c.args.out.now [] l.k l.kept l.out (l.invariant sc) h g (sym (c.has_named.ensures sc) ∙ w.if-has_named.true)))
    (λ w. λ sc. rw (w.out-is, w.kept-is) (sofar_no (present (working sc c.args.n c.args.rows.now) c.args.table) c.args.atoms.now c.args.out.now [] l.k l.kept l.out (l.invariant sc) h (sym (c.has_named.ensures sc) ∙ w.if-has_named.false))) c.if-has_named.branch-raw

pub shape_of-out : goal.shape_of-out
shape_of-out c =
    let fewer : c.loop-k.kept ≤ c.loop-k.k = let a = c.args in
    sofar_few (present (working [] a.n a.rows.now) a.table) a.atoms.now a.out.now [] c.loop-k.k c.loop-k.kept c.loop-k.out (c.loop-k.invariant []) (omega (arith, c.requires)) in
    let same : length c.loop-k.out ≡ length c.args.out.now = let a = c.args in
    sofar_length (present (working [] a.n a.rows.now) a.table) a.atoms.now a.out.now [] c.loop-k.k c.loop-k.kept c.loop-k.out (c.loop-k.invariant []) (omega (arith, fewer, c.requires)) in
    same

pub returns : goal.returns
returns c =
    let l = c.loop-k in
    let e : l.k ≡ c.args.count = omega (arith, c.loop-k-test.false) in
    record { value = λ sc. rw (← e) (l.invariant sc).size; out_after = λ sc. rw (← e) (l.invariant sc).cells }
