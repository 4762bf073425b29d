-- `text::bytes` meets its contract.
use Prim.Native.Nat.{◌+◌, ◌≤◌}
use native.Mathlib.Omega.{arith}
use native.Mathlib.Nat.{add-sub_cancel_left}
use lib.ListN.{length}
use Rattle.text.proofs.bytes.Goals as goal

pub overflow_add-result : goal.overflow_add-result
overflow_add-result c =
    let in_scratch : c.args.p.start + c.args.p.len ≤ length c.args.scratch.now = rw c.if-p.true at c.requires in
    let h = in_scratch in omega arith

pub slice_bounds-result-end : goal.slice_bounds-result-end
slice_bounds-result-end c =
    let in_scratch : c.args.p.start + c.args.p.len ≤ length c.args.scratch.now = rw c.if-p.true at c.requires in
    in_scratch

pub returns-then-p : goal.returns-then-p
returns-then-p c = rw (c.if-p.true, add-sub_cancel_left)

pub overflow_add-result-2 : goal.overflow_add-result-2
overflow_add-result-2 c =
    let in_request : c.args.p.start + c.args.p.len ≤ length c.args.text.now = rw c.if-p.false at c.requires in
    let in_near : c.args.p.start + c.args.p.len ≤ length c.shorter-near.result.now = rw c.shorter-near.ensures (in_request) in
    let h = in_near in omega arith

pub slice_bounds-result-end-2 : goal.slice_bounds-result-end-2
slice_bounds-result-end-2 c =
    let in_request : c.args.p.start + c.args.p.len ≤ length c.args.text.now = rw c.if-p.false at c.requires in
    let in_near : c.args.p.start + c.args.p.len ≤ length c.shorter-near.result.now = rw c.shorter-near.ensures (in_request) in
    in_near

pub returns : goal.returns
returns c = rw (c.shorter-near.ensures, c.if-p.false, add-sub_cancel_left)
