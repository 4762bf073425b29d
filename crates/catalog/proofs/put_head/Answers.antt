-- `catalog::put_head` meets its contract.
use Prim.Native.Nat.{ℕ, ◌-◌}
use mathlib.Core.Path.{◌≡◌, ◌∙◌}
use mathlib.Core.List.{List, [], ◌∷◌, ◌++◌, append_assoc}
use native.Mathlib.Omega.{arith}
use lib.ListN.{length, take, drop, length-set, length-append, length-drop}
use lib.Seq.{sets, sets-eq, length-sets, length-take-le}
use borrow.Rule.Slice.PartMut.{same_len_mid}
use Rattle.model.specs.Octets.{big}
use Rattle.octets.proofs.Rests.{mid_rest, write_next}
use Rattle.catalog.specs.Writing.{head_bytes}
use Rattle.catalog.proofs.put_head.Goals as goal

pub bounds-out-26 : goal.bounds-out-26
bounds-out-26 c = simp length-set (omega arith)

pub bounds-out-27 : goal.bounds-out-27
bounds-out-27 c = simp length-set (omega arith)

pub slice_bounds-put_number-count : goal.slice_bounds-put_number-count
slice_bounds-put_number-count c = simp length-set (omega arith)

pub slice_bounds-put_number-start : goal.slice_bounds-put_number-start
slice_bounds-put_number-start c = simp length-set (omega arith)

pub put_number-requires : goal.put_number-requires
put_number-requires c =
    let out = c.args.out.now in
    let cur : List ℕ = sets out 25 (c.args.n ∷ c.bit.result ∷ c.bit-2.result ∷ []) in
    rw (mid_rest 28 cur) (omega (arith, length-drop 28 cur, length-sets out 25 (c.args.n ∷ c.bit.result ∷ c.bit-2.result ∷ []), c.requires))

pub shape_of-out : goal.shape_of-out
shape_of-out c =
    let out = c.args.out.now in
    let three : List ℕ = c.args.n ∷ c.bit.result ∷ c.bit-2.result ∷ [] in
    let cur : List ℕ = sets out 25 (c.args.n ∷ c.bit.result ∷ c.bit-2.result ∷ []) in
    same_len_mid 28 (length cur - 28) cur c.put_number.new.out c.put_number.auto.out ∙ length-sets out 25 three

pub returns : goal.returns
unfolding head_bytes
returns c =
    let out = c.args.out.now in
    let three : List ℕ = c.args.n ∷ c.bit.result ∷ c.bit-2.result ∷ [] in
    let l : length (take 25 out ++ three) ≡ 28 = omega (arith, length-append (take 25 out) three, length-take-le 25 out (omega (arith, c.requires))) in
    let q = write_next (take 25 out ++ three) (big 8 c.args.most) out _ _ 28 8 l (sets-eq three out 25 (omega (arith, c.requires))) c.put_number.ensures in
    q ∙ (λ i. append_assoc (take 25 out) (c.args.n ∷ c.bit.ensures i ∷ c.bit-2.ensures i ∷ []) (big 8 c.args.most) i ++ drop 36 out)
