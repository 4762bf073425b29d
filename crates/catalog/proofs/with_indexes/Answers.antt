-- `catalog::with_indexes` meets its contract.
use Rattle.std.proofs.Common.{◌≡◌, length, set, arith, rules, length-set, length-append, ◌∙◌}
use Rattle.std.proofs.lemmas.List.{length-take, length-drop}
use Rattle.catalog.proofs.Writing.{stored}
use Rattle.catalog.proofs.with_indexes.Goals as goal

pub slice_bounds-c-end-2 : goal.slice_bounds-c-end-2
slice_bounds-c-end-2 c =
    let entry : length c.args.entry ≡ 48 = search rules in
    let first : length c.args.a ≡ 4 = search rules in
    simp (length-append, length-take, length-drop, length-set) (omega (arith, c.copy_from_slice.ensures.len, c.copy_from_slice.ensures.after))

pub returns : goal.returns
returns c =
    let a = c.args in
    let entry : length a.entry ≡ 48 = search rules in
    let first : length a.a ≡ 4 = search rules in
    let second : length a.b ≡ 4 = search rules in
    (entry, rw (c.copy_from_slice.ensures.after, c.copy_from_slice-2.ensures.after) (stored (set a.entry 36 a.n) a.a a.b (length-set a.entry 36 a.n ∙ entry) first second))
