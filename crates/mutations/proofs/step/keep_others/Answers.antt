-- `mutations::step::keep_others` meets its contract.
use mathlib.Core.Path.{sym, ap, subst, ◌∙◌}
use mathlib.Core.Bool.{not}
use mathlib.Core.List.{List, [], ◌∷◌}
use mathlib.Core.Logic.{⊎_elim}
use Prim.Native.Nat.{ℕ, ◌+◌, ◌≤◌, ◌<◌}
use native.Mathlib.Omega.{arith}
use lib.ListN.{length, take, get_or, length-append}
use lib.Seq.{length-take-le, take_all}
use Rattle.model.specs.Base.{member}
use Rattle.model.specs.Catalog.{base_numbered}
use Rattle.model.specs.Value.{without}
use Rattle.model.proofs.Lists.{length_keep}
use Rattle.value.proofs.Fours.{padded, left_in, left_out, set_padded}
use Rattle.mutations.specs.Steps.{Kept}
use Rattle.mutations.specs.Mutating.{elements_read}
use Rattle.mutations.proofs.step.keep_others.Goals as goal

pub is_deleted-requires : goal.is_deleted-requires
is_deleted-requires c = record { running = c.requires.running; ready = c.requires.ready }

-- fewer are kept than were seen, and so fewer than four
room : (g xs : List (List ℕ)) (i n : ℕ) {out : List (List ℕ)} → i < length xs → length xs ≤ 4 → Kept (without g (take i xs)) n out → n < 4
room g xs i n h f k = omega (arith, k.size, length_keep (λ (y : List ℕ). not (member y g)) (take i xs), length-take-le i xs (omega arith))

pub offset_bounds-out-n : goal.offset_bounds-out-n
offset_bounds-out-n c = let few = room _ _ _ c.loop-x.n c.loop-x-test.true c.requires.xs_len_bound c.loop-x.invariant in omega (arith, few)

pub bounds-out-n : goal.bounds-out-n
bounds-out-n c = room _ _ _ c.loop-x.n c.loop-x-test.true c.requires.xs_len_bound c.loop-x.invariant

pub overflow_add-n : goal.overflow_add-n
overflow_add-n c = let few = room _ _ _ c.loop-x.n c.loop-x-test.true c.requires.xs_len_bound c.loop-x.invariant in omega (arith, few)

pub loop-x-preserved : goal.loop-x-preserved
loop-x-preserved c =
    let a = c.args in
    let o = c.loop-x in
    let g = elements_read a.text.now a.names.now (base_numbered a.kind) a.m a.atoms.now in
    let h = c.loop-x-test.true in
    let x = get_or a.xs.now o.x-index [] in
    let r = without g (take o.x-index a.xs.now) in
    let k = o.invariant in
    let few : o.n < 4 = room g a.xs.now o.x-index o.n h c.requires.xs_len_bound k in
    ⊎_elim
    (λ w.
    let e = left_in g a.xs.now o.x-index h (sym c.is_deleted.ensures ∙ w.if-not-is_deleted.true) in
    record {
      size = w.n-is ∙ sym (ap length e ∙ length-append r (x ∷ []) ∙ ap (λ (j : ℕ). j + 1) (sym k.size));
      cells = w.out-is ∙ set_padded r o.out o.n x k.cells k.size (omega (arith, few, k.size)) ∙ ap padded (sym e);
    })
    (λ w.
    let e = left_out g a.xs.now o.x-index h (sym c.is_deleted.ensures ∙ w.if-not-is_deleted.false) in
    record { size = w.n-is ∙ k.size ∙ ap length (sym e); cells = w.out-is ∙ k.cells ∙ ap padded (sym e) })
    c.if-not-is_deleted.branch-raw

pub returns : goal.returns
returns c =
    let a = c.args in
    let o = c.loop-x in
    let g = elements_read a.text.now a.names.now (base_numbered a.kind) a.m a.atoms.now in
    subst (λ (y : List (List ℕ)). Kept (without g y) o.n o.out) (take_all o.x-index a.xs.now c.loop-x-test.false) o.invariant
