-- `members::choose` meets its contract.
use Prim.Native.Nat.{◌+◌, ◌-◌}
use mathlib.Core.Path.{sym, ◌∙◌}
use native.Mathlib.Omega.{arith}
use native.Mathlib.Nat.{sub-zero}
use lib.ListN.{length}
use Rattle.inner.specs.Positions.{tree_at}
use Rattle.text.proofs.Words.{place_tree, place_none, word_not, word_text}
use Rattle.members.specs.Fields.{words_of, choice}
use Rattle.members.proofs.Choices.{choice_none, words_end, words_spent, words_short, words_here, words_next}
use Rattle.members.proofs.choose.Goals as goal

pub returns-in_default : goal.returns-in_default
unfolding choice
returns-in_default c =
    let a = c.args in
    sym (choice_none (tree_at a.text.now a.at) (λ w. sym (word_not w (tree_at a.text.now a.at) (place_none a.text.now a.at (sym c.body_at-f.ensures ∙ c.in_default.is)))) (words_of a.words.now) 0)

pub loop-k-init : goal.loop-k-init
unfolding choice words_of
loop-k-init c = (omega arith, rw sub-zero)

pub returns-then-words-a : goal.returns-then-words-a
returns-then-words-a c =
    let a = c.args in
    let w = a.words.now in
    sym (c.loop-k.invariant.1 ∙ words_end (tree_at a.text.now a.at) w c.loop-k.k (length w - c.loop-k.k) c.loop-k.a c.if-words-a.true)

pub overflow_cast-n : goal.overflow_cast-n
overflow_cast-n c = omega (arith, c.shared_slice_known-in-loop-k-1.given c.loop-k.a)

pub returns-then-words-b : goal.returns-then-words-b
returns-then-words-b c =
    let a = c.args in
    let w = a.words.now in
    sym (c.loop-k.invariant.1 ∙ words_short (tree_at a.text.now a.at) w c.loop-k.k (length w - c.loop-k.k) c.loop-k.a c.if-words-a.false (length w - (c.loop-k.k + 1)) (omega arith) c.if-words-b.true)

pub returns-then-body_is : goal.returns-then-body_is
returns-then-body_is c =
    let a = c.args in
    let w = a.words.now in
    sym (c.loop-k.invariant.1 ∙ words_here (tree_at a.text.now a.at) w c.loop-k.k (length w - c.loop-k.k) c.loop-k.a c.if-words-a.false (length w - (c.loop-k.k + 1)) (omega arith) c.if-words-b.false
    (sym (c.body_is.ensures ∙ word_text _ _ (place_tree a.text.now a.at (sym c.body_at-f.ensures ∙ c.in-Some.is))) ∙ c.if-body_is.true))

pub loop-k-preserved : goal.loop-k-preserved
loop-k-preserved c =
    let a = c.args in
    let w = a.words.now in (
      omega arith,
      c.loop-k.invariant.1 ∙ words_next (tree_at a.text.now a.at) w c.loop-k.k (length w - c.loop-k.k) c.loop-k.a c.if-words-a.false (length w - (c.loop-k.k + 1)) (omega arith) c.if-words-b.false
          (sym (c.body_is.ensures ∙ word_text _ _ (place_tree a.text.now a.at (sym c.body_at-f.ensures ∙ c.in-Some.is))) ∙ c.if-body_is.false),
    )

pub returns : goal.returns
returns c =
    let a = c.args in
    let w = a.words.now in
    sym (c.loop-k.invariant.1 ∙ words_spent (tree_at a.text.now a.at) w c.loop-k.k (length w - c.loop-k.k) c.loop-k.a (omega arith))
