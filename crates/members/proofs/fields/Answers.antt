-- `members::fields` meets its contract.
use mathlib.Core.Logic.{⊎_elim}
use Rattle.members.proofs.Kept.{kept_pass}
use mathlib.Core.Path.{◌≡◌, sym, subst, ◌∙◌}
use native.Mathlib.Omega.{arith}
use lib.ListN.{set, replicate}
use lib.Seq.{set_out}
use Rattle.inner.specs.Positions.{tree_at}
use Rattle.model.specs.Members.{members_in}
use Rattle.nav.proofs.Walk.{members_in_lem, pass_end, pass_less, pass_fine, pass_key}
use Rattle.members.specs.Fields.{words_of}
use Rattle.members.proofs.Kept.{Kept, kept_start, kept_end}
use Rattle.members.proofs.fields.Goals as goal

pub loop-g-init : goal.loop-g-init
loop-g-init c =
    let q = members_in_lem c.args.text.now c.args.at c.requires.at_value in
    let k = kept_start c.args.text.now (words_of c.args.words.now) (members_in (tree_at c.args.text.now c.args.at)) in
    rw c.first-g.ensures (subst (Kept c.args.text.now (words_of c.args.words.now) (members_in (tree_at c.args.text.now c.args.at)) (replicate 10 0)) q.0 k, q.1)

pub member_value-v-requires : goal.member_value-v-requires
member_value-v-requires c = c.requires.says

pub next_past-g-requires : goal.next_past-g-requires
next_past-g-requires c = record { says = c.requires.says; at_value = rw c.member_value-v.ensures (pass_key c.args.text.now c.in-Some.is c.loop-g.invariant.1) }

pub loop-g-smaller : goal.loop-g-smaller
loop-g-smaller c =
    let s = c.args.text.now in
    rw c.next_past-g.ensures (pass_less s c.in-Some.is)

pub loop-g-preserved : goal.loop-g-preserved
loop-g-preserved c =
    let s = c.args.text.now in
    let ws = words_of c.args.words.now in
    let k = kept_pass s ws c.requires.words_value c.requires.words_len_bound c.in-Some.is c.loop-g.invariant.1 c.loop-g.invariant.0 in
    let ce = c.choose-k.ensures in
    let me = c.member_value-v.ensures in
    let e : c.if-k-lt-NOTED.slots ≡ set c.loop-g.slots c.choose-k.result c.member_value-v.result =
    ⊎_elim (λ w. w.slots-is) (λ w. w.slots-is ∙ sym (set_out c.loop-g.slots _ _ (let z = w.if-k-lt-NOTED.false in let y = c.loop-g.invariant.0.size in omega arith))) c.if-k-lt-NOTED.branch-raw in
    rw c.next_past-g.ensures (rw (e, ce, me) k, pass_fine s c.in-Some.is c.loop-g.invariant.1)

pub returns : goal.returns
returns c =
    let s = c.args.text.now in
    kept_end s (words_of c.args.words.now) (subst (Kept s (words_of c.args.words.now) (members_in (tree_at s c.args.at)) c.loop-g.slots) (pass_end s c.in_default.is) c.loop-g.invariant.0)
