-- `value::insert_count` meets its contract.
use Rattle.std.proofs.Common.{ℕ, ◌+◌, Bool, not, sym, ap, ◌∙◌, length}
use mir.Val.{bool_byte}
use Rattle.value.proofs.Counts.{more_count, one_byte}
use Rattle.value.proofs.insert_count.Goals as goal

pub returns : goal.returns
returns c =
    λ k.
    ap (λ (n : ℕ). length c.args.l.now + n) (c.from.ensures ∙ ap (λ (b : Bool). bool_byte (not b)) c.member.ensures ∙ one_byte _)
    ∙ sym (more_count k c.args.x.now c.args.l.now)
