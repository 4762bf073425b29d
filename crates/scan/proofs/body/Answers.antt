-- `scan::body` meets its contract.
use Rattle.std.proofs.Common.{ℕ, length, sym, ap, ◌∙◌, arith}
use Rattle.model.specs.Strings.{body_at}
use Rattle.scan.specs.Strings.{is_plain}
use Rattle.scan.proofs.Characters.{goes_on, body_more, body_done, body_passing, passing_from}
use Rattle.scan.proofs.body.Goals as goal

pub loop-e-smaller : goal.loop-e-smaller
loop-e-smaller c =
    let s = c.args.text.now in
    omega (arith, goes_on s c.plain_bytes-i.result c.in-Continue.e (sym c.character.ensures ∙ c.in-Continue.is), passing_from s is_plain (length s) c.loop-e.i, c.plain_bytes-i.ensures)

pub loop-e-preserved : goal.loop-e-preserved
loop-e-preserved c =
    let s = c.args.text.now in
    c.loop-e.invariant ∙ body_passing s (length s) c.loop-e.i ∙ ap (λ (i : ℕ). (body_at s i).read) (sym c.plain_bytes-i.ensures)
    ∙ body_more s c.plain_bytes-i.result c.in-Continue.e (sym c.character.ensures ∙ c.in-Continue.is)

pub returns-in-Break : goal.returns-in-Break
returns-in-Break c =
    let s = c.args.text.now in
    sym (c.loop-e.invariant ∙ body_passing s (length s) c.loop-e.i ∙ ap (λ (i : ℕ). (body_at s i).read) (sym c.plain_bytes-i.ensures)
    ∙ body_done s c.plain_bytes-i.result c.in-Break.r (sym c.character.ensures ∙ c.in-Break.is))
