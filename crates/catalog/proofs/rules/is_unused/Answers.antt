-- `catalog::rules::is_unused` meets its contract.
use Rattle.std.proofs.Common.{◌≡◌, ℕ, ◌+◌, ◌-◌, ◌*◌, true, [], get_or, take, drop, ap, ◌∙◌, arith}
use Rattle.std.proofs.lemmas.Grind.{common_steps}
use Rattle.model.specs.Base.{all}
use Rattle.catalog.specs.Judging.{is_blank, is_unused}
use Rattle.catalog.proofs.rules.is_unused.Goals as goal

pub returns-then-is_blank : goal.returns-then-is_blank
unfolding is_unused
returns-then-is_blank c =
    let x = c.args.catalog.now in
    let t = c.args.t in
    let e : 5 + 6 * t + 6 - (5 + 6 * t) ≡ 6 = omega arith in
    let f : 5 + 6 * t ≡ 5 + 6 * t + 0 = omega arith in
    let head : is_blank (get_or x (1 + t) []) ≡ true = cc in
    rw (is_unused, head) (c.are_blank.ensures ∙ ap (λ (k : ℕ). all is_blank (take k (drop (5 + 6 * t) x))) e ∙ ap (λ (k : ℕ). all is_blank (take 6 (drop k x))) f)

pub returns-else-is_blank : goal.returns-else-is_blank
unfolding is_unused
returns-else-is_blank c = grind (arith, common_steps)
