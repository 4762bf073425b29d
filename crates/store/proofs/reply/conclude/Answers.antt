-- `store::reply::conclude` meets its contract.
use mathlib.Core.Path.{refl, ap, ◌∙◌}
use native.Mathlib.Omega.{arith}
use Rattle.model.proofs.Tests.{clash}
use Rattle.store.specs.Replying.{no_effect}
use Rattle.store.proofs.reply.conclude.Goals as goal

pub returns-then-answer-o : goal.returns-then-answer-o
returns-then-answer-o c =
    let h = c.if-answer-o.true in
    record {
      long = λ _. (c.no_effect.ensures ∙ ap no_effect c.refuse.ensures.is, c.refuse.ensures.records, c.refuse.ensures.text);
      stays = λ t. absurd (omega (arith, t, h));
      given = λ t. absurd (omega (arith, t, h));
    }

pub give_out-requires : goal.give_out-requires
give_out-requires c =
    let p = c.requires in
    record { accepted = p.accepted; store_bytes_in_bounds = p.store_bytes_in_bounds; ordered = (p.ordered.0, p.ordered.1 c.if-commits.true) }

pub returns-then-commits : goal.returns-then-commits
returns-then-commits c =
    record {
      long = λ t. absurd (omega (arith, t, c.if-answer-o.false));
      stays = λ _ x. absurd (clash _ c.if-commits.true x);
      given = λ _ _. c.give_out.ensures;
    }

pub returns : goal.returns
returns c =
    record {
      long = λ t. absurd (omega (arith, t, c.if-answer-o.false));
      stays = λ _ _. (refl, c.clear.ensures, refl);
      given = λ _ x. absurd (clash _ x c.if-commits.false);
    }
