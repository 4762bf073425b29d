-- `value::member` meets its contract.
use Rattle.std.proofs.Common.{◌∙◌, rules, tests}
use Rattle.std.proofs.lemmas.Iterator.{YieldsList-from_slice}
use Rattle.std.proofs.lemmas.Iterator.Search.{any_from_yields_List}
use Rattle.model.specs.Octets.{eq_bytes}
use Rattle.value.proofs.Library.{any_is}
use Rattle.value.proofs.member.Goals as goal

pub returns : goal.returns
returns c =
    any_from_yields_List (eq_bytes c.args.x.now) _ _ _ c.any.ensures.ran (YieldsList-from_slice c.args.l.now cc) (λ e b q h. search (rules, tests))
    ∙ any_is _ c.args.l.now
