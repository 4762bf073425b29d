-- `value::all_blank` meets its contract.
use Rattle.std.proofs.Common.{◌&&◌, ◌∙◌, rules, tests}
use Rattle.std.proofs.lemmas.Iterator.{YieldsList-from_slice}
use Rattle.std.proofs.lemmas.Iterator.Search.{all_from_yields_List}
use Rattle.model.specs.Value.{zeros, byte_atom}
use Rattle.value.proofs.Library.{all_is, joined}
use Rattle.value.proofs.all_blank.Goals as goal

pub returns : goal.returns
returns c =
    all_from_yields_List (λ a. zeros a && byte_atom a) _ _ _ c.all.ensures.ran (YieldsList-from_slice c.args.l.now cc) (λ x b q h. (search (rules, tests), joined b (zeros x.now) (byte_atom x.now) (search (rules, tests)) (search (rules, tests))))
    ∙ all_is _ c.args.l.now
