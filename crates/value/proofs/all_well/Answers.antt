-- `value::all_well` meets its contract.
use Rattle.std.proofs.Common.{◌&&◌, ◌∙◌, rules, tests}
use Rattle.std.proofs.lemmas.Iterator.{YieldsList-from_slice}
use Rattle.std.proofs.lemmas.Iterator.Search.{all_from_yields_List}
use Rattle.model.specs.Value.{well_atom, byte_atom}
use Rattle.model.specs.Catalog.{base_numbered}
use Rattle.value.proofs.Library.{all_is, joined}
use Rattle.value.proofs.all_well.Goals as goal

pub returns : goal.returns
returns c =
    all_from_yields_List (λ a. well_atom (base_numbered c.args.kind) a && byte_atom a) _ _ _ c.all.ensures.ran (YieldsList-from_slice c.args.l.now cc) (λ x b q h. (search (rules, tests), joined b (well_atom (base_numbered c.args.kind) x.now) (byte_atom x.now) (search (rules, tests)) (search (rules, tests))))
    ∙ all_is _ c.args.l.now
