-- `indexes::is_lasting` meets its contract.
use Rattle.indexes.proofs.Shorts.{lasting_at, lasting_none}
use Rattle.inner.specs.Positions.{tree_at}
use mathlib.Core.Bool.{not}
use mathlib.Core.Path.{ap, ◌∙◌}
use Rattle.indexes.proofs.is_lasting.Goals as goal

pub returns-in-Some : goal.returns-in-Some
returns-in-Some c =
    ap not c.truth_at-t.ensures ∙ lasting_at c.args.text.now (tree_at c.args.text.now c.args.at) c.find-f.ensures c.in-Some.is

pub returns-in-None : goal.returns-in-None
returns-in-None c =
    lasting_none c.args.text.now (tree_at c.args.text.now c.args.at) c.find-f.ensures c.in-None.is
