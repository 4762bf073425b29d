-- `text::two` meets its contract.
use Rattle.text.proofs.Pushing.{pushed_append}
use Rattle.text.proofs.two.Goals as goal

pub returns : goal.returns
returns c = pushed_append c.push-x.ensures c.push.ensures
