-- `text::is_first_half` meets its contract.
use borrow.Author.Tests.{le-leb, lt-leb}
use Rattle.model.specs.Strings.{in_range}
use Rattle.text.proofs.is_first_half.Goals as goal

pub returns-then-v-lt55296 : goal.returns-then-v-lt55296
unfolding in_range
returns-then-v-lt55296 c = rw (lt-leb _ _ c.if-v-lt55296.true)

pub returns : goal.returns
unfolding in_range
returns c = rw (le-leb _ _ c.if-v-lt55296.false)
