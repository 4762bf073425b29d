-- `elements::next_element` meets its contract.
use Rattle.elements.specs.Elements.{next_element}
use Rattle.elements.proofs.next_element.Goals as goal

pub returns-then-set : goal.returns-then-set
unfolding next_element
returns-then-set c = rw c.if-set.true c.next_item.ensures

pub returns : goal.returns
unfolding next_element
returns c = rw c.if-set.false
