-- `uuids::put_entry` meets its contract.
use mathlib.Core.Path.{refl}
use Rattle.uuids.specs.Named.{entry_put}
use Rattle.uuids.proofs.put_entry.Goals as goal

pub returns : goal.returns
unfolding entry_put
returns c = refl
