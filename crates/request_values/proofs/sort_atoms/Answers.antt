-- `request_values::sort_atoms` meets its contract.
use mathlib.Core.Path.{refl}
use Rattle.model.specs.Catalog.{base_numbered}
use Rattle.request_values.proofs.Fits.{sorts_one, sorts_all}
use Rattle.request_values.proofs.sort_atoms.Goals as goal

pub returns-then-n-lt2 : goal.returns-then-n-lt2
returns-then-n-lt2 c =
    let a = c.args in
    sorts_one (base_numbered a.kind) a.n a.atoms.now c.if-n-lt2.true refl

pub returns : goal.returns
returns c =
    let a = c.args in
    sorts_all (base_numbered a.kind) a.n a.atoms.now c.sort.ensures
