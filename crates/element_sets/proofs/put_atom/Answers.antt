-- `element_sets::put_atom` meets its contract.
use mathlib.Core.Path.{sym}
use Rattle.element_sets.proofs.Gathering.{put_room, put_past}
use Rattle.element_sets.proofs.put_atom.Goals as goal

pub returns-then-i-lt-ELEMENTS : goal.returns-then-i-lt-ELEMENTS
returns-then-i-lt-ELEMENTS c =
    let a = c.args in
    sym (put_room a.i a.cell.now a.atoms.now c.if-i-lt-ELEMENTS.true)

pub returns-else-i-lt-ELEMENTS : goal.returns-else-i-lt-ELEMENTS
returns-else-i-lt-ELEMENTS c =
    let a = c.args in
    sym (put_past a.i a.cell.now a.atoms.now c.if-i-lt-ELEMENTS.false)
