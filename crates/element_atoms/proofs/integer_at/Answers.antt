-- `element_atoms::integer_at` meets its contract.
use Rattle.std.specs.Prelude.{Some}
use mathlib.Core.Path.{sym, ap, ◌∙◌}
use Rattle.inner.specs.Positions.{tree_at}
use Rattle.uuids.proofs.Atoms.{atom_there, atom_none}
use Rattle.element_atoms.proofs.Reading.{integer_some, integer_none}
use Rattle.element_atoms.proofs.integer_at.Goals as goal

pub returns-then-ok : goal.returns-then-ok
returns-then-ok c =
    let a = c.args in
    atom_there (integer_some (tree_at a.text.now a.at) c.integer_at-w.ensures (sym c.is_whole-ok.ensures ∙ c.if-ok.true) c.bits.ensures ∙ ap Some (sym c.put_integer.ensures))

pub returns : goal.returns
returns c =
    let a = c.args in
    atom_none (integer_none (tree_at a.text.now a.at) c.integer_at-w.ensures (sym c.is_whole-ok.ensures ∙ c.if-ok.false))
