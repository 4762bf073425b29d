-- `element_atoms::boolean_at` meets its contract.
use Rattle.std.specs.Prelude.{Some}
use mathlib.Core.Path.{sym, ap, ◌∙◌}
use Rattle.inner.specs.Positions.{tree_at}
use Rattle.model.specs.Nav.{is_truth}
use Rattle.model.specs.Value.{bool_atom}
use Rattle.uuids.proofs.Atoms.{atom_there, atom_none}
use Rattle.element_atoms.proofs.Reading.{boolean_some, boolean_none}
use Rattle.element_atoms.proofs.boolean_at.Goals as goal

pub returns-then-t : goal.returns-then-t
returns-then-t c =
    let a = c.args in
    atom_there
    (boolean_some (tree_at a.text.now a.at) (ap is_truth (sym c.kind_at-k.ensures) ∙ sym c.is_kind-t.ensures ∙ c.if-t.true)
    ∙ ap (λ b. Some (bool_atom b)) (sym c.truth_at-b.ensures) ∙ ap Some (sym c.put_boolean.ensures))

pub returns : goal.returns
returns c =
    let a = c.args in
    atom_none (boolean_none (tree_at a.text.now a.at) (ap is_truth (sym c.kind_at-k.ensures) ∙ sym c.is_kind-t.ensures ∙ c.if-t.false))
