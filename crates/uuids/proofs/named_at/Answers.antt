-- `uuids::named_at` meets its contract.
use Rattle.std.specs.Prelude.{Some}
use mathlib.Core.Path.{sym, ap, ◌∙◌}
use Rattle.inner.specs.Positions.{tree_at}
use Rattle.model.specs.Nav.{is_text}
use Rattle.uuids.proofs.Atoms.{atom_there, atom_none}
use Rattle.uuids.proofs.Names.{named_not, named_some, named_none}
use Rattle.uuids.proofs.named_at.Goals as goal

pub returns-in-Some : goal.returns-in-Some
returns-in-Some c =
    let a = c.args in
    let h = ap is_text (sym c.kind_at-k.ensures) ∙ sym c.is_kind-t.ensures ∙ c.if-t.true in
    atom_there (named_some a.text.now a.names.now (tree_at a.text.now a.at) h c.place_of-f.ensures c.in-Some.is ∙ ap Some (sym c.put_fresh.ensures))

pub returns-in-None : goal.returns-in-None
returns-in-None c =
    let a = c.args in
    let h = ap is_text (sym c.kind_at-k.ensures) ∙ sym c.is_kind-t.ensures ∙ c.if-t.true in
    atom_none (named_none a.text.now a.names.now (tree_at a.text.now a.at) h c.place_of-f.ensures c.in-None.is)

pub returns : goal.returns
returns c =
    let a = c.args in
    atom_none (named_not a.text.now a.names.now (tree_at a.text.now a.at) (ap is_text (sym c.kind_at-k.ensures) ∙ sym c.is_kind-t.ensures ∙ c.if-t.false))
