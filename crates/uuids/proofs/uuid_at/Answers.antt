-- `uuids::uuid_at` meets its contract.
use mathlib.Core.Path.{sym, subst, ◌∙◌}
use Rattle.inner.specs.Positions.{tree_at}
use Rattle.model.specs.Nav.{items_in}
use Rattle.elements.specs.Elements.{Pairs}
use Rattle.uuids.specs.Ids.{id_in}
use Rattle.uuids.specs.Named.{names_at}
use Rattle.uuids.proofs.Atoms.{atom_none, atom_as_lem}
use Rattle.uuids.proofs.Names.{spells_atom, uuid_not, uuid_plain, uuid_named, uuid_other}
use Rattle.uuids.proofs.uuid_at.Goals as goal

pub returns-in_default : goal.returns-in_default
unfolding Pairs
returns-in_default c =
    let a = c.args in
    let s = a.text.now in
    atom_none (uuid_not (names_at s a.names.now) (tree_at s a.at) (subst (λ z. Pairs s z (items_in (tree_at s a.at))) c.in_default.is c.pair_at-p.ensures))

pub returns-then-is_word : goal.returns-then-is_word
unfolding Pairs
returns-then-is_word c =
    let a = c.args in
    let s = a.text.now in
    let two = subst (λ z. Pairs s z (items_in (tree_at s a.at))) c.in-Some.is c.pair_at-p.ensures in
    atom_as_lem
    (uuid_plain (names_at s a.names.now) (tree_at s a.at) two.0 (sym c.is_word.ensures ∙ c.if-is_word.true) ∙ spells_atom c.id_at.result (id_in (tree_at s c.in-Some.b)) c.id_at.ensures)
    c.put_uuid.ensures

pub returns-then-is_word-2 : goal.returns-then-is_word-2
unfolding Pairs
returns-then-is_word-2 c =
    let a = c.args in
    let s = a.text.now in
    let two = subst (λ z. Pairs s z (items_in (tree_at s a.at))) c.in-Some.is c.pair_at-p.ensures in
    atom_as_lem
    (uuid_named (names_at s a.names.now) (tree_at s a.at) two.0 (sym c.is_word.ensures ∙ c.if-is_word.false) (sym c.is_word-2.ensures ∙ c.if-is_word-2.true))
    c.named_at.ensures

pub returns-else-is_word-2 : goal.returns-else-is_word-2
unfolding Pairs
returns-else-is_word-2 c =
    let a = c.args in
    let s = a.text.now in
    let two = subst (λ z. Pairs s z (items_in (tree_at s a.at))) c.in-Some.is c.pair_at-p.ensures in
    rw c.if-is_word-2.false (atom_none (uuid_other (names_at s a.names.now) (tree_at s a.at) two.0 (sym c.is_word.ensures ∙ c.if-is_word.false) (sym c.is_word-2.ensures ∙ c.if-is_word-2.false)))
