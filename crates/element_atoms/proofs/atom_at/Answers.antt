-- `element_atoms::atom_at` meets its contract.
use mathlib.Core.Path.{refl, sym, subst}
use native.Mathlib.Omega.{arith}
use Rattle.inner.specs.Positions.{tree_at}
use Rattle.model.specs.Schema.{integer, boolean, uuid}
use Rattle.uuids.specs.Named.{names_at}
use Rattle.atom.proofs.Types.{base_integer, base_boolean, base_text, base_uuid}
use Rattle.element_atoms.specs.Atoms.{integer_in, boolean_in, Reads}
use Rattle.element_atoms.proofs.Reading.{reads_fits_if, reads_text}
use Rattle.element_atoms.proofs.atom_at.Goals as goal
use Rattle.element_atoms.proofs.atom_at.Goals.{in-0, in-1, in_default}

pub returns-in-2 : goal.returns-in-2
returns-in-2 c =
    let a = c.args in
    let n = names_at a.text.now a.names.now in
    let j = tree_at a.text.now a.at in
    let out = c.text_at.new.out in
    subst (λ k. Reads n k j c.text_at.result out) (sym (base_text a.kind c.in-2.is)) (reads_text n j out c.text_at.result c.text_at.ensures)

pub returns : goal.returns
unfolding integer_in boolean_in
returns c =
    let a = c.args in
    let n = names_at a.text.now a.names.now in
    let j = tree_at a.text.now a.at in
    let out = c.fits_if.new.out in
    let r = c.fits_if.result in
    elim c.match-kind.branch [
      | in-0 w ↦ subst (λ k. Reads n k j r out) (sym (base_integer a.kind w.in-0.is)) (reads_fits_if n j integer _ out r (λ x. refl) _ w.integer_at-ok.ensures (rw (w.ok-is, w.out-is) at c.fits_if.ensures))
      | in-1 w ↦ subst (λ k. Reads n k j r out) (sym (base_boolean a.kind w.in-1.is)) (reads_fits_if n j boolean _ out r (λ x. refl) _ w.boolean_at-ok.ensures (rw (w.ok-is, w.out-is) at c.fits_if.ensures))
      | in_default w ↦ subst (λ k. Reads n k j r out) (sym (base_uuid a.kind (λ e. omega arith) (λ e. omega arith) (λ e. omega arith))) (reads_fits_if n j uuid _ out r (λ x. refl) _ w.uuid_at-ok.ensures (rw (w.ok-is, w.out-is) at c.fits_if.ensures))
    ]
