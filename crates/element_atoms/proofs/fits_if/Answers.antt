-- `element_atoms::fits_if` meets its contract.
use mathlib.Core.Path.{◌≡◌, refl, sym, subst}
use lib.ListN.{length}
use Rattle.element_atoms.specs.Atoms.{FitsIf}
use Rattle.element_atoms.specs.declared.Atom.TheVariants.{Wrong, Fits}
use Rattle.element_atoms.proofs.Reading.{blank_is}
use borrow.Author.Rules.{rules}
use Rattle.element_atoms.proofs.fits_if.Goals as goal

pub returns-then-ok : goal.returns-then-ok
unfolding FitsIf
returns-then-ok c =
    let a = c.args in
    subst (λ b. FitsIf b a.out.now Fits a.out.now) (sym c.if-ok.true) (refl, refl)

pub returns : goal.returns
unfolding FitsIf
returns c =
    let a = c.args in
    let l : length a.out.now ≡ 25 = search rules in
    subst (λ b. FitsIf b a.out.now Wrong c.clear.new.b) (sym c.if-ok.false) (refl, blank_is a.out.now l c.clear.ensures)
