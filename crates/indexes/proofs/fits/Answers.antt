-- `indexes::fits` meets its contract.
use Rattle.indexes.proofs.Judged.{fits_array, fits_not}
use Rattle.model.specs.Members.{members_in}
use Rattle.inner.specs.Positions.{tree_at}
use Rattle.model.specs.Nav.{is_array}
use mathlib.Core.Path.{sym, ap, ◌∙◌}
use Rattle.indexes.proofs.fits.Goals as goal

pub returns-then-a : goal.returns-then-a
returns-then-a c =
    let s = c.args.text.now in
    let a = sym (c.is_kind-a.ensures ∙ ap is_array c.kind_at-k.ensures) ∙ c.if-a.true in
    c.few_fit.ensures ∙ fits_array (members_in (tree_at s c.args.columns)) (tree_at s c.args.at) a

pub returns : goal.returns
returns c =
    let s = c.args.text.now in
    let a = sym (c.is_kind-a.ensures ∙ ap is_array c.kind_at-k.ensures) ∙ c.if-a.false in
    fits_not (members_in (tree_at s c.args.columns)) (tree_at s c.args.at) a
