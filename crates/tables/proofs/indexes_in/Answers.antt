-- `tables::indexes_in` meets its contract.
use mathlib.Core.Path.{sym, ◌∙◌}
use mathlib.Core.List.{map}
use native.Mathlib.Omega.{arith}
use borrow.Author.Tests.{ne_eqb}
use Rattle.inner.specs.Positions.{tree_at}
use Rattle.model.specs.Members.{members_in}
use Rattle.model.specs.Catalog.{entry_name}
use Rattle.indexes.proofs.Numbers.{fits_short}
use Rattle.tables.proofs.Shapes.{indexes_none, indexes_bad, indexes_put}
use Rattle.tables.proofs.indexes_in.Goals as goal

pub returns-then-p-eq0 : goal.returns-then-p-eq0
returns-then-p-eq0 c =
    let s = c.args.text.now in
    indexes_none s (members_in (tree_at s c.args.q)) (map entry_name c.args.columns.now) c.args.cell.now c.if-p-eq0.true

pub put-requires : goal.put-requires
put-requires c =
    let s = c.args.text.now in
    let few = c.requires.columns_len_bound in
    record { says = c.requires.says; at_value = c.requires.p_value (ne_eqb c.args.p 0 c.if-p-eq0.false); at_value_2 = fits_short (members_in (tree_at s c.args.q)) c.requires.q_value_2 (tree_at s c.args.p) (sym c.fits-ok.ensures ∙ c.if-ok.true); columns_len_bound = omega arith }

pub returns-then-ok : goal.returns-then-ok
returns-then-ok c =
    let s = c.args.text.now in
    indexes_put s (members_in (tree_at s c.args.q)) (map entry_name c.args.columns.now) c.args.cell.now c.if-p-eq0.false c.fits-ok.ensures c.if-ok.true c.put.ensures

pub returns : goal.returns
returns c =
    let s = c.args.text.now in
    indexes_bad s (members_in (tree_at s c.args.q)) (map entry_name c.args.columns.now) c.args.cell.now c.if-p-eq0.false c.fits-ok.ensures c.if-ok.false
