-- `row_types::atom_meets` meets its contract.
use Rattle.std.proofs.Common.{ℕ, List, sym, ap, ◌∙◌, arith}
use lib.IntN.{pos}
use Rattle.model.specs.Catalog.{column_from}
use Rattle.model.specs.Text.{chars}
use Rattle.model.specs.Value.{in_limits}
use Rattle.row_types.proofs.Laws.{at_integer, at_text, at_other}
use Rattle.row_types.proofs.atom_meets.Goals as goal

pub returns-in-0 : goal.returns-in-0
returns-in-0 c = c.in_limits.ensures ∙ sym (at_integer c.args.entry.now c.args.a.now (omega arith))

pub returns-in-2 : goal.returns-in-2
returns-in-2 c =
    let a = c.args in
    let n = c.size_of.ensures ∙ ap (λ (l : List ℕ). pos (chars l)) c.text_of.ensures in
    c.in_limits-in-2.ensures ∙ ap (in_limits (column_from a.entry.now)) n ∙ sym (at_text a.entry.now a.a.now (omega arith))

pub returns-in_default : goal.returns-in_default
returns-in_default c =
    sym (at_other c.args.entry.now c.args.a.now (λ e. omega arith) (λ e. omega arith))
