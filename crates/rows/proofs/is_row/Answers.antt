-- `rows::is_row` meets its contract.
use mathlib.Core.Path.{sym, ap, ◌∙◌}
use lib.Dec.{eqb}
use Rattle.model.specs.Octets.{value}
use Rattle.model.specs.Rows.{key_of}
use Rattle.inner.proofs.Working.{key_head}
use Rattle.rows.proofs.is_row.Goals as goal

pub returns : goal.returns
returns c =
    let y = c.key_of.ensures in
    c.same_keys.ensures ∙ ap (eqb (key_of c.args.table (value c.args.id.now))) (ap value y.bytes ∙ sym (key_head c.args.row.now y.head))
