-- `rows::less` meets its contract.
use Rattle.model.specs.Octets.{value}
use mathlib.Core.Path.{sym, ap, ◌∙◌}
use Rattle.inner.proofs.Working.{key_head}
use Rattle.rows.proofs.less.Goals as goal

pub returns : goal.returns
returns c =
    let x = c.key_of.ensures in
    let y = c.key_of-2.ensures in
    let p = ap value x.bytes ∙ sym (key_head c.args.x.now x.head) in
    let q = ap value y.bytes ∙ sym (key_head c.args.y.now y.head) in
    c.less_keys.ensures ∙ rw (p, q)
