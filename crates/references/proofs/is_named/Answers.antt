-- `references::is_named` meets its contract.
use mathlib.Core.Path.{sym, ap, ◌∙◌}
use Prim.Native.Nat.{ℕ}
use lib.Dec.{eqb}
use lib.ListN.{take}
use Rattle.model.specs.Octets.{value}
use Rattle.model.specs.Rows.{key_of}
use Rattle.inner.proofs.Working.{key_head}
use Rattle.references.proofs.is_named.Goals as goal

pub returns : goal.returns
returns c =
    let k = c.key_of.ensures in
    c.same_keys.ensures ∙ ap (λ (x : ℕ). eqb (key_of c.args.table (value (take 16 c.args.atom.now))) x) (ap value k.bytes ∙ sym (key_head c.args.row.now k.head))
