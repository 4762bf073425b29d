-- `garbage::same_row` meets its contract.
use mathlib.Core.Path.{sym, ap, ◌∙◌}
use Prim.Native.Nat.{ℕ}
use mathlib.Core.List.{List}
use lib.Dec.{eqb}
use Rattle.model.specs.Octets.{value}
use Rattle.model.specs.Rows.{key_of}
use Rattle.inner.specs.Working.{table_in, id_in, key_in}
use Rattle.inner.proofs.Working.{key_head}
use Rattle.garbage.proofs.same_row.Goals as goal

pub returns : goal.returns
unfolding key_in id_in
returns c =
    let a = c.args.a.now in
    let b = c.args.b.now in
    let k = c.key_of.ensures in
    c.same_keys.ensures
    ∙ ap (λ (t : ℕ). eqb (key_of t (value c.id_of.result.now)) (value c.key_of.result.now)) c.table_of.ensures
    ∙ ap (λ (i : List ℕ). eqb (key_of (table_in a) (value i)) (value c.key_of.result.now)) c.id_of.ensures.bytes
    ∙ ap (λ (n : ℕ). eqb (key_in a) n) (ap value k.bytes ∙ sym (key_head b k.head))
