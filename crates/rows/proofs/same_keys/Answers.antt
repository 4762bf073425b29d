-- `rows::same_keys` meets its contract.
use lib.ListN.{length-drop}
use lib.Seq.{take_all}
use Prim.Native.Nat.{ℕ}
use mir.Val.{Fits}
use mir.Syntax.{w8}
use mathlib.Core.Path.{◌≡◌, sym, ap, ◌∙◌}
use mathlib.Core.Bool.{◌&&◌}
use native.Mathlib.Omega.{arith}
use borrow.Author.Tests.{ne_eqb, eq-eqb}
use lib.Dec.{eqb}
use lib.ListN.{get_or, drop}
use Rattle.model.specs.Octets.{value, eq_bytes}
use Rattle.model.specs.Rows.{key_of}
use Rattle.model.proofs.Octets.{octets}
use Rattle.inner.proofs.Working.{same_key}
use Rattle.rows.proofs.same_keys.Goals as goal

pub returns-else-table-key : goal.returns-else-table-key
returns-else-table-key c =
    let law : ((i : ℕ) → Fits w8 (get_or c.args.id.now i 0)) → ((i : ℕ) → Fits w8 (get_or c.args.key.now i 0)) → eqb (key_of c.args.table (value c.args.id.now)) (value c.args.key.now) ≡ (eqb c.args.table (get_or c.args.key.now 0 0) && eq_bytes c.args.id.now (drop 1 c.args.key.now)) = λ f g. same_key c.args.table c.args.id.now c.args.key.now (omega arith) (omega arith) (omega (arith, c.ranges)) (octets c.args.id.now (λ i. omega (arith, f i)))
    (octets c.args.key.now (λ i. omega (arith, g i))) in
    let k = c.args.key.now in
    sym (law c.shared_slice_known-1.given c.shared_slice_known-2-1.given ∙ rw (ne_eqb c.args.table (get_or k 0 0) c.if-table-key.false))

pub returns-then-table-key : goal.returns-then-table-key
returns-then-table-key c =
    let law : ((i : ℕ) → Fits w8 (get_or c.args.id.now i 0)) → ((i : ℕ) → Fits w8 (get_or c.args.key.now i 0)) → eqb (key_of c.args.table (value c.args.id.now)) (value c.args.key.now) ≡ (eqb c.args.table (get_or c.args.key.now 0 0) && eq_bytes c.args.id.now (drop 1 c.args.key.now)) = λ f g. same_key c.args.table c.args.id.now c.args.key.now (omega arith) (omega arith) (omega (arith, c.ranges)) (octets c.args.id.now (λ i. omega (arith, f i)))
    (octets c.args.key.now (λ i. omega (arith, g i))) in
    let k = c.args.key.now in
    c.same_bytes.ensures
    ∙ ap (eq_bytes c.args.id.now) (take_all 16 (drop 1 k) (omega (arith, length-drop 1 k)))
    ∙ sym (law c.shared_slice_known-1.given c.shared_slice_known-2-1.given ∙ rw (eq-eqb c.args.table (get_or k 0 0) c.if-table-key.true))
