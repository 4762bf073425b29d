-- `area::key_at` meets its contract.
use mathlib.Core.Path.{◌≡◌, sym, ap, ◌∙◌}
use Prim.Native.Nat.{ℕ, ◌+◌, ◌*◌, ◌-◌}
use native.Mathlib.Omega.{arith}
use lib.ListN.{length, take, drop}
use lib.Seq.{take-take}
use Rattle.model.specs.Limits.{rows_offset}
use Rattle.area.proofs.Copies.{part_length, head_at}
use borrow.Author.Rules.{rules}
use Rattle.area.proofs.key_at.Goals as goal

pub returns : goal.returns
returns c =
    let a = c.args.area.now in
    let at : ℕ = rows_offset + 625 * c.args.i in
    let n : at + 17 - at ≡ 17 = omega arith in
    let head = part_length a at (omega (arith, c.requires)) in
    record {
      head = ap length (head_at a c.args.i) ∙ head;
      bytes = ap (λ (m : ℕ). take m (drop at a)) n ∙ sym (ap (take 17) (head_at a c.args.i) ∙ take-take 17 25 (drop at a) (omega arith));
      size = search rules;
    }
