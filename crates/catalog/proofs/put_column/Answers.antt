-- `catalog::put_column` meets its contract.
use lib.ListN.{length, drop}
use Prim.Native.Nat.{ℕ}
use mathlib.Core.List.{◌++◌}
use mathlib.Core.Path.{◌≡◌, ap, ◌∙◌}
use Rattle.octets.proofs.Rests.{write_next}
use Rattle.catalog.specs.Writing.{column_bytes}
use Rattle.catalog.proofs.put_column.Goals as goal

pub returns : goal.returns
returns c =
    let name = c.args.name.now in
    let n : length name ≡ 25 = c.told-name in
    write_next name (column_bytes c.args.s) c.args.out.now _ _ 25 22 n (c.put_bytes.ensures ∙ ap (λ (k : ℕ). name ++ drop k c.args.out.now) n) c.put_shape.ensures
