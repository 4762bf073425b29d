-- `json_writer::put_decimal` meets its contract.
use lib.ListN.{length, drop, length-take, length-drop}
use lib.Seq.{take_all}
use Prim.Native.Nat.{◌-◌}
use mathlib.Core.Path.{◌≡◌, ◌∙◌}
use native.Mathlib.Omega.{arith}
use Rattle.json_writer.proofs.Putting.{put_is}
use Rattle.json_writer.proofs.put_decimal.Goals as goal

pub returns : goal.returns
returns c =
    let l : length c.decimal_digits-i.new.digits ≡ 20 = c.decimal_digits-i.auto.digits in
    put_is
    c.put_bytes.ensures
    (take_all (20 - c.decimal_digits-i.result) (drop c.decimal_digits-i.result c.decimal_digits-i.new.digits) (omega (arith, length-drop c.decimal_digits-i.result c.decimal_digits-i.new.digits)) ∙ c.decimal_digits-i.ensures.digits_after)
    (omega (arith, length-take (20 - c.decimal_digits-i.result) (drop c.decimal_digits-i.result c.decimal_digits-i.new.digits)))
