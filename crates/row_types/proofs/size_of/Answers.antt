-- `row_types::size_of` meets its contract.
use mathlib.Core.Path.{sym, ap, ◌∙◌}
use Prim.Native.Nat.{◌<◌}
use native.Mathlib.Omega.{arith}
use Rattle.model.specs.Text.{chars}
use Rattle.model.specs.Value.{from_twos}
use Rattle.model.proofs.Octets.{value_big_fits}
use Rattle.row_types.proofs.Laws.{chars_short, small_is}
use Rattle.row_types.proofs.size_of.Goals as goal

pub returns : goal.returns
returns c =
    let t = c.args.t.now in
    let h : chars t < 9223372036854775808 = omega (arith, chars_short t, c.well_formed.0.1) in
    let k : chars t < 18446744073709551616 = omega (arith, h) in
    c.integer.ensures ∙ ap from_twos (c.count_chars.ensures ∙ sym (value_big_fits 8 (chars t) k)) ∙ small_is (chars t) h
