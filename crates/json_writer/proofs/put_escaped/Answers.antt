-- `json_writer::put_escaped` meets its contract.
use Rattle.std.proofs.Common.{◌≡◌, arith, rules}
use Rattle.json_writer.proofs.Putting.{put_then, put_is}
use Rattle.json_writer.proofs.Escapes.{escaped_self, escaped_low, escaped_plain}
use Rattle.json_writer.proofs.put_escaped.Goals as goal

pub returns-in-34 : goal.returns-in-34
returns-in-34 c = put_is (put_then c.put_byte-r.ensures c.put_byte.ensures) (escaped_self _ c.in-34.is) (omega arith)

pub returns-in-0-to-31 : goal.returns-in-0-to-31
returns-in-0-to-31 c = put_is (put_then c.put_bytes-r.ensures c.put_hex.ensures) (escaped_low _ (λ e. omega arith) (λ e. omega arith) (omega arith)) (omega arith)

pub returns-in_default : goal.returns-in_default
returns-in_default c = put_is c.put_byte-in_default.ensures (let n : c.args.b ≡ 34 → ⊥ = search rules in let m : c.args.b ≡ 92 → ⊥ = search rules in escaped_plain _ n m (omega arith)) (omega arith)
