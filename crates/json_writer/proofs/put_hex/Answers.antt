-- `json_writer::put_hex` meets its contract.
use Prim.Native.Nat.{◌/◌}
use Rattle.model.specs.Answers.{hex_digit}
use mathlib.Core.Path.{ap, ◌∙◌}
use mathlib.Core.List.{[], ◌∷◌}
use Prim.Native.Nat.{ℕ}
use native.Mathlib.Omega.{arith}
use Rattle.json_writer.proofs.Putting.{put_then, put_is}
use Rattle.json_writer.proofs.put_hex.Goals as goal

pub returns : goal.returns
returns c = put_is (put_then c.put_byte-r.ensures c.put_byte.ensures) (ap (λ (x : ℕ). x ∷ c.hex-2.result ∷ []) c.hex.ensures ∙ ap (λ (x : ℕ). hex_digit (c.args.b / 16) ∷ x ∷ []) c.hex-2.ensures) (omega arith)
