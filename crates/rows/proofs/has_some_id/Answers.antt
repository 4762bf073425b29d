-- `rows::has_some_id` meets its contract.
use mathlib.Core.Path.{ap, ◌∙◌}
use mathlib.Core.Bool.{not, ◌&&◌}
use mathlib.Core.List.{List}
use Prim.Native.Nat.{ℕ, ◌^◌}
use lib.Dec.{eqb, ltb}
use Rattle.model.specs.Octets.{value}
use Rattle.inner.specs.Working.{id_in}
use Rattle.rows.proofs.has_some_id.Goals as goal

pub returns : goal.returns
unfolding id_in
returns c = c.some_id.ensures ∙ ap (λ (b : List ℕ). not (eqb (value b) 0) && ltb (value b) (256 ^ 16)) c.id_of.ensures.bytes
