-- `nav::member_value` meets its contract.
use mathlib.Core.Path.{sym, ap}
use mathlib.Core.Logic.{⊎_elim}
use Rattle.model.specs.Scan.{end_or}
use Rattle.nav.proofs.member_value.Goals as goal

pub returns-then-v-ne0 : goal.returns-then-v-ne0
returns-then-v-ne0 c =
    ⊎_elim (λ z. absurd (c.if-v-ne0.true z)) (λ k. sym (ap (end_or c.args.at) k)) c.value_known-v.ensures

pub returns-in-Ok : goal.returns-in-Ok
returns-in-Ok c = rw (← c.key-r.ensures, c.in-Ok.is)

pub returns-in-Err : goal.returns-in-Err
returns-in-Err c = rw (← c.key-r.ensures, c.in-Err.is)
