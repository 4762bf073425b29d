-- `json_reader::document` meets its contract.
use Rattle.std.proofs.lemmas.Result.{err_from_is_err_and}
use lib.ListN.{length}
use native.Mathlib.Omega.{arith}
use borrow.Author.Tests.{ne_eqb, eq-eqb}
use Rattle.model.specs.Scan.{and_then}
use Rattle.model.specs.Json.{text_at, end_at}
use Rattle.scan.proofs.Ends.{then_not}
use Rattle.json_reader.proofs.Empty.{says_nothing}
use Rattle.json_reader.proofs.document.Goals as goal

pub value-v-requires : goal.value-v-requires
value-v-requires c = record { levels_bound = omega arith; says = rw c.fill.ensures.after (says_nothing _ (length c.args.ends.now)) }

pub returns-in_err-e : goal.returns-in_err-e
unfolding text_at and_then
returns-in_err-e c = record { value = (let p = err_from_is_err_and c.from_residual.result c.from_residual.ensures.1 in rw (p.1, p.2, ← c.value-v.ensures.value, c.in_err-e.was)); says = c.value-v.ensures.says_2 }

pub returns-then-j-text : goal.returns-then-j-text
unfolding text_at and_then
returns-then-j-text c = record { value = rw (← c.value-v.ensures.value, c.in_ok-e.was, ← c.spaces-j.ensures) (unfold end_at in rw (end_at, eq-eqb _ _ c.if-j-text.true)); says = c.value-v.ensures.says_2 }

pub returns : goal.returns
unfolding text_at and_then
returns c = record { value = rw (← c.value-v.ensures.value, c.in_ok-e.was, ← c.spaces-j.ensures) (unfold end_at in rw (end_at, ne_eqb _ _ c.if-j-text.false)); says = c.value-v.ensures.says_2 }
