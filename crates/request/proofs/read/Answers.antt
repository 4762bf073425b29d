-- `request::read` meets its contract.
use mathlib.Core.Path.{sym, ◌∙◌}
use native.Mathlib.Omega.{arith}
use Rattle.request.proofs.Objects.{well_end, read_end, read_too_long, read_stopped}
use Rattle.request.proofs.read.Goals as goal

pub returns-then-text-gt-REQUEST_TEXT : goal.returns-then-text-gt-REQUEST_TEXT
returns-then-text-gt-REQUEST_TEXT c = read_too_long c.args.text.now _ c.refused.result c.refused.ensures c.if-text-gt-REQUEST_TEXT.true

pub parts-requires : goal.parts-requires
parts-requires c = record { says = c.document-d.ensures.says; text_value = well_end c.args.text.now (sym c.document-d.ensures.value ∙ c.in-Ok.is) }

pub returns-in-Ok : goal.returns-in-Ok
returns-in-Ok c =
    read_end c.args.text.now _ c.parts.result (omega (arith, c.if-text-gt-REQUEST_TEXT.false)) (sym c.document-d.ensures.value ∙ c.in-Ok.is) c.document-d.ensures.says c.parts.ensures

pub returns-in-Err : goal.returns-in-Err
returns-in-Err c =
    read_stopped c.args.text.now _ c.refused-in-Err.result c.refused-in-Err.ensures (sym c.document-d.ensures.value ∙ c.in-Err.is)
