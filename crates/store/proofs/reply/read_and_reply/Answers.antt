-- `store::reply::read_and_reply` meets its contract.
use mathlib.Core.Path.{refl, sym, ◌∙◌}
use mathlib.Core.Bool.{true}
use Prim.Native.Nat.{◌+◌}
use native.Mathlib.Omega.{arith}
use borrow.Author.Tests.{leb-true}
use Rattle.store.proofs.Transacting.{lengths}
use Rattle.store.proofs.reply.read_and_reply.Goals as goal

pub row_count-n-requires : goal.row_count-n-requires
row_count-n-requires c =
    let a = c.args in
    omega (arith, (lengths a.area.now a.fresh.now a.records.now a.answer.now true (sym c.requires) refl).0)

pub reply-requires : goal.reply-requires
reply-requires c =
    let h = leb-true (c.row_count-n.result + c.read-q.result.count) 8 (sym c.is_few.ensures ∙ c.if-is_few.true) in
    record { answer_value = c.requires; request_read = c.read-q.ensures; rows_fit = ((λ _. omega (arith, h, c.row_count-n.ensures)), λ m low _. omega (arith, low, h, c.row_count-n.ensures)) }

pub reply-requires-2 : goal.reply-requires-2
reply-requires-2 c = record { answer_value = c.requires; request_read = c.read-q.ensures; rows_fit = ((λ h. omega (arith, h)), λ _ _ few. omega (arith, few)) }
