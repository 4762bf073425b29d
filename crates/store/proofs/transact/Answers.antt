-- `store::transact` meets its contract.
use mathlib.Core.Path.{sym, ◌∙◌}
use Rattle.store.proofs.Transacting.{leaves, transact_length}
use Rattle.store.proofs.transact.Goals as goal

pub returns-then-not-lengths_good : goal.returns-then-not-lengths_good
returns-then-not-lengths_good c =
    let a = c.args in
    let both = transact_length a.area.now a.request.now a.fresh.now a.records.now a.answer.now c.lengths_good.result c.lengths_good.ensures (c.if-not-lengths_good.true) c.refuse.ensures in
    record { result_value = both.0; answer_value = both.1 }

pub read_and_reply-requires : goal.read_and_reply-requires
read_and_reply-requires c =
    sym c.lengths_good.ensures ∙ c.if-not-lengths_good.false

pub returns-then-request-le-SHORT_REQUEST : goal.returns-then-request-le-SHORT_REQUEST
returns-then-request-le-SHORT_REQUEST c =
    let a = c.args in
    let both = leaves a.area.now a.request.now a.fresh.now a.records.now a.answer.now c.read_and_reply.ensures in
    record { result_value = both.0; answer_value = both.1 }

pub read_and_reply-requires-2 : goal.read_and_reply-requires-2
read_and_reply-requires-2 c =
    sym c.lengths_good.ensures ∙ c.if-not-lengths_good.false

pub returns : goal.returns
returns c =
    let a = c.args in
    let both = leaves a.area.now a.request.now a.fresh.now a.records.now a.answer.now c.read_and_reply-2.ensures in
    record { result_value = both.0; answer_value = both.1 }
