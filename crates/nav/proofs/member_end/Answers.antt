-- `nav::member_end` meets its contract.
use Rattle.std.proofs.lemmas.Result.{err_from_is_err_and}
use Rattle.model.specs.Scan.{and_then}
use Rattle.model.specs.Json.{member_at}
use Rattle.nav.proofs.member_end.Goals as goal

pub returns-in_err-e : goal.returns-in_err-e
unfolding member_at and_then
returns-in_err-e c =
    let p = err_from_is_err_and c.from_residual.result c.from_residual.ensures.1 in
    rw (p.1, p.2, ← c.key-k.ensures, c.in_err-e.was)

pub returns : goal.returns
unfolding member_at and_then
returns c = rw (← c.key-k.ensures, c.in_ok-e.was) c.end_of.ensures
