-- `operations::put_result` meets its contract.
use Rattle.fresh.specs.Fresh.{fresh_at}
use Rattle.operations.proofs.Results.{result_empty, result_count, result_id, result_rows}
use Rattle.operations.proofs.put_result.Goals as goal

pub returns-in-Empty : goal.returns-in-Empty
returns-in-Empty c =
    let a = c.args in
    λ begun text h. result_empty (fresh_at a.names.now a.i) a.at begun a.answer.now a.reply text h c.in-Empty.is c.put_bytes.ensures

pub returns-in-Count : goal.returns-in-Count
returns-in-Count c =
    let a = c.args in
    λ begun text h. result_count (fresh_at a.names.now a.i) a.at begun a.answer.now a.reply text h c.in-Count.is c.put_count.ensures

pub returns-in-Id : goal.returns-in-Id
returns-in-Id c =
    let a = c.args in
    λ begun text h. result_id (fresh_at a.names.now a.i) a.at begun a.answer.now a.reply text h c.in-Id.is c.id_at.result.now c.id_at.ensures.is c.put_insert.ensures

pub returns-in-Rows : goal.returns-in-Rows
returns-in-Rows c =
    let a = c.args in
    λ begun text h. result_rows (fresh_at a.names.now a.i) a.at begun a.answer.now a.reply text h c.in-Rows.is
