-- `selection::select_rows` meets its contract.
use mathlib.Core.Path.{ap}
use mathlib.Core.Bool.{true}
use mathlib.Core.List.{◌++◌}
use Prim.Native.Nat.{ℕ, ◌<◌}
use native.Mathlib.Omega.{arith}
use lib.ListN.{length}
use Rattle.catalog.proofs.Laws.{few_tables, few_columns_lem}
use Rattle.model.specs.Base.{ascii}
use Rattle.json_writer.specs.Texts.{joined}
use Rattle.json_writer.proofs.Putting.{put_then, put_is}
use Rattle.catalog.specs.Entries.{columns_at}
use Rattle.selection.specs.Picks.{picked_from}
use Rattle.selection.proofs.Picks.{select_is}
use Rattle.selection.proofs.select_rows.Goals as goal

pub put_rows-b-requires : goal.put_rows-b-requires
put_rows-b-requires c =
    let four : c.wide-t.result < 4 = omega (arith, c.wide-t.ensures, c.requires.table_bound, few_tables _ c.requires.accepted) in
    record { rows_most_bound = (omega (arith, c.put_bytes-a.ensures.short, c.requires.rows_len_bound.1), four, few_columns_lem _ c.requires.accepted c.wide-t.result four); rows_len_bound = c.requires.rows_len_bound.0 }

pub returns : goal.returns
returns c =
    let a = c.args in
    let four : a.table < 4 = omega (arith, c.requires.table_bound, few_tables _ c.requires.accepted) in
    select_is a.schema.now a.table c.requires.accepted.size (few_columns_lem _ c.requires.accepted a.table four) four c.requires.table_bound a.rows.now a.flags.now a.marks.now
    (put_is (put_then c.put_bytes-a.ensures (put_then c.put_rows-b.ensures c.put_bytes.ensures))
    (ap (λ (x : ℕ). ascii "{\"rows\":[" ++ (joined true (picked_from a.schema.now x a.flags.now (length (columns_at a.schema.now x)) a.marks.now a.rows.now 0 (length a.rows.now)) ++ ascii "]}")) c.wide-t.ensures)
    (omega arith))
