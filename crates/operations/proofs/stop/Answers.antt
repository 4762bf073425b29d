-- `operations::stop` meets its contract.
use mathlib.Core.Path.{refl}
use native.Mathlib.Omega.{arith}
use Rattle.json_writer.proofs.Putting.{put_then}
use Rattle.operations.proofs.stop.Goals as goal

pub put_nulls-end-requires : goal.put_nulls-end-requires
put_nulls-end-requires c =
    let b = c.requires in
    record { says = b.says; g_value = b.g_value; g_len_bound = b.g_len_bound; nulls_most_bound = omega (arith, b.stop_most_bound, c.put_error-e.ensures.short) }

pub returns : goal.returns
returns c =
    record { fault = refl; idle = refl; count = refl; answer = put_then c.put_error-e.ensures c.put_nulls-end.ensures }
