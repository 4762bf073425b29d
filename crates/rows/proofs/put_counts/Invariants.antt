-- The loop of `rows::put_counts`.
use mathlib.Core.Path.{◌≡◌}
use Rattle.inner.specs.Working.{born_count}
use Rattle.rows.proofs.Laws.{made}
use Rattle.rows.proofs.put_counts.Given as goal

abbrev pub invariant-loop-k : goal.invariant-loop-k
invariant-loop-k l = l.out ≡ made born_count l.initial.out l.mins l.k
