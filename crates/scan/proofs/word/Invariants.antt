-- The loop of `scan::word`.
use Rattle.std.specs.Prelude.{Ok}
use Rattle.std.proofs.Common.{◌≡◌, drop}
use Rattle.model.specs.Scan.{word_at}
use Rattle.scan.proofs.word.Given as goal

abbrev pub invariant-loop-b : goal.invariant-loop-b
invariant-loop-b l = word_at l.text (drop l.b-index l.bytes) l.r ≡ word_at l.text l.bytes (Ok l.at)
