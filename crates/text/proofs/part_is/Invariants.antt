-- The loop of `text::part_is`.
use mathlib.Core.Path.{◌≡◌}
use Prim.Native.Nat.{◌-◌}
use Rattle.model.specs.Scan.{between}
use Rattle.text.specs.Match.{matched}
use Rattle.text.proofs.part_is.Given as goal

abbrev pub invariant-loop-i : goal.invariant-loop-i
invariant-loop-i l = matched (between l.bytes l.from l.to) l.word l.o ≡ matched (between l.bytes l.i l.to) l.word l.p

abbrev pub decreases-loop-i : goal.decreases-loop-i
decreases-loop-i l = l.to - l.i
