-- The loop of `octets::put_number`.
use Rattle.std.proofs.Common.{◌≡◌, ◌++◌, ◌-◌, ◌/◌, ◌^◌, take, drop}
use Rattle.model.specs.Octets.{big}
use Rattle.octets.proofs.put_number.Given as goal

abbrev pub invariant-loop-i : goal.invariant-loop-i
invariant-loop-i l = (l.rest ≡ l.x / 256 ^ (l.width - l.i)) × (l.out ≡ take l.i l.initial.out ++ (big (l.width - l.i) l.x ++ drop l.width l.initial.out))
