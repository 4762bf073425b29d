-- The loop of `garbage::counts::count_atoms`.
use Rattle.std.specs.Prelude.{Some}
use mathlib.Core.Path.{◌≡◌}
use mathlib.Core.List.{List}
use Prim.Native.Nat.{ℕ}
use lib.ListN.{length, take, drop}
use Rattle.model.specs.Commit.{keys_of}
use Rattle.garbage.proofs.Counting.{Left}
use Rattle.garbage.proofs.counts.count_atoms.Given as goal

-- the keys of the atoms from k on
abbrev pub keys_from : ℕ → List (List ℕ) → ℕ → List ℕ
keys_from table atoms k = keys_of (Some table) (drop k atoms)

abbrev pub invariant-loop-atom : goal.invariant-loop-atom
invariant-loop-atom l = (length l.counts ≡ length l.initial.counts) × Left l.up l.n l.rows l.own (keys_of (Some l.table) (take l.count l.atoms)) l.initial.counts (keys_from l.table (take l.count l.atoms) l.atom-index) l.counts
