-- `garbage::counts::count_atoms` meets its contract.
use Rattle.std.specs.Prelude.{Some}
use mathlib.Core.Path.{◌∙◌}
use mathlib.Core.List.{List, [], ◌∷◌}
use Prim.Native.Nat.{ℕ, ◌+◌}
use lib.ListN.{get_or, take}
use Rattle.model.specs.Value.{uuid_of}
use Rattle.model.specs.Rows.{key_of}
use Rattle.model.specs.Commit.{keys_of}
use Rattle.garbage.proofs.Counting.{left_on, left_end, room_on, atoms_on, atoms_end}
use Rattle.garbage.proofs.counts.count_atoms.Invariants.{keys_from}
use Rattle.garbage.proofs.counts.count_atoms.Goals as goal

pub count_named-zeros-requires-clause-room : goal.count_named-zeros-requires-clause-room
count_named-zeros-requires-clause-room c =
    let a = c.args in
    let l = c.loop-atom in
    let atoms : List (List ℕ) = take a.count a.atoms.now in
    let k : ℕ = l.atom-index in
    room_on a.up a.n a.rows.now a.own (keys_of (Some a.table) atoms) a.counts.now (keys_from a.table atoms k) (key_of a.table (uuid_of (get_or atoms k [])) ∷ []) (keys_from a.table atoms (k + 1)) l.counts
    (atoms_on a.table atoms k c.loop-atom-test.true) l.invariant.1 c.requires.room

pub loop-atom-preserved : goal.loop-atom-preserved
loop-atom-preserved c =
    let a = c.args in
    let l = c.loop-atom in
    let atoms : List (List ℕ) = take a.count a.atoms.now in
    let k : ℕ = l.atom-index in (
      c.count_named-zeros.auto.counts ∙ l.invariant.0,
      left_on a.up a.n a.rows.now a.own (keys_of (Some a.table) atoms) a.counts.now (keys_from a.table atoms k) (key_of a.table (uuid_of (get_or atoms k [])) ∷ []) (keys_from a.table atoms (k + 1)) l.counts
          (atoms_on a.table atoms k c.loop-atom-test.true) l.invariant.1 c.count_named-zeros.new.counts c.count_named-zeros.ensures,
    )

pub returns : goal.returns
returns c =
    let a = c.args in
    let l = c.loop-atom in
    let atoms : List (List ℕ) = take a.count a.atoms.now in
    left_end a.up a.n a.rows.now a.own (keys_of (Some a.table) atoms) a.counts.now (keys_from a.table atoms l.atom-index) l.counts
    (atoms_end a.table atoms l.atom-index c.loop-atom-test.false) l.invariant.1
