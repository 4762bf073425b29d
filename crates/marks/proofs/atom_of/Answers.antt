-- `marks::atom_of` meets its contract.
use mathlib.Core.Path.{ap, ◌∙◌}
use mathlib.Core.List.{List, ◌++◌}
use Prim.Native.Nat.{ℕ}
use lib.ListN.{drop, replicate}
use Rattle.model.proofs.Octets.{octets}
use Rattle.marks.proofs.Atoms.{id_atom_lem}
use Rattle.marks.proofs.atom_of.Goals as goal

pub returns : goal.returns
returns c =
    let id = c.args.id.now in
    ap (λ (b : List ℕ). b ++ drop 16 (replicate 25 0)) c.copy_from_slice.ensures.after
    ∙ id_atom_lem id c.requires (octets id (λ i. (c.shared_slice_known-1.given i).fits))
