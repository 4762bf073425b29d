-- `record::Column::write` meets its contract.
use mathlib.Core.Path.{refl}
use mathlib.Core.List.{[], ◌∷◌, ◌++◌}
use native.Mathlib.Omega.{arith}
use Rattle.model.specs.Octets.{value}
use Rattle.model.specs.Base.{flat}
use Rattle.octets.proofs.Rests.{write_next}
use Rattle.record.specs.Writing.{start_bytes, head_bytes}
use Rattle.record.proofs.Column.write.Goals as goal

pub returns : goal.returns
unfolding start_bytes head_bytes
returns c =
    let a = c.args in
    let r = a.self in
    let xs = a.out.now in
    let h = head_bytes 3 r.run r.number r.table (value a.id.now) in
    let e1 = write_next h (r.column ∷ []) xs _ _ 26 1 refl c.put_head.ensures c.put_byte.ensures in
    let e2 = write_next (h ++ (r.column ∷ [])) (r.count ∷ []) xs _ _ 27 1 refl e1 c.put_byte-2.ensures in
    let e3 = write_next (h ++ (r.column ∷ r.count ∷ [])) (flat a.atoms.now) xs _ _ 28 100 refl e2 c.put_atoms.ensures.out_after in
    record { size = omega (arith, c.put_atoms.ensures.atoms_len); bytes = e3 }
