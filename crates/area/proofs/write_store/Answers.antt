-- `area::write_store` meets its contract.
use mathlib.Core.Path.{◌≡◌, refl, ap, ◌∙◌}
use mathlib.Core.List.{List, ◌++◌}
use Prim.Native.Nat.{ℕ}
use native.Mathlib.Omega.{arith}
use lib.ListN.{length, drop}
use Rattle.model.specs.Octets.{big}
use Rattle.model.specs.Limits.{catalog_bytes, count_offset, store_bytes}
use Rattle.model.specs.Base.{flat}
use Rattle.octets.proofs.Rests.{write_next}
use Rattle.area.specs.Writing.{rows_part}
use Rattle.area.proofs.Writes.{store_are}
use Rattle.area.proofs.write_store.Goals as goal

pub returns : goal.returns
returns c d e t =
    let a = c.args in
    let xs = a.area.now in
    let cs = a.catalog.now in
    let h = big 4 a.run ++ big 4 a.number in
    let w = c.put_catalog.ensures in
    let l : length (h ++ flat cs) ≡ count_offset = omega (arith, w.1) in
    let e1 = write_next (big 4 a.run) (big 4 a.number) xs _ _ 4 4 refl c.put_number.ensures c.put_number-2.ensures in
    let e2 = write_next h (flat cs) xs _ _ 8 catalog_bytes refl e1 w.0 in
    write_next (h ++ flat cs) (rows_part a.n a.rows.now) xs _ _ count_offset 20001 l e2 c.put_counted.ensures
    ∙ ap (λ (b : List ℕ). b ++ drop store_bytes xs) (store_are d cs e a.rows.now a.n c.requires.n_in_bounds.0 t a.run a.number)
