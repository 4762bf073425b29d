-- `record::put_head` meets its contract.
use mathlib.Core.Path.{refl, ap, ◌∙◌}
use mathlib.Core.List.{List, [], ◌∷◌, ◌++◌}
use Prim.Native.Nat.{ℕ, ◌+◌}
use lib.ListN.{length, drop}
use Rattle.octets.proofs.Rests.{write_next}
use Rattle.record.specs.Writing.{start_bytes, head_bytes}
use Rattle.record.proofs.Laws.{id_bytes_lem}
use Rattle.record.proofs.put_head.Goals as goal

pub returns : goal.returns
unfolding start_bytes head_bytes
returns c =
    let a = c.args in
    let xs = a.out.now in
    let id = a.id.now in
    let b = start_bytes a.kind a.run a.number in
    let d = b ++ (a.table ∷ []) in
    let e1 = write_next b (a.table ∷ []) xs _ _ 9 1 refl c.put_start.ensures c.put_byte.ensures in
    let e2 = write_next d id xs _ _ 10 (length id) refl e1 c.put_bytes.ensures in
    e2
    ∙ ap (λ (n : ℕ). (d ++ id) ++ drop (10 + n) xs) c.requires.1
    ∙ ap (λ (l : List ℕ). (d ++ l) ++ drop 26 xs) (id_bytes_lem id c.requires.1 (λ i. (c.type_inv.id i).fits))
