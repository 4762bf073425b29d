-- `record::put_atoms` meets its contract.
use mathlib.Core.Path.{◌≡◌, sym, ap, ◌∙◌}
use mathlib.Core.List.{List, [], ◌++◌}
use Prim.Native.Nat.{ℕ}
use native.Mathlib.Omega.{arith}
use lib.ListN.{length, drop, get_or, length-append}
use Rattle.octets.proofs.Rests.{write_next}
use Rattle.record.proofs.Laws.{flat_four}
use Rattle.record.proofs.put_atoms.Goals as goal

pub returns : goal.returns
returns c =
    let xs = c.args.out.now in
    let l = c.args.atoms.now in
    let a0 = get_or l 0 [] in
    let a1 = a0 ++ get_or l 1 [] in
    let a2 = a1 ++ get_or l 2 [] in
    let n1 : length a1 ≡ 50 = omega (arith, c.put_atom.ensures.atom_len, c.put_atom-2.ensures.atom_len, length-append a0 (get_or l 1 [])) in
    let n2 : length a2 ≡ 75 = omega (arith, n1, c.put_atom-3.ensures.atom_len, length-append a1 (get_or l 2 [])) in
    let n3 : length (a2 ++ get_or l 3 []) ≡ 100 = omega (arith, n2, c.put_atom-4.ensures.atom_len, length-append a2 (get_or l 3 [])) in
    let e1 = write_next a0 (get_or l 1 []) xs _ _ 25 25 c.put_atom.ensures.atom_len c.put_atom.ensures.out_after c.put_atom-2.ensures.out_after in
    let e2 = write_next a1 (get_or l 2 []) xs _ _ 50 25 n1 e1 c.put_atom-3.ensures.out_after in
    let e3 = write_next a2 (get_or l 3 []) xs _ _ 75 25 n2 e2 c.put_atom-4.ensures.out_after in
    let f = flat_four l c.requires.1 in
    record { atoms_len = ap length (sym f) ∙ n3; out_after = e3 ∙ ap (λ (r : List ℕ). r ++ drop 100 xs) f }
