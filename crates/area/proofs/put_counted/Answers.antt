-- `area::put_counted` meets its contract.
use mathlib.Core.Path.{◌≡◌, refl, ap, ◌∙◌}
use mathlib.Core.List.{[], ◌∷◌, ◌++◌}
use Prim.Native.Nat.{ℕ, ◌+◌, ◌-◌, ◌*◌}
use native.Mathlib.Omega.{arith}
use lib.ListN.{length, take, drop, replicate}
use Rattle.octets.proofs.Rests.{write_next}
use Rattle.area.specs.Layout.{bytes_of}
use Rattle.area.specs.Writing.{rows_part}
use Rattle.area.proofs.put_counted.Goals as goal

pub returns : goal.returns
unfolding rows_part
returns c =
    let n = c.args.n in
    let xs = c.args.out.now in
    let b = bytes_of (take n c.args.rows.now) in
    let z = replicate {A = ℕ} (625 * (32 - n)) 0 in
    let r = c.put_rows.ensures in
    let l : length (n ∷ b) ≡ 1 + 625 * n = omega (arith, r.size) in
    let e : 1 + 625 * n + 625 * (32 - n) ≡ 20001 = omega (arith, c.requires) in
    let e1 = write_next (n ∷ []) b xs _ _ 1 (625 * n) refl c.put_byte.ensures r.bytes in
    write_next (n ∷ b) z xs _ _ (1 + 625 * n) (625 * (32 - n)) l e1 c.put_zeros.ensures ∙ ap (λ (k : ℕ). ((n ∷ b) ++ z) ++ drop k xs) e
