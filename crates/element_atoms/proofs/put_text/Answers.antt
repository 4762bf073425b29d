-- `element_atoms::put_text` meets its contract.
use mathlib.Core.Path.{◌≡◌, refl, ap, ◌∙◌}
use mathlib.Core.List.{List, [], ◌∷◌, ◌++◌}
use Prim.Native.Nat.{ℕ, suc, ◌+◌}
use native.Mathlib.Omega.{arith}
use lib.ListN.{length, drop, replicate}
use Rattle.octets.proofs.Rests.{write_next}
use Rattle.element_atoms.proofs.Reading.{zeros_from}
use Rattle.element_atoms.proofs.put_text.Goals as goal

pub returns : goal.returns
returns c =
    let t = c.args.t.now in
    let xs = c.clear.new.b in
    let e = write_next (length t ∷ []) t xs _ _ 1 (length t) refl c.put_byte.ensures c.put_bytes.ensures in
    let z : 1 + length t ≡ suc (length t) = omega arith in
    e ∙ ap (λ (l : List ℕ). (length t ∷ t) ++ drop (1 + length t) l) (c.clear.ensures ∙ ap (λ (n : ℕ). replicate {A = ℕ} n 0) c.requires.out_len)
    ∙ ap (λ (n : ℕ). (length t ∷ t) ++ drop n (replicate {A = ℕ} 25 0)) z ∙ ap (λ (l : List ℕ). (length t ∷ t) ++ l) (zeros_from (suc (length t)) 25)
