-- A list filled from its front with the elements of another. Assumes nothing.
use mathlib.Core.Path.{◌≡◌, sym, ap, ◌∙◌}
use mathlib.Core.List.{List, [], ◌∷◌, ◌++◌, append_assoc, append-nil}
use Prim.Native.Nat.{ℕ, suc, ◌+◌, ◌<◌}
use native.Mathlib.Numerals.{add-one}
use native.Mathlib.Omega.{arith}
use lib.ListN.{length, take, drop, get_or, set, drop_of_length-le}
use lib.Seq.{drop-cons, take-suc, take_all, set_at, length-take-le}

-- a list that is filled from its front with the elements of another
module _ {A : Type 0} (out src : List A) (d : A) where
  abbrev pub copied : ℕ → List A
  copied k = take k src ++ drop k out

  pub copied_more : (k : ℕ) → k < length src → k < length out → set (copied k) k (get_or src k d) ≡ copied (k + 1)
  copied_more k h g =
      ap (λ (q : List A). set (take k src ++ q) k (get_or src k d)) (drop-cons out k d g)
      ∙ set_at (take k src) (get_or out k d) (drop (suc k) out) (get_or src k d) k (length-take-le k src (omega arith))
      ∙ sym (append_assoc (take k src) (get_or src k d ∷ []) (drop (suc k) out))
      ∙ ap (λ (q : List A). q ++ drop (suc k) out) (sym (take-suc src k d h))
      ∙ ap copied (sym (add-one k))

  pub copied_end : (k : ℕ) → length src ≡ k → length out ≡ k → copied k ≡ src
  copied_end k h g = rw (take_all k src (omega arith), drop_of_length-le out {i = k} (omega arith)) (append-nil src)
