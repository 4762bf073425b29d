-- Bytes written one after another. Assumes nothing.
use Rattle.std.proofs.Common.{◌≡◌, ℕ, ◌+◌, List, [], ◌∷◌, ◌++◌, length, take, drop, sym, ◌∙◌, arith, append_assoc, length-append, drop-drop}
use Rattle.std.proofs.lemmas.Slice.{take-put_mid, drop-put_mid}
use Rattle.std.proofs.lemmas.List.Edits.{sets, sets-eq}
use borrow.Rule.Slice.PartMut.{put_mid}

-- an array of four
pub data Four : List ℕ → Type 0 where
  four : (a b c d : ℕ) → Four (a ∷ b ∷ c ∷ d ∷ [])

pub is_four : (l : List ℕ) → length l ≡ 4 → Four l
is_four [] h = absurd (omega arith)
is_four (a ∷ []) h = absurd (omega arith)
is_four (a ∷ b ∷ []) h = absurd (omega arith)
is_four (a ∷ b ∷ c ∷ []) h = absurd (omega arith)
is_four (a ∷ b ∷ c ∷ d ∷ []) h = four a b c d
is_four (a ∷ b ∷ c ∷ d ∷ e ∷ l) h = absurd (omega arith)

-- two pieces of four bytes, one after the other
pub stored : (l a b : List ℕ) → length l ≡ 48 → length a ≡ 4 → length b ≡ 4 → put_mid 41 4 (put_mid 37 4 l a) b ≡ sets l 37 (a ++ b)
stored l a b hl ha hb =
    let x = put_mid 37 4 l a in
    let front : take 41 x ≡ take 37 l ++ a = take-put_mid 37 4 l a 41 (omega arith) (omega arith) in
    let back : drop 45 x ≡ drop 45 l = drop-put_mid 37 4 l a 45 (omega arith) (omega arith) ha in
    let n : 37 + length (a ++ b) ≡ 45 = omega (arith, length-append a b) in
    let whole : sets l 37 (a ++ b) ≡ (take 37 l ++ a) ++ (b ++ drop 45 l) = rw (sets-eq (a ++ b) l 37 (omega arith), n) (simp append_assoc) in
    (λ j. front j ++ (b ++ (drop-drop 4 41 x ∙ back) j)) ∙ sym whole
