-- A string decoded into a cell. Assumes nothing.
use Rattle.std.specs.Prelude.{Option, Some, None}
use mathlib.Core.Path.{◌≡◌, refl, sym, ap, ◌∙◌}
use mathlib.Core.List.{List, [], ◌∷◌, ◌++◌, append-nil}
use mathlib.Core.Bool.{true, false}
use Prim.Native.Nat.{ℕ, zero, suc, ◌+◌, ◌-◌, ◌≤◌}
use native.Mathlib.Omega.{arith}
use borrow.Author.Tests.{leb-true, leb-false}
use lib.Dec.{leb}
use lib.ListN.{length, drop, replicate}
use Rattle.model.specs.Scan.{spaces_at}
use Rattle.model.specs.Strings.{body_at}
use Rattle.model.specs.Json.{Json, null, bool, num, str, arr, obj}
use Rattle.inner.specs.Positions.{tree_at}
use Rattle.model.specs.Nav.{kind_of, is_text}
use Rattle.inner.specs.Positions.{word_in}
use Rattle.model.specs.Value.{text_atom}
use Rattle.model.proofs.Tests.{split}
use Rattle.text.specs.Push.{Pushed}
use Rattle.text.proofs.Pushing.{pushed_whole, pushed_over}
use Rattle.text.proofs.Words.{text_tree}
use Rattle.names.specs.Names.{short_cell, name_cell}

drop_zeros : (n k : ℕ) → ◌≡◌ {A = List ℕ} (drop n (replicate k 0)) (replicate (k - n) 0)
drop_zeros zero k = let z : k - 0 ≡ k = omega arith in rw z
drop_zeros (suc n) zero = let z : 0 - suc n ≡ 0 = omega arith in rw z
drop_zeros (suc n) (suc k) = let z : suc k - suc n ≡ k - n = omega arith in rw z (drop_zeros n k)

no_string : (j : Json) → is_text (kind_of j) ≡ false → word_in j ≡ []
unfolding kind_of word_in
no_string null h = refl
no_string (bool b) h = refl
no_string (num t) h = refl
no_string (str t) h = cc
no_string (arr xs) h = refl
no_string (obj ms) h = refl

-- a value that is no string is the empty name
pub name_none : (j : Json) → is_text (kind_of j) ≡ false → replicate 25 0 ≡ name_cell j
unfolding name_cell short_cell
name_none j h = sym (ap short_cell (no_string j h))

module _ (s : List ℕ) (at : ℕ) (t : is_text (kind_of (tree_at s at)) ≡ true) {i : ℕ} (q : i ≡ spaces_at s at + 1) where
  string_is : word_in (tree_at s at) ≡ (body_at s i).tree
  unfolding word_in
  string_is = rw ((text_tree s at t).1, q)

  module _ {w : Option ℕ} {out : List ℕ} (p : Pushed (replicate 24 0) (Some 0) (body_at s i).tree w out) where
    abbrev bs : List ℕ
    bs = (body_at s i).tree

    pub name_long : w ≡ None → replicate 25 0 ≡ name_cell (tree_at s at)
    unfolding name_cell short_cell
    name_long e =
        split
        (leb (length bs) 24)
        (λ l. absurd (let g : None ≡ Some (length bs) = sym e ∙ (pushed_whole p (leb-true (length bs) 24 l)).0 in let z : ◌≡◌ {A = ℕ} 0 1 = cc in omega arith))
        (λ l. rw (name_cell, string_is, short_cell, l))

    pub name_short : {n : ℕ} → w ≡ Some n → (n ≤ 24) × (n ∷ (out ++ []) ≡ name_cell (tree_at s at))
    unfolding name_cell short_cell
    name_short {n} e =
        split
        (leb (length bs) 24)
        (λ l.
        let f = pushed_whole p (leb-true (length bs) 24 l) in
        let g : Some n ≡ Some (length bs) = sym e ∙ f.0 in
        let k : n ≡ length bs = cc in
        let u : 25 - suc (length bs) ≡ 24 - length bs = omega arith in
        let o : out ≡ bs ++ replicate (24 - length bs) 0 = f.1 ∙ ap (λ (x : List ℕ). bs ++ x) (drop_zeros (length bs) 24) in
        (omega (arith, leb-true (length bs) 24 l), rw (name_cell, short_cell, string_is, l, append-nil, k, o, ← u) (ap text_atom (sym string_is))))
        (λ l. absurd (let g : Some n ≡ None = sym e ∙ p.to ∙ pushed_over 24 0 bs (omega arith) (omega (arith, leb-false (length bs) 24 l)) in let z : ◌≡◌ {A = ℕ} 0 1 = cc in omega arith))
