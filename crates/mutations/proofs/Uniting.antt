-- A set with the elements of another, one after another, in four places. Assumes nothing.
use mathlib.Core.Path.{◌≡◌, refl, sym, ap, ◌∙◌}
use mathlib.Core.List.{List, [], ◌∷◌, ◌++◌}
use Prim.Native.Nat.{ℕ, ◌+◌, ◌-◌, ◌≤◌, ◌<◌}
use native.Mathlib.Numerals.{add-one}
use native.Mathlib.Omega.{arith}
use lib.ListN.{length, get_or, take, drop, replicate, take-append-drop, length-append, length-replicate}
use lib.Seq.{take-suc, take_all, take-append_seam, drop-append_seam, length-take-le}
use Rattle.std.specs.Prelude.{if◌then◌else◌}
use Rattle.model.specs.Base.{member}
use Rattle.model.specs.Schema.{Base}
use Rattle.model.specs.Value.{blank, placed, union}
use Rattle.model.proofs.Sets.{union_length}
use Rattle.value.proofs.Fours.{padded, cut_pad}

pub padded_length : (l : List (List ℕ)) → length l ≤ 4 → length (padded l) ≡ 4
padded_length l h = length-append l (replicate (4 - length l) blank) ∙ omega (arith, length-replicate (4 - length l) blank)

-- the first n of four, and blanks: the first n of them
pub first_front : (atoms s : List (List ℕ)) (n : ℕ) → length atoms ≡ 4 → n ≤ 4 → s ≡ padded (take n atoms) → (take n s ≡ take n atoms) × (n ≡ length (take n atoms)) × (s ≡ padded (take n s))
first_front atoms s n size few e =
    let l : List (List ℕ) = take n atoms in
    let m : n ≡ length l = sym (length-take-le n atoms (omega arith)) in
    let f : take n s ≡ l = ap (take n) e ∙ ap (λ (i : ℕ). take i (padded l)) m ∙ take-append_seam l (replicate (4 - length l) blank) in
    (f, m, e ∙ ap padded (sym f))

module _ (k : Base) where
  union_append : (s l r : List (List ℕ)) → union k s (l ++ r) ≡ union k (union k s l) r
  union_append s [] r = refl
  union_append s (a ∷ l) r = union_append (if member a s then s else placed k a s) l r

  union_le : (s l : List (List ℕ)) (i : ℕ) → length (union k s (take i l)) ≤ length (union k s l)
  union_le s l i = omega (arith, union_length k (union k s (take i l)) (drop i l), ap length (sym (union_append s (take i l) (drop i l)) ∙ ap (union k s) (take-append-drop i l)))

  module _ (xs more : List (List ℕ)) where
    -- the first i are in
    pub record United (i m : ℕ) (s : List (List ℕ)) : Type 0 where
      pub few : i ≤ length more
      pub size : m ≡ length (union k xs (take i more))
      pub cells : s ≡ padded (union k xs (take i more))

    pub united_none : (n : ℕ) (s : List (List ℕ)) → n ≡ length xs → s ≡ padded xs → United 0 n s
    united_none n s e f = record { few = omega arith; size = e; cells = f }

    module _ (fit : length (union k xs more) ≤ 4) (i m : ℕ) (s : List (List ℕ)) (g : United i m s) where
      abbrev got : List (List ℕ)
      got = union k xs (take i more)

      pub united_few : m ≤ 4
      united_few = omega (arith, g.size, union_le xs more i)

      pub united_length : length s ≡ 4
      united_length = ap length g.cells ∙ padded_length got (omega (arith, union_le xs more i))

      front : take m s ≡ got
      front = ap (λ (n : ℕ). take n s) g.size ∙ ap (take (length got)) g.cells ∙ take-append_seam got (replicate (4 - length got) blank)

      back : drop m s ≡ replicate (4 - length got) blank
      back = ap (λ (n : ℕ). drop n s) g.size ∙ ap (drop (length got)) g.cells ∙ drop-append_seam got (replicate (4 - length got) blank)

      pub united_on : i < length more → (n : ℕ) (t : List (List ℕ)) → n ≡ length (union k (take m s) (get_or more i [] ∷ []))
          → t ≡ take 4 (union k (take m s) (get_or more i [] ∷ []) ++ drop m s) → United (i + 1) n t
      united_on h n t e f =
          let x : List ℕ = get_or more i [] in
          let v : union k got (x ∷ []) ≡ union k xs (take (i + 1) more) =
          sym (ap (λ (j : ℕ). union k xs (take j more)) (add-one i) ∙ ap (union k xs) (take-suc more i [] h) ∙ union_append xs (take i more) (x ∷ [])) in
          let small : length (union k got (x ∷ [])) ≤ 4 = omega (arith, ap length v, union_le xs more (i + 1)) in
          record {
            few = omega arith;
            size = e ∙ ap (λ (l : List (List ℕ)). length (union k l (x ∷ []))) front ∙ ap length v;
            cells = f ∙ ap (λ (l : List (List ℕ)). take 4 (union k l (x ∷ []) ++ drop m s)) front
                ∙ ap (λ (l : List (List ℕ)). take 4 (union k got (x ∷ []) ++ l)) back
                ∙ cut_pad blank 4 (4 - length got) (union k got (x ∷ [])) small (omega (arith, union_length k got (x ∷ [])))
                ∙ ap padded v;
          }

      pub united_end : length more ≤ i → s ≡ padded (union k xs more)
      united_end h = g.cells ∙ ap (λ (l : List (List ℕ)). padded (union k xs l)) (take_all i more h)
