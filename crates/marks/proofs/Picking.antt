-- Rows left out, one after another. Assumes nothing.
use mathlib.Core.Path.{◌≡◌, refl, sym, ap, subst, ◌∙◌}
use mathlib.Core.Bool.{Bool, true, false}
use mathlib.Core.List.{List, [], ◌∷◌, ◌++◌, map, map-append, append-nil}
use Prim.Native.Nat.{ℕ, ◌+◌, ◌<◌, ◌≤◌}
use native.Mathlib.Numerals.{add-one}
use native.Mathlib.Omega.{arith}
use lib.ListN.{length, get_or, take, drop, set, length-set}
use lib.Seq.{length-take-le, get_or-take, get_or-drop, drop-drop, drop-set-lt, take-suc, take-suc-set}
use Rattle.model.specs.Base.{keep}
use Rattle.model.specs.Schema.{Schema}
use Rattle.model.specs.Rows.{Row}
use Rattle.model.specs.Areas.{row_from}
use Rattle.inner.specs.Working.{working, TidyRow, Tidy}
use Rattle.model.proofs.Tests.{split}
use Rattle.inner.proofs.Places.{tidy_append, tidy_at}

keep_append : {A : Type 0} (q : A → Bool) (l m : List A) → keep q (l ++ m) ≡ keep q l ++ keep q m
keep_append q [] m = refl
keep_append {A} q (a ∷ l) m = split (q a) (λ e. rw e (ap (λ (r : List A). a ∷ r) (keep_append q l m))) (λ e. rw e (keep_append q l m))

-- the first i of the rows have been looked at, and `kept` of them stand in front; those from i on are as they were
pub record Partly (before now : List (List (List ℕ))) (i kept : ℕ) : Type 0 where
  pub few : kept ≤ i
  pub size : length now ≡ length before
  pub rest : drop i now ≡ drop i before

module _ (before now : List (List (List ℕ))) (i kept : ℕ) (p : Partly before now i kept) where
  pub row_here : get_or now i [] ≡ get_or before i []
  row_here =
      let z : i + 0 ≡ i = omega arith in
      ap (λ k. get_or now k []) (sym z) ∙ sym (get_or-drop i now 0 []) ∙ ap (λ l. get_or l 0 []) p.rest ∙ get_or-drop i before 0 [] ∙ ap (λ k. get_or before k []) z

  pub partly_out : Partly before now (i + 1) kept
  partly_out = record { few = omega (arith, p.few); size = p.size; rest = sym (drop-drop 1 i now) ∙ ap (drop 1) p.rest ∙ drop-drop 1 i before }

  module _ (h : i < length before) where
    abbrev next : List (List (List ℕ))
    next = set now kept (get_or now i [])

    pub partly_in : Partly before next (i + 1) (kept + 1)
    partly_in = record {
      few = omega (arith, p.few);
      size = length-set now kept (get_or now i []) ∙ p.size;
      rest = drop-set-lt (i + 1) now kept (get_or now i []) (omega (arith, p.few)) ∙ partly_out.rest;
    }

    front : take (kept + 1) next ≡ take kept now ++ get_or before i [] ∷ []
    front = ap (λ k. take k next) (add-one kept) ∙ take-suc-set now kept (get_or now i []) (omega (arith, p.few, p.size)) ∙ ap (λ r. take kept now ++ r ∷ []) row_here

    pub tidy_in : (s : Schema) (n : ℕ) → i < n → n ≤ length before → Tidy s (take n before) → Tidy s (take kept now) → Tidy s (take (kept + 1) next)
    tidy_in s n g m t u =
        let r : TidyRow s (get_or before i []) = subst (TidyRow s) (get_or-take n before i [] g) (tidy_at s (take n before) i [] t (omega (arith, length-take-le n before m))) in
        subst (Tidy s) (sym front) (tidy_append s (take kept now) (get_or before i [] ∷ []) u (r, tt))

    module _ (s : Schema) (q : Row → Bool) (w : working s kept now ≡ keep q (working s i before)) where
      more : working s (i + 1) before ≡ working s i before ++ row_from s (get_or before i []) ∷ []
      unfolding working
      more = ap (λ k. map (row_from s) (take k before)) (add-one i) ∙ ap (map (row_from s)) (take-suc before i [] h) ∙ map-append (row_from s) (take i before) (get_or before i [] ∷ [])

      keep_more : keep q (working s (i + 1) before) ≡ keep q (working s i before) ++ keep q (row_from s (get_or before i []) ∷ [])
      keep_more = ap (keep q) more ∙ keep_append q (working s i before) (row_from s (get_or before i []) ∷ [])

      pub rows_in : q (row_from s (get_or before i [])) ≡ true → working s (kept + 1) next ≡ keep q (working s (i + 1) before)
      unfolding working
      rows_in e =
          ap (map (row_from s)) front ∙ map-append (row_from s) (take kept now) (get_or before i [] ∷ [])
          ∙ ap (λ l. l ++ row_from s (get_or before i []) ∷ []) w ∙ sym (keep_more ∙ rw e)

      pub rows_out : q (row_from s (get_or before i [])) ≡ false → working s kept now ≡ keep q (working s (i + 1) before)
      rows_out e = w ∙ sym (keep_more ∙ rw e (append-nil (keep q (working s i before))))
