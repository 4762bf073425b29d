-- How many rows lie before a key, and where a row in order is found by it. Assumes nothing.
use Rattle.std.specs.Prelude.{Some, None}
use mathlib.Core.Path.{◌≡◌, refl, sym, ap, ◌∙◌}
use mathlib.Core.Bool.{true, false}
use mathlib.Core.List.{List, [], ◌∷◌}
use Prim.Native.Nat.{ℕ, zero, suc, ◌+◌, ◌≤◌, ◌<◌}
use native.Mathlib.Omega.{arith}
use borrow.Author.Tests.{ne_eqb, ltb-true, ltb-false, lt-ltb}
use lib.Dec.{eqb, ltb}
use lib.ListN.{length, get_or, drop}
use Rattle.model.specs.Schema.{Schema}
use Rattle.model.specs.Rows.{Row, key}
use Rattle.model.proofs.Order.{Above, Sorted}
use Rattle.model.proofs.Tests.{split}
use Rattle.model.specs.Areas.{row_from}
use Rattle.inner.specs.Working.{working, key_in, Ordered, place_from, place}
use Rattle.inner.proofs.Working.{row_key, working_on, working_end, working_at, working_length}
use Rattle.inner.proofs.Ordering.{ordered_sorted}
use Rattle.changes.specs.Walk.{fore}

-- ── counted on from a place ──
pub fore_drop : (k j : ℕ) (rows : List Row) → j ≤ fore k rows → fore k rows ≡ j + fore k (drop j rows)
fore_drop k zero rows h = omega arith
fore_drop k (suc j) [] h = absurd (omega arith)
fore_drop k (suc j) (r ∷ rs) h = split (ltb (key r) k)
    (λ e. let g : suc j ≤ suc (fore k rs) = rw (e, fore) at h in let f : suc (j + fore k (drop j rs)) ≡ suc j + fore k (drop j rs) = omega arith in rw (e, fore) (ap suc (fore_drop k j rs (omega (arith, g))) ∙ f))
    (λ e. let g : suc j ≤ 0 = rw (e, fore) at h in absurd (omega (arith, g)))

pub fore_up : (k n : ℕ) (rows : List Row) → k ≤ n → fore k rows ≤ fore n rows
fore_up k n [] h = omega arith
fore_up k n (r ∷ rs) h = split (ltb (key r) k)
    (λ e. rw (e, lt-ltb (key r) n (omega (arith, ltb-true (key r) k e, h)), fore) (omega (arith, fore_up k n rs h)))
    (λ e. rw (e, fore) (omega arith))

module _ (s : Schema) (cells : List (List (List ℕ))) (n : ℕ) (h : n ≤ length cells) (k i : ℕ) where
  pub fore_here : i < n → ltb (key_in (get_or cells i [])) k ≡ false → fore k (drop i (working s n cells)) ≡ 0
  fore_here l e = rw (working_on s cells n h i l, row_key s (get_or cells i []), e, fore)

  pub fore_on : i < n → ltb (key_in (get_or cells i [])) k ≡ true → fore k (drop i (working s n cells)) ≡ suc (fore k (drop (i + 1) (working s n cells)))
  fore_on l e = rw (working_on s cells n h i l, row_key s (get_or cells i []), e, fore)

  pub fore_end : n ≤ i → fore k (drop i (working s n cells)) ≡ 0
  fore_end l = rw (working_end s cells n h i l)

-- ── a row is found there or nowhere ──
found_there : (j k : ℕ) (rows : List Row) (d : Row) → fore k rows < length rows → eqb k (key (get_or rows (fore k rows) d)) ≡ true → place_from j k rows ≡ Some (j + fore k rows)
found_there j k [] d h e = absurd (omega arith)
found_there j k (r ∷ rs) d h e = split (ltb (key r) k)
    (λ t.
    let n : eqb k (key r) ≡ false = ne_eqb k (key r) (λ q. omega (arith, q, ltb-true (key r) k t)) in
    let a : suc (fore k rs) < suc (length rs) = rw (t, fore) at h in
    let b : eqb k (key (get_or rs (fore k rs) d)) ≡ true = rw (t, fore) at e in
    let f : suc j + fore k rs ≡ j + suc (fore k rs) = omega arith in
    rw (t, n, fore, place_from) (found_there (suc j) k rs d (omega (arith, a)) b ∙ ap Some f))
    (λ t.
    let b : eqb k (key r) ≡ true = rw (t, fore) at e in
    let f : j ≡ j + 0 = omega arith in
    rw (t, b, fore, place_from) (ap Some f))

none_above : (j k n : ℕ) (rows : List Row) → k ≤ n → Above n rows → place_from j k rows ≡ None
none_above j k n [] h a = refl
none_above j k n (r ∷ rs) h a = rw (ne_eqb k (key r) (λ q. omega (arith, q, h, a.0)), place_from) (none_above (suc j) k n rs h a.1)

found_nowhere : (j k : ℕ) (rows : List Row) (d : Row) → Sorted rows → (fore k rows < length rows → eqb k (key (get_or rows (fore k rows) d)) ≡ false) → place_from j k rows ≡ None
found_nowhere j k [] d o e = refl
found_nowhere j k (r ∷ rs) d o e = split (ltb (key r) k)
    (λ t.
    let n : eqb k (key r) ≡ false = ne_eqb k (key r) (λ q. omega (arith, q, ltb-true (key r) k t)) in
    let b : suc (fore k rs) < suc (length rs) → eqb k (key (get_or rs (fore k rs) d)) ≡ false = rw (t, fore) at e in
    rw (n, place_from) (found_nowhere (suc j) k rs d o.1 (λ g. b (omega (arith, g)))))
    (λ t.
    let b : 0 < suc (length rs) → eqb k (key r) ≡ false = rw (t, fore) at e in
    let n : eqb k (key r) ≡ false = b (omega arith) in
    rw (n, place_from) (none_above (suc j) k (key r) rs (omega (arith, ltb-false (key r) k t)) o.0))

-- ── in cells ──
module _ (s : Schema) (n : ℕ) (cells : List (List (List ℕ))) (o : Ordered n cells) (k at : ℕ) (e : at ≡ fore k (working s n cells)) where
  abbrev none_row : Row
  none_row = row_from s []

  size : length (working s n cells) ≡ n
  size = working_length s cells n o.there

  key_there : at < n → key (get_or (working s n cells) (fore k (working s n cells)) none_row) ≡ key_in (get_or cells at [])
  key_there h = ap (λ (i : ℕ). key (get_or (working s n cells) i none_row)) (sym e) ∙ ap key (working_at s cells n o.there at none_row h) ∙ row_key s (get_or cells at [])

  pub place_there : at < n → eqb k (key_in (get_or cells at [])) ≡ true → place k (working s n cells) ≡ Some at
  unfolding place
  place_there h t =
      found_there 0 k (working s n cells) none_row (omega (arith, size, e, h)) (ap (eqb k) (key_there h) ∙ t) ∙ ap Some (omega (arith, e))

  pub place_nowhere : (at < n → eqb k (key_in (get_or cells at [])) ≡ false) → place k (working s n cells) ≡ None
  unfolding place
  place_nowhere t =
      found_nowhere 0 k (working s n cells) none_row (ordered_sorted s n cells o) (λ g. let h : at < n = omega (arith, size, e, g) in ap (eqb k) (key_there h) ∙ t h)
