-- A column set in the cells of a row: its value is there, and those before it stay. Assumes nothing.
use mathlib.Core.Path.{◌≡◌, sym, ap, subst, ◌∙◌}
use mathlib.Core.Bool.{Bool, true, false}
use mathlib.Core.List.{List, [], ◌++◌}
use Prim.Native.Nat.{ℕ, ◌+◌, ◌*◌, ◌≤◌, ◌<◌}
use native.Mathlib.Omega.{arith}
use lib.ListN.{length, get_or, take, drop, take-append-drop, length-drop}
use lib.Seq.{take_at, drop_at, drop-drop, get_or-set_same, get_or-set_other, length-take-le, take-append-le, drop-append-le}
use Rattle.model.specs.Value.{Value}
use Rattle.inner.specs.Working.{value_in, with_value}
use Rattle.rows.specs.Post.{ColumnSet}
use Rattle.request_rows.specs.Assigned.{ColumnPut, Puts}

-- four elements of a list, from 4d on, lie in its first part
front : {A : Type 0} (p q : List A) (d : ℕ) → 4 * d + 4 ≤ length p → take 4 (drop (4 * d) (p ++ q)) ≡ take 4 (drop (4 * d) p)
front {A} p q d h =
    ap (take 4) (drop-append-le (4 * d) p q (omega arith)) ∙ take-append-le 4 (drop (4 * d) p) q (omega (arith, length-drop (4 * d) p))

module _ (cells : List (List ℕ)) (c : ℕ) (v : Value) (six : c < 6) (all : length cells ≡ 25) (wide : length (get_or cells 0 []) ≡ 25) (e : length v.atoms ≡ 4) where
  abbrev first : List (List ℕ)
  first = take (4 * c) (drop 1 cells)

  abbrev last : List (List ℕ)
  last = drop (4 * c + 4) (drop 1 cells)

  long : length first ≡ 4 * c
  long = length-take-le (4 * c) (drop 1 cells) (omega (arith, length-drop 1 cells))

  value_there : value_in c (with_value c v cells) ≡ v
  unfolding value_in with_value
  value_there =
      let head = get_or cells 0 [] in
      λ j. record {
        count = get_or-set_same head (17 + c) v.count 0 (omega arith) j;
        atoms = (ap (take 4) (sym (drop-drop (4 * c) 1 (with_value c v cells)) ∙ drop_at first (v.atoms ++ last) (4 * c) long) ∙ take_at v.atoms last 4 e) j;
      }

  value_before : (d : ℕ) → d < c → value_in d (with_value c v cells) ≡ value_in d cells
  unfolding value_in with_value
  value_before d h =
      let head = get_or cells 0 [] in
      let here = front first (v.atoms ++ last) d (omega (arith, long)) in
      let there = ap (λ (l : List (List ℕ)). take 4 (drop (4 * d) l)) (sym (take-append-drop (4 * c) (drop 1 cells))) ∙ front first (drop (4 * c) (drop 1 cells)) d (omega (arith, long)) in
      λ j. record {
        count = get_or-set_other head (17 + c) (17 + d) v.count 0 (λ q. omega arith) j;
        atoms = (ap (take 4) (sym (drop-drop (4 * d) 1 (with_value c v cells))) ∙ here ∙ sym there ∙ ap (take 4) (drop-drop (4 * d) 1 cells)) j;
      }

  pub column_put : {exit : List (List ℕ)} → ColumnSet c v cells exit → ColumnPut c v cells exit
  column_put s = record {
    column = s;
    there = ap (value_in c) s.cells ∙ value_there;
    before = λ d h. ap (value_in d) s.cells ∙ value_before d h;
  }

-- a value put where it fits
module _ (c : ℕ) (v : Value) (entry exit : List (List ℕ)) where
  pub puts_there : {b : Bool} → b ≡ true → ColumnPut c v entry exit → Puts b c v entry exit
  unfolding Puts
  puts_there e p = subst (λ (x : Bool). Puts x c v entry exit) (sym e) p

  pub puts_not : {b : Bool} → b ≡ false → exit ≡ entry → Puts b c v entry exit
  unfolding Puts
  puts_not e p = subst (λ (x : Bool). Puts x c v entry exit) (sym e) p

  pub put_there : {b : Bool} → b ≡ true → Puts b c v entry exit → ColumnPut c v entry exit
  unfolding Puts
  put_there e p = subst (λ (x : Bool). Puts x c v entry exit) e p
