-- Mutators and columns by the values that name them. Assumes nothing.
use mathlib.Core.Path.{◌≡◌, refl, sym, ap, ◌∙◌}
use mathlib.Core.Bool.{Bool, true, false}
use mathlib.Core.List.{List, [], ◌∷◌, map}
use Prim.Native.Nat.{ℕ, zero, suc, ◌<◌}
use native.Mathlib.Omega.{arith}
use lib.ListN.{length, get_or}
use Rattle.model.specs.declared.Mutator.TheVariants.{Add, Subtract, Multiply, Divide, Remainder, Insert, Delete}
use Rattle.model.specs.Octets.{eq_bytes}
use Rattle.std.specs.Prelude.{if◌then◌else◌, Option, Some, None}
use Rattle.model.specs.Base.{place_of, nth, ascii}
use Rattle.model.specs.Json.{Json, null, bool, num, str, arr, obj}
use Rattle.model.specs.Text.{is_word}
use Rattle.model.specs.Schema.{Column}
use Rattle.model.specs.Catalog.{column_from}
use Rattle.model.proofs.Tests.{split}
use Rattle.members.specs.Fields.{words_from, words_of, choice_from, choice}
use Rattle.conditions.specs.Lookup.{column_in}
use Rattle.mutations.specs.Mutating.{mutator_by, mutator_in}

-- the words of the mutators, each after its length
abbrev pub mutator_words : List ℕ
mutator_words = 2 ∷ 43 ∷ 61 ∷ 2 ∷ 45 ∷ 61 ∷ 2 ∷ 42 ∷ 61 ∷ 2 ∷ 47 ∷ 61 ∷ 2 ∷ 37 ∷ 61 ∷ 6 ∷ 105 ∷ 110 ∷ 115 ∷ 101 ∷ 114 ∷ 116 ∷ 6 ∷ 100 ∷ 101 ∷ 108 ∷ 101 ∷ 116 ∷ 101 ∷ []

-- one of seven, by the first test that holds
seven : (a b c d e f g : Bool)
    → (mutator_by (elim a [ true ↦ 0 | false ↦ elim b [ true ↦ 1 | false ↦ elim c [ true ↦ 2 | false ↦ elim d [ true ↦ 3 | false ↦ elim e [ true ↦ 4 | false ↦ elim f [ true ↦ 5 | false ↦ elim g [ true ↦ 6 | false ↦ 9 ] ] ] ] ] ] ]))
    ≡ (if a then Some Add
    else if b then Some Subtract
    else if c then Some Multiply
    else if d then Some Divide
    else if e then Some Remainder
    else if f then Some Insert
    else if g then Some Delete
    else None)
unfolding mutator_by
seven true b c d e f g = refl
seven false true c d e f g = refl
seven false false true d e f g = refl
seven false false false true e f g = refl
seven false false false false true f g = refl
seven false false false false false true g = refl
seven false false false false false false true = refl
seven false false false false false false false = refl

pub mutator_words_lem : (j : Json) → mutator_in j ≡ (mutator_by (choice (words_of mutator_words) j))
unfolding mutator_in mutator_by choice choice_from words_of words_from is_word
mutator_words_lem null = refl
mutator_words_lem (bool b) = refl
mutator_words_lem (num t) = refl
mutator_words_lem (str t) =
    sym
    (seven
    (eq_bytes t (ascii "+="))
    (eq_bytes t (ascii "-="))
    (eq_bytes t (ascii "*="))
    (eq_bytes t (ascii "/="))
    (eq_bytes t (ascii "%="))
    (eq_bytes t (ascii "insert"))
    (eq_bytes t (ascii "delete")))
mutator_words_lem (arr xs) = refl
mutator_words_lem (obj ms) = refl

-- ── columns ──
pub nth_cells : (cells : List (List ℕ)) (k : ℕ) → k < length cells → nth (map column_from cells) k ≡ Some (column_from (get_or cells k []))
nth_cells [] k h = absurd (omega arith)
nth_cells (x ∷ cells) zero h = refl
nth_cells (x ∷ cells) (suc k) h = nth_cells cells k (omega arith)

-- a place that a name has is one of the places
later : (o : Option ℕ) (k n : ℕ) → ((m : ℕ) → o ≡ Some m → m < n) → elim o [ None ↦ None | Some m ↦ Some (suc m) ] ≡ Some k → k < suc n
later None k n f e = absurd (let z : ◌≡◌ {A = ℕ} 0 1 = cc in omega arith)
later (Some m) k n f e = let q : suc m ≡ k = cc in omega (arith, f m refl)

place_within : (w : List ℕ) (l : List (List ℕ)) (k : ℕ) → place_of w l ≡ Some k → k < length l
place_within w [] k e = absurd (let z : ◌≡◌ {A = ℕ} 0 1 = cc in omega arith)
place_within w (x ∷ l) k e =
    let by : Bool → Option ℕ = λ b. elim b [ true ↦ Some 0 | false ↦ elim (place_of w l) [ None ↦ None | Some m ↦ Some (suc m) ] ] in
    split (eq_bytes w x)
    (λ h. let p : Some 0 ≡ Some k = ap by (sym h) ∙ e in let q : 0 ≡ k = cc in omega arith)
    (λ h. later (place_of w l) k (length l) (λ m f. place_within w l m f) (ap by (sym h) ∙ e))

names_length : (cells : List (List ℕ)) → length (map (λ (c : Column). c.name) (map column_from cells)) ≡ length cells
names_length [] = refl
names_length (x ∷ cells) = ap suc (names_length cells)

column_within : (cells : List (List ℕ)) (j : Json) (k : ℕ) → column_in (map column_from cells) j ≡ Some k → k < length cells
column_within cells null k e = absurd (let z : ◌≡◌ {A = ℕ} 0 1 = cc in omega arith)
column_within cells (bool b) k e = absurd (let z : ◌≡◌ {A = ℕ} 0 1 = cc in omega arith)
column_within cells (num t) k e = absurd (let z : ◌≡◌ {A = ℕ} 0 1 = cc in omega arith)
column_within cells (str t) k e = omega (arith, place_within t (map (λ (c : Column). c.name) (map column_from cells)) k e, names_length cells)
column_within cells (arr xs) k e = absurd (let z : ◌≡◌ {A = ℕ} 0 1 = cc in omega arith)
column_within cells (obj ms) k e = absurd (let z : ◌≡◌ {A = ℕ} 0 1 = cc in omega arith)

found_some : (o : Option ℕ) (k : ℕ) → o ≡ Some k → o ≡ Some k
found_some None k p = absurd (let z : ◌≡◌ {A = ℕ} 0 1 = cc in omega arith)
found_some (Some m) k p = cc

found_none : (o : Option ℕ) → o ≡ None → o ≡ None
found_none None p = refl
found_none (Some m) p = absurd (let z : ◌≡◌ {A = ℕ} 0 1 = cc in omega arith)

-- the column that a value was found to name
module _ (cells : List (List ℕ)) (j : Json) {f : Option ℕ} (e : f ≡ (column_in (map column_from cells) j)) where
  pub column_some : {k : ℕ} → f ≡ Some k → column_in (map column_from cells) j ≡ Some k
  column_some {k} p = found_some (column_in (map column_from cells) j) k (sym e ∙ p)

  pub column_none : f ≡ None → column_in (map column_from cells) j ≡ None
  column_none p = found_none (column_in (map column_from cells) j) (sym e ∙ p)

  pub column_place_lem : {k : ℕ} → f ≡ Some k → k < length cells
  column_place_lem {k} p = column_within cells j k (column_some p)
