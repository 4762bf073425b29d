-- Functions and subjects by the values that name them. Assumes nothing.
use Rattle.marks.specs.declared.Place.TheVariants as place
use Rattle.marks.specs.declared.Place.{Place}
use mathlib.Core.Path.{◌≡◌, refl, sym, ap, ◌∙◌}
use mathlib.Core.Bool.{Bool, true, false}
use mathlib.Core.List.{List, [], ◌∷◌, map}
use Prim.Native.Nat.{ℕ, zero, suc, ◌<◌}
use native.Mathlib.Omega.{arith}
use lib.ListN.{length, get_or}
use Rattle.model.specs.declared.Function.TheVariants.{Less, AtMost, Equal, Unequal, AtLeast, Greater, Includes, Excludes}
use Rattle.model.specs.Octets.{eq_bytes}
use Rattle.std.specs.Prelude.{if◌then◌else◌, Option, Some, None}
use Rattle.model.specs.Base.{place_of, nth, ascii}
use Rattle.model.specs.Json.{Json, null, bool, num, str, arr, obj}
use Rattle.model.specs.Text.{is_word}
use Rattle.model.specs.Schema.{Column, column_named}
use Rattle.model.specs.Conditions.{Subject, id_column, place_subject}
use Rattle.model.specs.Catalog.{column_from}
use Rattle.model.proofs.Tests.{split}
use Rattle.members.specs.Fields.{words_from, words_of, choice_from, choice}
use Rattle.conditions.specs.Lookup.{column_in}
use Rattle.conditions.specs.Tests.{function_by, function_in, About, subject_in}

-- the words of the functions, each after its length
abbrev pub function_words : List ℕ
function_words = 1 ∷ 60 ∷ 2 ∷ 60 ∷ 61 ∷ 2 ∷ 61 ∷ 61 ∷ 2 ∷ 33 ∷ 61 ∷ 2 ∷ 62 ∷ 61 ∷ 1 ∷ 62 ∷ 8 ∷ 105 ∷ 110 ∷ 99 ∷ 108 ∷ 117 ∷ 100 ∷ 101 ∷ 115 ∷ 8 ∷ 101 ∷ 120 ∷ 99 ∷ 108 ∷ 117 ∷ 100 ∷ 101 ∷ 115 ∷ []

-- one of eight, by the first test that holds
eight : (a b c d e f g h : Bool)
    → (function_by (elim a [ true ↦ 0 | false ↦ elim b [ true ↦ 1 | false ↦ elim c [ true ↦ 2 | false ↦ elim d [ true ↦ 3 | false ↦ elim e [ true ↦ 4 | false ↦ elim f [ true ↦ 5 | false ↦ elim g [ true ↦ 6 | false ↦ elim h [ true ↦ 7 | false ↦ 9 ] ] ] ] ] ] ] ]))
    ≡ (if a then Some Less
    else if b then Some AtMost
    else if c then Some Equal
    else if d then Some Unequal
    else if e then Some AtLeast
    else if f then Some Greater
    else if g then Some Includes
    else if h then Some Excludes
    else None)
unfolding function_by
eight true b c d e f g h = refl
eight false true c d e f g h = refl
eight false false true d e f g h = refl
eight false false false true e f g h = refl
eight false false false false true f g h = refl
eight false false false false false true g h = refl
eight false false false false false false true h = refl
eight false false false false false false false true = refl
eight false false false false false false false false = refl

pub function_words_lem : (j : Json) → function_in j ≡ (function_by (choice (words_of function_words) j))
unfolding function_in function_by choice choice_from words_of words_from is_word
function_words_lem null = refl
function_words_lem (bool b) = refl
function_words_lem (num t) = refl
function_words_lem (str t) =
    sym
    (eight
    (eq_bytes t (ascii "<"))
    (eq_bytes t (ascii "<="))
    (eq_bytes t (ascii "=="))
    (eq_bytes t (ascii "!="))
    (eq_bytes t (ascii ">="))
    (eq_bytes t (ascii ">"))
    (eq_bytes t (ascii "includes"))
    (eq_bytes t (ascii "excludes")))
function_words_lem (arr xs) = refl
function_words_lem (obj ms) = refl

-- ── subjects ──
nth_cells : (cells : List (List ℕ)) (k : ℕ) → k < length cells → nth (map column_from cells) k ≡ Some (column_from (get_or cells k []))
nth_cells [] k h = absurd (omega arith)
nth_cells (x ∷ cells) zero h = refl
nth_cells (x ∷ cells) (suc k) h = nth_cells cells k (omega arith)

-- a place that a name has is one of the places
later : (o : Option ℕ) (k n : ℕ) → ((m : ℕ) → o ≡ Some m → m < n) → elim o [ None ↦ None | Some m ↦ Some (suc m) ] ≡ Some k → k < suc n
later None k n f e = absurd (let z : ◌≡◌ {A = ℕ} 0 1 = cc in omega arith)
later (Some m) k n f e = let q : suc m ≡ k = cc in omega (arith, f m refl)

place_within : (w : List ℕ) (l : List (List ℕ)) (k : ℕ) → place_of w l ≡ Some k → k < length l
place_within w [] k e = absurd (let z : ◌≡◌ {A = ℕ} 0 1 = cc in omega arith)
place_within w (x ∷ l) k e =
    let by : Bool → Option ℕ = λ b. elim b [ true ↦ Some 0 | false ↦ elim (place_of w l) [ None ↦ None | Some m ↦ Some (suc m) ] ] in
    split (eq_bytes w x)
    (λ h. let p : Some 0 ≡ Some k = ap by (sym h) ∙ e in let q : 0 ≡ k = cc in omega arith)
    (λ h. later (place_of w l) k (length l) (λ m f. place_within w l m f) (ap by (sym h) ∙ e))

names_length : (cells : List (List ℕ)) → length (map (λ (c : Column). c.name) (map column_from cells)) ≡ length cells
names_length [] = refl
names_length (x ∷ cells) = ap suc (names_length cells)

module _ (cells : List (List ℕ)) where
  -- a subject by whether its name is that of the row's id
  abbrev named_by : List ℕ → Bool → Option Subject
  named_by t b = elim b [ true ↦ Some (record { place = None; column = id_column }) | false ↦ place_subject (map column_from cells) (column_named (map column_from cells) t) ]

  pub about_id : (j : Json) → is_word (ascii "_uuid") j ≡ true → About cells (Some place.Id) (subject_in (map column_from cells) j)
  unfolding About subject_in is_word
  about_id null h = cc
  about_id (bool b) h = cc
  about_id (num t) h = cc
  about_id (str t) h = ap (named_by t) h
  about_id (arr xs) h = cc
  about_id (obj ms) h = cc

  -- any other value is looked up among the columns
  looked_up : (j : Json) → is_word (ascii "_uuid") j ≡ false → subject_in (map column_from cells) j ≡ place_subject (map column_from cells) (column_in (map column_from cells) j)
  unfolding subject_in is_word
  looked_up null h = refl
  looked_up (bool b) h = refl
  looked_up (num t) h = refl
  looked_up (str t) h = ap (named_by t) h
  looked_up (arr xs) h = refl
  looked_up (obj ms) h = refl

  column_within : (j : Json) (k : ℕ) → column_in (map column_from cells) j ≡ Some k → k < length cells
  column_within null k e = absurd (let z : ◌≡◌ {A = ℕ} 0 1 = cc in omega arith)
  column_within (bool b) k e = absurd (let z : ◌≡◌ {A = ℕ} 0 1 = cc in omega arith)
  column_within (num t) k e = absurd (let z : ◌≡◌ {A = ℕ} 0 1 = cc in omega arith)
  column_within (str t) k e = omega (arith, place_within t (map (λ (c : Column). c.name) (map column_from cells)) k e, names_length cells)
  column_within (arr xs) k e = absurd (let z : ◌≡◌ {A = ℕ} 0 1 = cc in omega arith)
  column_within (obj ms) k e = absurd (let z : ◌≡◌ {A = ℕ} 0 1 = cc in omega arith)

  module _ (j : Json) (h : is_word (ascii "_uuid") j ≡ false) {f : Option ℕ} (e : f ≡ (column_in (map column_from cells) j)) where
    found_some : (o : Option ℕ) (k : ℕ) → o ≡ Some k → o ≡ Some k
    found_some None k p = absurd (let z : ◌≡◌ {A = ℕ} 0 1 = cc in omega arith)
    found_some (Some m) k p = cc

    found_none : (o : Option ℕ) → o ≡ None → o ≡ None
    found_none None p = refl
    found_none (Some m) p = absurd (let z : ◌≡◌ {A = ℕ} 0 1 = cc in omega arith)

    pub about_column : {k : ℕ} → f ≡ Some k → About cells (Some (place.Column k)) (subject_in (map column_from cells) j)
    unfolding About
    about_column {k} p =
        let q = found_some (column_in (map column_from cells) j) k (sym e ∙ p) in
        let l = column_within j k q in
        (l, looked_up j h ∙ ap (place_subject (map column_from cells)) q ∙ ap (λ o. elim o [ None ↦ None | Some c ↦ Some (record { place = Some k; column = c }) ]) (nth_cells cells k l))

    pub about_none : f ≡ None → About cells None (subject_in (map column_from cells) j)
    unfolding About
    about_none p = looked_up j h ∙ ap (place_subject (map column_from cells)) (found_none (column_in (map column_from cells) j) (sym e ∙ p))
