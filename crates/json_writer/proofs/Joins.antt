-- Texts with commas between them, atoms by kind, and results. Assumes nothing.
use mathlib.Core.Path.{◌≡◌, refl, sym, ap, ◌∙◌}
use mathlib.Core.Bool.{Bool, true, false}
use mathlib.Core.List.{List, [], ◌∷◌, ◌++◌, map, append_assoc, append-nil}
use Prim.Native.Nat.{ℕ, suc, ◌+◌, ◌<◌, ◌≤◌, min}
use native.Mathlib.Numerals.{add-one}
use native.Mathlib.Omega.{arith}
use lib.Dec.{eqb, ltb}
use lib.ListN.{length, take, drop, get_or, length-take, drop_of_length-le}
use lib.Seq.{drop-cons, take_all}
use borrow.Author.Tests.{ne_eqb, ltb-true, ltb-false}
use Rattle.model.proofs.Tests.{split}
use Rattle.model.specs.Base.{ascii}
use Rattle.model.specs.Catalog.{base_numbered}
use Rattle.model.specs.Value.{text_of}
use Rattle.model.specs.Answers.{commas, bracketed, bool_text, rows_text, elements_text}
use Rattle.model.specs.declared.Fault.{Fault}
use Rattle.model.specs.declared.Fault.TheVariants.{Fine, Syntax, Resources, Duplicate, Constraint, Domain, Range, Aborted, Integrity}
use Rattle.json_writer.specs.Texts.{decimal_text, integer_in, quoted_text, truth_text, id_text, atom_in, comma_text, joined, atom_texts, set_text, count_result, insert_result, error_result, words_text}

-- ── commas ──
pub comma_is : (first b : Bool) (t : List ℕ) → first ≡ b → comma_text b ≡ t → t ≡ comma_text first
comma_is first b t e h = sym h ∙ ap comma_text (sym e)

pub no_comma : comma_text true ≡ []
unfolding comma_text
no_comma = refl

pub a_comma : comma_text false ≡ 44 ∷ []
unfolding comma_text
a_comma = refl

joined_more : (u : List ℕ) (l : List (List ℕ)) → joined false (u ∷ l) ≡ 44 ∷ commas (u ∷ l)
unfolding comma_text
joined_more u [] = ap (λ (t : List ℕ). 44 ∷ t) (append-nil u)
joined_more u (v ∷ l) = ap (λ (t : List ℕ). 44 ∷ (u ++ t)) (joined_more v l)

pub joined_commas : (l : List (List ℕ)) → joined true l ≡ commas l
unfolding comma_text
joined_commas [] = refl
joined_commas (t ∷ []) = append-nil t
joined_commas (t ∷ u ∷ l) = ap (λ (x : List ℕ). t ++ x) (joined_more u l)

-- the whole of a list in brackets, and the rows of a select
pub bracketed_is : (l : List (List ℕ)) → (91 ∷ (joined true l ++ (93 ∷ []))) ≡ bracketed l
bracketed_is l = ap (λ (t : List ℕ). 91 ∷ (t ++ (93 ∷ []))) (joined_commas l)

pub rows_is : (l : List (List ℕ)) → (ascii "{\"rows\":[" ++ (joined true l ++ ascii "]}")) ≡ rows_text l
rows_is l =
    ap (λ (t : List ℕ). ascii "{\"rows\":[" ++ (t ++ ascii "]}")) (joined_commas l)
    ∙ ap (λ (t : List ℕ). ascii "{\"rows\":[" ++ t) (sym (append_assoc (commas l) (93 ∷ []) (125 ∷ [])))

-- ── atoms by kind ──
pub truth_zero : (b : ℕ) → b ≡ 0 → ascii "false" ≡ truth_text b
unfolding truth_text
truth_zero b e = rw e refl

pub truth_other : (b : ℕ) → (b ≡ 0 → ⊥) → ascii "true" ≡ truth_text b
unfolding truth_text
truth_other b n = rw (bool_text, ne_eqb b 0 n) refl

module _ (k : ℕ) (a : List ℕ) where
  pub atom_integer : k ≡ 0 → integer_in a ≡ atom_in k a
  unfolding integer_in atom_in base_numbered
  atom_integer e = rw e refl

  pub atom_boolean : k ≡ 1 → truth_text (get_or a 0 0) ≡ atom_in k a
  unfolding truth_text atom_in base_numbered
  atom_boolean e = rw e refl

  pub atom_text_lem : k ≡ 2 → quoted_text (text_of a) ≡ atom_in k a
  unfolding quoted_text atom_in base_numbered
  atom_text_lem e = rw e refl

  pub atom_uuid : (k ≡ 0 → ⊥) → (k ≡ 1 → ⊥) → (k ≡ 2 → ⊥) → id_text (take 16 a) ≡ atom_in k a
  unfolding id_text atom_in base_numbered
  atom_uuid n m l = rw (base_numbered, ne_eqb k 0 n, ne_eqb k 1 m, ne_eqb k 2 l) refl

-- ── results ──
pub count_is : (n : ℕ) → (ascii "{\"count\":" ++ (decimal_text n ++ (125 ∷ []))) ≡ count_result n
unfolding decimal_text count_result
count_is n = refl

pub insert_is : (b : List ℕ) → (ascii "{\"uuid\":" ++ (id_text b ++ (125 ∷ []))) ≡ insert_result b
unfolding id_text insert_result
insert_is b = refl

pub words_is : (f g : Fault) (t : List ℕ) → f ≡ g → words_text g ≡ t → t ≡ words_text f
words_is f g t e h = sym h ∙ ap words_text (sym e)

pub error_is : (f : Fault) → (ascii "{\"error\":\"" ++ (words_text f ++ ascii "\"}")) ≡ error_result f
unfolding words_text error_result
error_is Fine = refl
error_is Syntax = refl
error_is Resources = refl
error_is Duplicate = refl
error_is Constraint = refl
error_is Domain = refl
error_is Range = refl
error_is Aborted = refl
error_is Integrity = refl

-- ── a value ──
module _ (k : ℕ) (atoms : List (List ℕ)) (i : ℕ) where
  pub atoms_next : i < length atoms → joined (eqb i 0) (atom_texts k (drop i atoms)) ≡ comma_text (eqb i 0) ++ (atom_in k (get_or atoms i []) ++ joined (eqb (i + 1) 0) (atom_texts k (drop (i + 1) atoms)))
  unfolding atom_texts
  atoms_next h = rw (drop-cons atoms i [] h, add-one i, ne_eqb (suc i) 0 (λ e. omega arith)) refl

  pub atoms_end : length atoms ≤ i → joined (eqb i 0) (atom_texts k (drop i atoms)) ≡ []
  unfolding atom_texts
  atoms_end h = rw (drop_of_length-le atoms {i = i} h) refl

-- as many as there are, where more are counted
pub taken : {A : Type 0} (l : List A) (most count n : ℕ) → n ≡ min most count → length l ≡ most → take n l ≡ take count l
taken l most count n c e =
    split
    (ltb count most)
    (λ h. let d : n ≡ count = omega (arith, ltb-true count most h) in ap (λ (j : ℕ). take j l) d)
    (λ h. take_all n l (omega (arith, ltb-false count most h)) ∙ sym (take_all count l (omega (arith, ltb-false count most h))))

module _ (k count : ℕ) (atoms : List (List ℕ)) where
  pub set_none : count ≡ 0 → ascii "[\"set\",[]]" ≡ set_text k count atoms
  unfolding set_text
  set_none e = rw e refl

  pub set_one : count ≡ 1 → 0 < length atoms → atom_in k (get_or atoms 0 []) ≡ set_text k count atoms
  unfolding set_text atom_in
  set_one e h = rw e (one atoms h) where
    one : (l : List (List ℕ)) → 0 < length l → atom_in k (get_or l 0 []) ≡ elements_text (map (atom_in k) (take 1 l))
    one [] g = absurd (omega arith)
    one (a ∷ l) g = refl

  several : (l : List (List ℕ)) → 2 ≤ length l → (ascii "[\"set\",[" ++ (joined true (map (atom_in k) l) ++ ascii "]]")) ≡ elements_text (map (atom_in k) l)
  several [] h = absurd (omega arith)
  several (a ∷ []) h = absurd (omega arith)
  several (a ∷ b ∷ l) h =
      let m = map (atom_in k) (a ∷ b ∷ l) in
      ap (λ (t : List ℕ). ascii "[\"set\",[" ++ (t ++ ascii "]]")) (joined_commas m) ∙ ap (λ (t : List ℕ). ascii "[\"set\",[" ++ t) (sym (append_assoc (commas m) (93 ∷ []) (93 ∷ [])))

  pub set_many : (n : ℕ) → n ≡ min 4 count → length atoms ≡ 4 → 2 ≤ count → (ascii "[\"set\",[" ++ (joined true (atom_texts k (take n atoms)) ++ ascii "]]")) ≡ set_text k count atoms
  unfolding set_text atom_texts atom_in
  set_many n c e h =
      ap (λ (l : List (List ℕ)). ascii "[\"set\",[" ++ (joined true (map (atom_in k) l) ++ ascii "]]")) (taken atoms 4 count n c e)
      ∙ several (take count atoms) (omega (arith, length-take count atoms))
