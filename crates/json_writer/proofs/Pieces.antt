-- Strings and ids, byte after byte. Assumes nothing.
use mathlib.Core.Path.{◌≡◌, refl, sym, ap, ◌∙◌}
use mathlib.Core.Bool.{Bool, true, false, ◌||◌}
use mathlib.Core.List.{List, [], ◌∷◌, ◌++◌}
use Prim.Native.Nat.{ℕ, ◌+◌, ◌<◌, ◌≤◌}
use native.Mathlib.Numerals.{add-one}
use lib.Dec.{eqb}
use lib.ListN.{length, drop, get_or, drop_of_length-le}
use lib.Seq.{drop-cons}
use Rattle.model.specs.Base.{ascii}
use Rattle.model.specs.Answers.{hex_pair, uuid_digits}
use Rattle.model.proofs.Octets.{octets, big_value}
use Rattle.json_writer.specs.Texts.{escaped_text, inside_text, quoted_text, dash_text, id_text}

-- strings
module _ (t : List ℕ) (i : ℕ) where
  pub inside_next : i < length t → inside_text (drop i t) ≡ escaped_text (get_or t i 0) ++ inside_text (drop (i + 1) t)
  unfolding inside_text
  inside_next h = rw (drop-cons t i 0 h, add-one i) refl

  pub inside_end : length t ≤ i → inside_text (drop i t) ≡ []
  unfolding inside_text
  inside_end h = rw (drop_of_length-le t {i = i} h) refl

pub quoted_is : (t : List ℕ) → (34 ∷ (inside_text t ++ (34 ∷ []))) ≡ quoted_text t
unfolding inside_text quoted_text escaped_text
quoted_is t = refl

-- ids
module _ (l : List ℕ) (k : ℕ) where
  pub digits_next : k < length l → uuid_digits k (drop k l) ≡ dash_text k ++ (hex_pair (get_or l k 0) ++ uuid_digits (k + 1) (drop (k + 1) l))
  unfolding dash_text
  digits_next h = rw (drop-cons l k 0 h, add-one k) refl

  pub digits_end : length l ≤ k → uuid_digits k (drop k l) ≡ []
  digits_end h = rw (drop_of_length-le l {i = k} h) refl

abbrev pub dash_if : Bool → List ℕ → List ℕ
dash_if b l = elim b [ true ↦ 45 ∷ [] | false ↦ l ]

abbrev pub dash_of : Bool → List ℕ
dash_of b = dash_if b []

dashed : (a b c d : Bool) → dash_of (((a || b) || c) || d) ≡ dash_if a (dash_if b (dash_if c (dash_if d [])))
dashed true b c d = refl
dashed false true c d = refl
dashed false false true d = refl
dashed false false false true = refl
dashed false false false false = refl

pub dash_is : (k : ℕ) (b : Bool) → (((eqb k 4 || eqb k 6) || eqb k 8) || eqb k 10) ≡ b → dash_of b ≡ dash_text k
unfolding dash_text
dash_is k b e = ap dash_of (sym e) ∙ dashed (eqb k 4) (eqb k 6) (eqb k 8) (eqb k 10)

pub id_is : (l : List ℕ) → length l ≡ 16 → ((k : ℕ) → get_or l k 0 < 256) → (ascii "[\"uuid\",\"" ++ (uuid_digits 0 l ++ ascii "\"]")) ≡ id_text l
unfolding id_text
id_is l e h = ap (λ (b : List ℕ). ascii "[\"uuid\",\"" ++ (uuid_digits 0 b ++ ascii "\"]")) (sym (big_value 16 l e (octets l h)))
