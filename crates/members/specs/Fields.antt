-- Words told apart, and the members of an object by them. Assumes nothing: these are definitions.
use Rattle.std.specs.Prelude.{ℕ, zero, suc, ◌+◌, ◌<◌, ◌≡◌, List, [], ◌∷◌, true, false, not, eqb, leb, length, get_or, take, drop}
use Rattle.model.specs.Json.{Json, null, Named}
use Rattle.inner.specs.Positions.{tree_at, well_at}
use Rattle.model.specs.Members.{has_member, member_value}
use Rattle.model.specs.Text.{is_word}
use Rattle.model.specs.SchemaText.{only}

-- words at once, at most
abbrev pub most_words : ℕ
most_words = 9

-- words that stand one after another, each after its length, at most n
unfoldable pub words_from : ℕ → List ℕ → List (List ℕ)
words_from zero bs = []
words_from (suc n) [] = []
words_from (suc n) (k ∷ bs) = elim (leb k (length bs)) [ true ↦ take k bs ∷ words_from n (drop k bs) | false ↦ [] ]

unfoldable pub words_of : List ℕ → List (List ℕ)
words_of bs = words_from (length bs) bs

-- the number of the word that a value is, of which the first has the number k; most_words where it is none
unfoldable pub choice_from : ℕ → Json → List (List ℕ) → ℕ
choice_from k j [] = most_words
choice_from k j (w ∷ ws) = elim (is_word w j) [ true ↦ k | false ↦ choice_from (suc k) j ws ]

unfoldable pub choice : List (List ℕ) → Json → ℕ
choice ws j = choice_from 0 j ws

-- what a slot stands for: the value at a position, nothing at 0, where no member of an object can begin
unfoldable pub slot_tree : List ℕ → ℕ → Json
slot_tree s p = elim (eqb p 0) [ true ↦ null | false ↦ tree_at s p ]

-- slots say of each word whether a member has it and where its last value begins; the last is 0 where all members are among the words
pub record Slots (s : List ℕ) (ws : List (List ℕ)) (ms : List Named) (slots : List ℕ) : Type 0 where
  pub size : length slots ≡ 1 + most_words
  pub here : (i : ℕ) → i < length ws → has_member (get_or ws i []) ms ≡ not (eqb (get_or slots i 0) 0)
  pub value : (i : ℕ) → i < length ws → member_value (get_or ws i []) ms ≡ slot_tree s (get_or slots i 0)
  pub well : (i : ℕ) → i < length ws → eqb (get_or slots i 0) 0 ≡ false → well_at s (get_or slots i 0) ≡ true
  pub listed : only ws ms ≡ eqb (get_or slots most_words 0) 0
