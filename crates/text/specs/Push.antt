-- Bytes written one after another into a buffer, as far as there is room. Assumes nothing: these are definitions.
use Rattle.std.specs.Prelude.{ℕ, ◌+◌, List, [], ◌∷◌, ◌≡◌, true, false, ltb, length, set, Option, Some, None}

-- where the next byte goes after one, in a buffer of n
unfoldable pub push_to : ℕ → Option ℕ → Option ℕ
push_to n (Some o) = elim (ltb o n) [ true ↦ Some (o + 1) | false ↦ None ]
push_to n None = None

-- what the buffer then holds; `set` past the end changes nothing
unfoldable pub push_out : List ℕ → Option ℕ → ℕ → List ℕ
push_out out (Some o) b = set out o b
push_out out None b = out

unfoldable pub push_all_to : ℕ → Option ℕ → List ℕ → Option ℕ
push_all_to n w [] = w
push_all_to n w (b ∷ bs) = push_all_to n (push_to n w) bs

unfoldable pub push_all_out : List ℕ → Option ℕ → List ℕ → List ℕ
push_all_out out w [] = out
push_all_out out w (b ∷ bs) = push_all_out (push_out out w b) (push_to (length out) w) bs

-- what writing some bytes does
pub record Pushed (before : List ℕ) (w : Option ℕ) (bs : List ℕ) (r : Option ℕ) (after : List ℕ) : Type 0 where
  pub to : r ≡ push_all_to (length before) w bs
  pub out : after ≡ push_all_out before w bs

-- how many bytes were written
unfoldable pub count_of : Option ℕ → ℕ
count_of (Some o) = o
count_of None = 0
