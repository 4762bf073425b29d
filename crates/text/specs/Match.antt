-- Bytes compared with a part of others, and where a string is held. Assumes nothing: these are definitions.
use Rattle.std.specs.Prelude.{ℕ, ◌+◌, ◌≤◌, ◌≡◌, List, [], ◌∷◌, ◌++◌, Bool, true, false, cond, eqb, ltb, length, get_or, take, drop, Option, Some, None}

-- past the bytes in w from o on, if they stand there
unfoldable pub matched : List ℕ → List ℕ → ℕ → Option ℕ
matched [] w o = Some o
matched (x ∷ xs) w o =
    elim (ltb o (length w)) [ true ↦ elim (eqb x (get_or w o 0)) [ true ↦ matched xs w (o + 1) | false ↦ None ] | false ↦ None ]

-- where a string's bytes bs are: a part of the scratch area if it has escapes, and else a part of the text; the scratch area then has them in front of what was there, and is else as it was
pub record Held (text before scratch : List ℕ) (inside : Bool) (start len : ℕ) (esc : Bool) (bs : List ℕ) : Type 0 where
  pub place : inside ≡ esc
  pub decoded : scratch ≡ cond esc (bs ++ drop (length bs) before) before
  pub fits : start + len ≤ length (cond inside scratch text)
  pub bytes : take len (drop start (cond inside scratch text)) ≡ bs
