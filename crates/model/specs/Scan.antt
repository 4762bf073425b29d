-- Reading bytes at positions of a text. Assumes nothing: these are definitions.
use Rattle.std.specs.Prelude.{Result}
use Rattle.model.specs.declared.ReadError.{ReadError}
use Rattle.std.specs.declared.ops.ControlFlow.{ControlFlow}
use Rattle.std.specs.Prelude.{Ok, Err}
use Rattle.model.specs.declared.ReadError.TheVariants.{Stop}
use Rattle.std.specs.declared.ops.ControlFlow.TheVariants.{Continue, Break}
use Rattle.std.specs.Prelude.{ℕ, zero, suc, ◌+◌, ◌-◌, List, [], ◌∷◌, ◌++◌, Bool, true, false, length, get_or, take, drop, eqb, leb, ltb}

-- what reading gives: the position past what was read, or why and where it stopped
abbrev pub Read : Type 0
Read = Result ℕ ReadError

-- what a loop does next: one more turn from a position on, or the end
abbrev pub Next : Type 0
Next = ControlFlow Read ℕ

-- the byte at a position, 256 past the end
abbrev pub byte : List ℕ → ℕ → ℕ
byte s at = get_or s at 256

-- what reading gives: where it ended, and what was read, which counts only where that is an `End`
pub record Parsed (A : Type 0) : Type 0 where
  pub read : Read
  pub tree : A

-- what is read next, where something was read before it; `d` stands for the tree where it was not
unfoldable pub and_then : {A : Type 0} → A → (ℕ → Parsed A) → Read → Parsed A
and_then d f (Ok e) = f e
and_then d f (Err e) = record { read = Err e; tree = d }

-- one turn of a run: what comes next, and what the turn adds
pub record Turn (A : Type 0) : Type 0 where
  pub next : Next
  pub adds : List A

-- at most n turns from `at` on
unfoldable pub run : {A : Type 0} → (ℕ → Turn A) → ℕ → ℕ → Parsed (List A)
run f zero at = record { read = Err (Stop at); tree = [] }
run f (suc n) at =
    let q = f at in
    elim q.next [
      | Continue e ↦ (let rest = run f n e in record { read = rest.read; tree = q.adds ++ rest.tree })
      | Break r ↦ record { read = r; tree = q.adds }
    ]

-- the first position from `at` on whose byte fails the test; at most n are passed
unfoldable pub passing : (ℕ → Bool) → List ℕ → ℕ → ℕ → ℕ
passing f s zero at = at
passing f s (suc n) at = elim (f (byte s at)) [ true ↦ passing f s n (at + 1) | false ↦ at ]

unfoldable pub is_space : ℕ → Bool
is_space b = elim (eqb b 32) [ true ↦ true | false ↦ elim (eqb b 9) [ true ↦ true | false ↦ elim (eqb b 10) [ true ↦ true | false ↦ eqb b 13 ] ] ]

unfoldable pub is_digit : ℕ → Bool
is_digit b = elim (ltb b 48) [ true ↦ false | false ↦ leb b 57 ]

abbrev pub spaces_at : List ℕ → ℕ → ℕ
spaces_at s at = passing is_space s (length s) at

abbrev pub digits_at : List ℕ → ℕ → ℕ
digits_at s at = passing is_digit s (length s) at

-- one byte from `low` to `high`, after what was read before it
unfoldable pub within_at : List ℕ → ℕ → ℕ → Read → Read
within_at s low high (Ok e) =
    elim (ltb (byte s e) low) [ true ↦ Err (Stop e) | false ↦ elim (ltb high (byte s e)) [ true ↦ Err (Stop e) | false ↦ Ok (e + 1) ] ]
within_at s low high (Err e) = Err e

-- the bytes of a word, one after another
unfoldable pub word_at : List ℕ → List ℕ → Read → Read
word_at s [] r = r
word_at s (x ∷ w) r = word_at s w (within_at s x x r)

-- what is read next, of positions alone
unfoldable pub then_read : (ℕ → Read) → Read → Read
then_read f (Ok e) = f e
then_read f (Err e) = Err e

-- the bytes from one position up to another
abbrev pub between : List ℕ → ℕ → ℕ → List ℕ
between s a e = take (e - a) (drop a s)

abbrev pub end_or : ℕ → Read → ℕ
end_or d (Ok e) = e
end_or d (Err e) = d
