-- What the code decides of strings and names before the rest: a byte that is a character by itself, and what follows a name. Assumes nothing: these are definitions.
use Rattle.std.specs.Prelude.{Ok}
use Rattle.model.specs.Scan.{Read}
use Rattle.std.specs.Prelude.{ℕ, List, Bool, not, ◌&&◌, eqb, leb, ltb}
use Rattle.model.specs.Scan.{spaces_at, within_at, then_read}

-- ASCII from the space on, and neither a quote nor a backslash
unfoldable pub is_plain : ℕ → Bool
is_plain b = leb 32 b && ltb b 128 && not (eqb b 34) && not (eqb b 92)

-- white space and a colon, after what was read before them
unfoldable pub colon_at : List ℕ → Read → Read
colon_at s r = then_read (λ e. within_at s 58 58 (Ok (spaces_at s e))) r
