-- Numbers by RFC 4627 §2.4. Assumes nothing: these are definitions.
use Rattle.std.specs.Prelude.{Ok, Err}
use Rattle.model.specs.declared.ReadError.TheVariants.{Stop}
use Rattle.model.specs.Scan.{Read}
use Rattle.std.specs.Prelude.{ℕ, ◌+◌, List, Bool, true, false, eqb}
use Rattle.model.specs.Scan.{byte, digits_at, then_read}

-- past a minus, if there is one
unfoldable pub minus_at : List ℕ → ℕ → ℕ
minus_at s at = elim (eqb (byte s at) 45) [ true ↦ at + 1 | false ↦ at ]

-- past a plus or a minus, if there is one
unfoldable pub sign_at : List ℕ → ℕ → ℕ
sign_at s at = elim (eqb (byte s at) 43) [ true ↦ at + 1 | false ↦ minus_at s at ]

-- that the digits from `at` to e are some
unfoldable pub some_from : ℕ → ℕ → Read
some_from at e = elim (eqb e at) [ true ↦ Err (Stop at) | false ↦ Ok e ]

-- one or more digits
abbrev pub some_at : List ℕ → ℕ → Read
some_at s at = some_from at (digits_at s at)

-- a 0, or digits that do not begin with one
unfoldable pub whole_at : List ℕ → ℕ → Read
whole_at s at = elim (eqb (byte s at) 48) [ true ↦ Ok (at + 1) | false ↦ some_at s at ]

unfoldable pub frac_at : List ℕ → ℕ → Read
frac_at s at = elim (eqb (byte s at) 46) [ true ↦ some_at s (at + 1) | false ↦ Ok at ]

unfoldable pub is_exp : ℕ → Bool
is_exp b = elim (eqb b 101) [ true ↦ true | false ↦ eqb b 69 ]

unfoldable pub exp_at : List ℕ → ℕ → Read
exp_at s at = elim (is_exp (byte s at)) [ true ↦ some_at s (sign_at s (at + 1)) | false ↦ Ok at ]

abbrev pub number_at : List ℕ → ℕ → Read
number_at s at = then_read (exp_at s) (then_read (frac_at s) (whole_at s (minus_at s at)))
