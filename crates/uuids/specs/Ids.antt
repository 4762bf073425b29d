-- Ids as written: 36 characters read one after another into two halves of 64 bits. Assumes nothing: these are definitions.
use Rattle.std.specs.Prelude.{ℕ, ◌+◌, ◌*◌, ◌/◌, ◌%◌, ◌≡◌, true, false, List, ◌++◌, eqb, ltb, Option, Some, None}
use Rattle.model.specs.Limits.{id_bytes}
use Rattle.model.specs.Octets.{big}
use Rattle.model.specs.Strings.{hex_of}
use Rattle.model.specs.Json.{Json}
use Rattle.model.specs.Value.{pad}
use Rattle.model.specs.Written.{string_in, is_dash, uuid_from}

-- one digit more; what leaves the upper half at its front is lost
unfoldable pub shifted : ℕ → ℕ → ℕ → Option (ℕ × ℕ)
shifted high low d = Some ((high % 1152921504606846976 * 16 + low / 1152921504606846976), (low % 1152921504606846976 * 16 + d))

-- one character more, at its place: "36 characters of RFC 4122 form, either case"
unfoldable pub spelt : Option (ℕ × ℕ) → ℕ → ℕ → Option (ℕ × ℕ)
spelt None at b = None
spelt (Some (high, low)) at b =
    elim (is_dash at) [
      | true ↦ elim (eqb b 45) [ true ↦ Some (high, low) | false ↦ None ]
      | false ↦ elim (ltb (hex_of b) 16) [ true ↦ shifted high low (hex_of b) | false ↦ None ]
    ]

-- two halves are the bytes of an id that there is
unfoldable pub Spells : Option (ℕ × ℕ) → Option ℕ → Type 0
Spells (Some (high, low)) o = (i : ℕ) × (o ≡ Some i) × (big id_bytes i ≡ big 8 high ++ big 8 low)
Spells None o = o ≡ None

-- the id that a string spells
unfoldable pub id_in : Json → Option ℕ
id_in j = elim (string_in j) [ None ↦ None | Some t ↦ uuid_from 0 0 t ]

-- the atom of an id
unfoldable pub id_atom : Option (ℕ × ℕ) → Option (List ℕ)
id_atom (Some (high, low)) = Some (pad (big 8 high ++ big 8 low))
id_atom None = None
