-- Names in cells. Assumes nothing: these are definitions.
use Rattle.std.specs.Prelude.{ℕ, List, true, false, leb, length}
use Rattle.model.specs.Limits.{most_text_bytes}
use Rattle.model.specs.Json.{Json}
use Rattle.inner.specs.Positions.{word_in}
use Rattle.model.specs.Value.{text_atom, blank}

-- a string that fits in an atom; the empty one for any other value, which is no id either
unfoldable pub short_cell : List ℕ → List ℕ
short_cell t = elim (leb (length t) most_text_bytes) [ true ↦ text_atom t | false ↦ blank ]

unfoldable pub name_cell : Json → List ℕ
name_cell j = short_cell (word_in j)
