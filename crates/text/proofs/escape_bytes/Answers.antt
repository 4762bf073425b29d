-- `text::escape_bytes` meets its contract.
use Rattle.text.proofs.Units.{second_below, character_below}
use Rattle.text.proofs.escape_bytes.Goals as goal

pub unit_character-c-requires : goal.unit_character-c-requires
unit_character-c-requires c = rw (c.unit_value-u.ensures, c.low_half-g.ensures) (second_below _ _)

pub encode-requires : goal.encode-requires
encode-requires c =
    rw c.unit_character-c.ensures
    (character_below _ _ (rw c.unit_value-v.ensures c.requires) (rw (c.unit_value-u.ensures, c.low_half-g.ensures) (second_below _ _)))

pub returns : goal.returns
returns c =
    rw (← c.unit_value-v.ensures, ← c.unit_end-e.ensures, ← c.low_half-g.ensures, ← c.unit_value-u.ensures, ← c.unit_character-c.ensures)
    c.encode.ensures
