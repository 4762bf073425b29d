-- `text::unit_character` meets its contract.
use mathlib.Core.Path.{sym, ◌∙◌}
use Rattle.model.specs.Strings.{◌to◌}
use Rattle.model.proofs.Utf8.{of_range}
use Rattle.text.specs.Units.{character_of}
use borrow.Author.Rules.{rules}
use Rattle.text.proofs.unit_character.Goals as goal

pub pair_of-requires : goal.pair_of-requires
pair_of-requires c = record { v_bound = (of_range (55296 to 56319) _ (sym c.is_first_half-pair.ensures ∙ c.if-pair.true)).1; w_bound = search rules }

pub returns-then-pair : goal.returns-then-pair
unfolding character_of
returns-then-pair c = rw (character_of, sym c.is_first_half-pair.ensures ∙ c.if-pair.true) c.pair_of.ensures

pub returns : goal.returns
unfolding character_of
returns c = rw (character_of, sym c.is_first_half-pair.ensures ∙ c.if-pair.false)
