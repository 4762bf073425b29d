-- `texts_main::report` meets its contract.
use mathlib.Core.Path.{sym, ap, ◌∙◌}
use native.Mathlib.Omega.{arith}
use Rattle.model.specs.Nav.{is_read}
use Rattle.json_reader.proofs.Whole.{text_well}
use Rattle.texts_main.proofs.report.Goals as goal

pub show_found-requires : goal.show_found-requires
unfolding is_read
show_found-requires c = record { says = c.requires.says; text_in_bounds = omega (arith, c.show_all.auto.scratch, c.requires.text_in_bounds); text_value = (text_well c.args.text.now (ap is_read (sym c.requires.r_value ∙ c.in-Ok.is))).0 }
