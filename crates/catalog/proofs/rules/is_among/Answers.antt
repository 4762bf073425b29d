-- `catalog::rules::is_among` meets its contract.
use mathlib.Core.Path.{ap, ◌∙◌}
use mathlib.Core.List.{map}
use Rattle.model.specs.Catalog.{entry_name}
use Rattle.catalog.specs.Entries.{is_found, entry_named}
use Rattle.catalog.proofs.Lookups.{found_member}
use Rattle.catalog.proofs.rules.is_among.Goals as goal

pub returns : goal.returns
unfolding entry_named
returns c =
    let a = c.args in
    c.is_found.ensures ∙ ap is_found c.named.ensures ∙ found_member a.name.now (map entry_name a.entries.now)
