-- `catalog::tidied::entry_anew` meets its contract.
use Rattle.std.proofs.Common.{ℕ, [], get_or, sym, ap, ◌∙◌}
use Rattle.model.specs.Catalog.{database_from, catalog_of}
use Rattle.catalog.proofs.Anew.{database_anew, database_short}
use Rattle.catalog.proofs.tidied.entry_anew.Goals as goal

pub database_of-requires : goal.database_of-requires
database_of-requires c = database_short c.requires.readable

pub returns-then-i-eq0 : goal.returns-then-i-eq0
returns-then-i-eq0 c =
    c.database_of.ensures ∙ sym (database_anew c.requires.readable) ∙ ap (λ (i : ℕ). get_or (catalog_of (database_from c.args.cells.now)) i []) (sym c.if-i-eq0.true)
