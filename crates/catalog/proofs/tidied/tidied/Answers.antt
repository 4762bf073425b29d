-- `catalog::tidied::tidied` meets its contract.
use Rattle.std.proofs.Common.{◌≡◌, [], set, replicate, arith, refl, ◌∙◌}
use Rattle.model.specs.Catalog.{database_from, catalog_of}
use Rattle.model.proofs.Catalogs.{catalog_length}
use Rattle.catalog.proofs.Copied.{copied_more, copied_end}
use Rattle.catalog.proofs.tidied.tidied.Goals as goal

pub loop-i-preserved : goal.loop-i-preserved
loop-i-preserved c =
    let l = c.loop-i in
    let d = database_from c.args.cells.now in
    (λ j. set (l.invariant j) l.i (c.entry_anew.ensures j)) ∙ copied_more (replicate 29 (replicate 48 0)) (catalog_of d) [] l.i (omega (arith, catalog_length d c.requires.sane)) (omega arith)

pub returns : goal.returns
returns c =
    let d = database_from c.args.cells.now in
    let end : c.loop-i.i ≡ 29 = omega arith in
    (rw end at c.loop-i.invariant) ∙ copied_end (replicate 29 (replicate 48 0)) (catalog_of d) [] 29 (catalog_length d c.requires.sane) refl
