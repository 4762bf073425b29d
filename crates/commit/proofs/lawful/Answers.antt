-- `commit::lawful` meets its contract.
use mathlib.Core.Path.{◌≡◌, refl, ap, ◌∙◌}
use mathlib.Core.Bool.{not, ◌&&◌}
use Rattle.model.specs.Base.{any, all}
use Rattle.model.specs.Catalog.{packed_tables}
use Rattle.model.specs.Commit.{loose, all_enough}
use Rattle.inner.specs.Working.{working}
use Rattle.references.specs.Links.{referred}
use Rattle.commit.proofs.Laws.{lawful_joined, joined, not_joined}
use Rattle.commit.proofs.lawful.Goals as goal
use Rattle.commit.proofs.lawful.Goals.{then-all_found, else-all_found, then-not-any_loose, else-not-any_loose, then-all_found-2, else-all_found-2}

pub returns-then-all_enough : goal.returns-then-all_enough
returns-then-all_enough c =
    let s = packed_tables c.args.schema.now in
    let rows = working s c.args.n c.args.rows.now in
    let two : c.if-all_found.value ≡ (all (referred s 1 rows) rows && not (any (loose s rows) rows)) = elim c.if-all_found.branch [
      | then-all_found w ↦ joined c.all_found.ensures w.if-all_found.true (w.value-is ∙ ap not w.any_loose.ensures)
      | else-all_found w ↦ not_joined _ c.all_found.ensures w.if-all_found.false w.value-is
    ] in
    let three : c.if-not-any_loose.value ≡ ((all (referred s 1 rows) rows && not (any (loose s rows) rows)) && all (referred s 2 rows) rows) = elim c.if-not-any_loose.branch [
      | then-not-any_loose w ↦ joined two w.if-not-any_loose.true (w.value-is ∙ w.all_found-then-not-any_loose.ensures)
      | else-not-any_loose w ↦ not_joined _ two w.if-not-any_loose.false w.value-is
    ] in
    let four : c.if-all_found-2.value ≡ (((all (referred s 1 rows) rows && not (any (loose s rows) rows)) && all (referred s 2 rows) rows) && all_enough s rows) = elim c.if-all_found-2.branch [
      | then-all_found-2 w ↦ joined three w.if-all_found-2.true (w.value-is ∙ w.all_enough.ensures)
      | else-all_found-2 w ↦ not_joined _ three w.if-all_found-2.false w.value-is
    ] in
    joined four c.if-all_enough.true c.tables_good.ensures ∙ lawful_joined s rows

pub returns-else-all_enough : goal.returns-else-all_enough
returns-else-all_enough c =
    let s = packed_tables c.args.schema.now in
    let rows = working s c.args.n c.args.rows.now in
    let two : c.if-all_found.value ≡ (all (referred s 1 rows) rows && not (any (loose s rows) rows)) = elim c.if-all_found.branch [
      | then-all_found w ↦ joined c.all_found.ensures w.if-all_found.true (w.value-is ∙ ap not w.any_loose.ensures)
      | else-all_found w ↦ not_joined _ c.all_found.ensures w.if-all_found.false w.value-is
    ] in
    let three : c.if-not-any_loose.value ≡ ((all (referred s 1 rows) rows && not (any (loose s rows) rows)) && all (referred s 2 rows) rows) = elim c.if-not-any_loose.branch [
      | then-not-any_loose w ↦ joined two w.if-not-any_loose.true (w.value-is ∙ w.all_found-then-not-any_loose.ensures)
      | else-not-any_loose w ↦ not_joined _ two w.if-not-any_loose.false w.value-is
    ] in
    let four : c.if-all_found-2.value ≡ (((all (referred s 1 rows) rows && not (any (loose s rows) rows)) && all (referred s 2 rows) rows) && all_enough s rows) = elim c.if-all_found-2.branch [
      | then-all_found-2 w ↦ joined three w.if-all_found-2.true (w.value-is ∙ w.all_enough.ensures)
      | else-all_found-2 w ↦ not_joined _ three w.if-all_found-2.false w.value-is
    ] in
    not_joined _ four c.if-all_enough.false refl ∙ lawful_joined s rows
