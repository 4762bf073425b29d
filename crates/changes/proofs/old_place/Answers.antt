-- `changes::old_place` meets its contract.
use mathlib.Core.Path.{◌≡◌, sym, ap, ◌∙◌}
use mathlib.Core.List.{[]}
use native.Mathlib.Omega.{arith}
use lib.Dec.{eqb}
use lib.ListN.{get_or}
use Rattle.model.specs.Octets.{value}
use Rattle.model.specs.Rows.{key_of}
use Rattle.inner.specs.Working.{id_in, key_in}
use Rattle.area.specs.Layout.{rows_at}
use Rattle.area.proofs.Copies.{rows_are}
use Rattle.changes.proofs.Rows.{key_value}
use Rattle.changes.proofs.Fore.{place_there, place_nowhere}
use Rattle.changes.proofs.old_place.Goals as goal

pub returns-then-m-at : goal.returns-then-m-at
returns-then-m-at c =
    let a = c.args in
    λ sc. sym (place_nowhere sc a.m (rows_at a.m a.area.now) c.requires.ordered (key_in a.row.now) a.at (c.requires.at_value sc) (λ h. absurd (omega (arith, h, c.if-m-at.true))))

pub returns-then-same_keys : goal.returns-then-same_keys
unfolding key_in id_in
returns-then-same_keys c =
    let here : eqb (key_in c.args.row.now) (key_in (get_or (rows_at c.args.m c.args.area.now) c.args.at [])) ≡ c.same_keys.result = let a = c.args in
    let x : key_of c.table_of.result (value c.id_of.result.now) ≡ key_in a.row.now = λ j. key_of (c.table_of.ensures j) (value (c.id_of.ensures.bytes j)) in
    let y = ap key_in (rows_are a.area.now a.at a.m c.if-m-at.false) ∙ sym (key_value c.key_at.ensures) in
    (λ j. eqb (sym x j) (y j)) ∙ sym c.same_keys.ensures in
    let a = c.args in
    λ sc. sym (place_there sc a.m (rows_at a.m a.area.now) c.requires.ordered (key_in a.row.now) a.at (c.requires.at_value sc) c.if-m-at.false (here ∙ c.if-same_keys.true))

pub returns : goal.returns
unfolding key_in id_in
returns c =
    let here : eqb (key_in c.args.row.now) (key_in (get_or (rows_at c.args.m c.args.area.now) c.args.at [])) ≡ c.same_keys.result = let a = c.args in
    let x : key_of c.table_of.result (value c.id_of.result.now) ≡ key_in a.row.now = λ j. key_of (c.table_of.ensures j) (value (c.id_of.ensures.bytes j)) in
    let y = ap key_in (rows_are a.area.now a.at a.m c.if-m-at.false) ∙ sym (key_value c.key_at.ensures) in
    (λ j. eqb (sym x j) (y j)) ∙ sym c.same_keys.ensures in
    let a = c.args in
    λ sc. sym (place_nowhere sc a.m (rows_at a.m a.area.now) c.requires.ordered (key_in a.row.now) a.at (c.requires.at_value sc) (λ h. here ∙ c.if-same_keys.false))
