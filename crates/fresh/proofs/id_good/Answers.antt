-- `fresh::id_good` meets its contract.
use Prim.Native.Nat.{◌+◌}
use mathlib.Core.Path.{◌≡◌, ap, ◌∙◌}
use mathlib.Core.Bool.{not, ◌&&◌}
use lib.Dec.{eqb}
use Rattle.model.specs.Octets.{value}
use Rattle.model.specs.Base.{any}
use Rattle.model.specs.Rows.{has_id}
use Rattle.inner.specs.Working.{working}
use Rattle.fresh.specs.Fresh.{fresh_from, fresh_at}
use Rattle.fresh.proofs.Ids.{blank_value, good_is}
use Rattle.fresh.proofs.id_good.Goals as goal

pub returns : goal.returns
returns c s =
    let f = c.args.fresh.now in
    let k = c.args.k in
    let rows = working s c.args.n c.args.rows.now in
    let i = c.id_at-id.ensures in
    let x : c.same-none.result ≡ eqb (fresh_at f k) 0 = c.same-none.ensures ∙ (λ j. eqb (i.is j) (blank_value j)) in
    let y : c.has_id-taken.result ≡ has_id (fresh_at f k) rows =
    c.has_id-taken.ensures s ∙ ap (λ v. has_id v rows) (ap value c.copy_from_slice.ensures.after ∙ i.is) in
    let z : c.among-again.result ≡ any (eqb (fresh_at f k)) (fresh_from (k + 1) f) = c.among-again.ensures ∙ ap (λ v. any (eqb v) (fresh_from (k + 1) f)) i.is in
    (λ j. not (x j) && not (y j) && not (z j)) ∙ good_is f rows k c.requires.k_lt_most_operations
