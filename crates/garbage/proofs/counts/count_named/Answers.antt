-- `garbage::counts::count_named` meets its contract.
use Rattle.std.specs.Prelude.{Some}
use mathlib.Core.Path.{◌≡◌, sym, ◌∙◌}
use mathlib.Core.List.{[], ◌∷◌}
use Prim.Native.Nat.{ℕ, ◌<◌}
use native.Mathlib.Omega.{arith}
use lib.ListN.{set}
use Rattle.model.specs.Value.{uuid_of}
use Rattle.model.specs.Rows.{key_of}
use Rattle.inner.specs.Working.{working, place}
use Rattle.garbage.specs.Counts.{Counted}
use Rattle.garbage.proofs.Counting.{counted_none, counted_own, counted_one, place_within, one_room}
use Rattle.garbage.proofs.counts.count_named.Goals as goal

pub returns-in_default : goal.returns-in_default
returns-in_default c =
    let a = c.args in
    counted_none a.n a.rows.now c.requires.ordered.0 (key_of a.table (uuid_of a.atom.now)) a.up a.own a.counts.now (sym (c.find_key-found.ensures []) ∙ c.in_default.is)

pub returns-then-i-own : goal.returns-then-i-own
returns-then-i-own c =
    let key : ℕ = key_of c.args.table (uuid_of c.args.atom.now) in
    let spot : ℕ = c.in-Some.i in
    let found_at_lem : place key (working [] c.args.n c.args.rows.now) ≡ Some spot = sym (c.find_key-found.ensures []) ∙ c.in-Some.is in
    let a = c.args in
    counted_own a.n a.rows.now c.requires.ordered.0 (key) a.up a.own a.counts.now (spot) (found_at_lem) c.if-i-own.true

pub offset_bounds-counts-i : goal.offset_bounds-counts-i
offset_bounds-counts-i c =
    let key : ℕ = key_of c.args.table (uuid_of c.args.atom.now) in
    let spot : ℕ = c.in-Some.i in
    let found_at_lem : place key (working [] c.args.n c.args.rows.now) ≡ Some spot = sym (c.find_key-found.ensures []) ∙ c.in-Some.is in
    let within : spot < c.args.n = let a = c.args in
    place_within a.n a.rows.now c.requires.ordered.0 (key) a.up a.own a.counts.now (spot) (found_at_lem) c.if-i-own.false in
    omega (arith, within, c.requires.ordered.1, c.well_formed)

pub bounds-counts-i : goal.bounds-counts-i
bounds-counts-i c =
    let key : ℕ = key_of c.args.table (uuid_of c.args.atom.now) in
    let spot : ℕ = c.in-Some.i in
    let found_at_lem : place key (working [] c.args.n c.args.rows.now) ≡ Some spot = sym (c.find_key-found.ensures []) ∙ c.in-Some.is in
    let within : spot < c.args.n = let a = c.args in
    place_within a.n a.rows.now c.requires.ordered.0 (key) a.up a.own a.counts.now (spot) (found_at_lem) c.if-i-own.false in
    omega (arith, within, c.requires.ordered.1)

pub moved-d-requires : goal.moved-d-requires
moved-d-requires c =
    let key : ℕ = key_of c.args.table (uuid_of c.args.atom.now) in
    let spot : ℕ = c.in-Some.i in
    let found_at_lem : place key (working [] c.args.n c.args.rows.now) ≡ Some spot = sym (c.find_key-found.ensures []) ∙ c.in-Some.is in
    let a = c.args in
    one_room a.n a.rows.now c.requires.ordered.0 (key) a.up a.own a.counts.now (spot) (found_at_lem) c.if-i-own.false c.requires.room

pub offset_bounds-counts-i-2 : goal.offset_bounds-counts-i-2
offset_bounds-counts-i-2 c =
    let key : ℕ = key_of c.args.table (uuid_of c.args.atom.now) in
    let spot : ℕ = c.in-Some.i in
    let found_at_lem : place key (working [] c.args.n c.args.rows.now) ≡ Some spot = sym (c.find_key-found.ensures []) ∙ c.in-Some.is in
    let within : spot < c.args.n = let a = c.args in
    place_within a.n a.rows.now c.requires.ordered.0 (key) a.up a.own a.counts.now (spot) (found_at_lem) c.if-i-own.false in
    omega (arith, within, c.requires.ordered.1, c.well_formed)

pub bounds-counts-i-2 : goal.bounds-counts-i-2
bounds-counts-i-2 c =
    let key : ℕ = key_of c.args.table (uuid_of c.args.atom.now) in
    let spot : ℕ = c.in-Some.i in
    let found_at_lem : place key (working [] c.args.n c.args.rows.now) ≡ Some spot = sym (c.find_key-found.ensures []) ∙ c.in-Some.is in
    let within : spot < c.args.n = let a = c.args in
    place_within a.n a.rows.now c.requires.ordered.0 (key) a.up a.own a.counts.now (spot) (found_at_lem) c.if-i-own.false in
    omega (arith, within, c.requires.ordered.1)

pub returns-then-d-eq0 : goal.returns-then-d-eq0
returns-then-d-eq0 c =
    let key : ℕ = key_of c.args.table (uuid_of c.args.atom.now) in
    let spot : ℕ = c.in-Some.i in
    let found_at_lem : place key (working [] c.args.n c.args.rows.now) ≡ Some spot = sym (c.find_key-found.ensures []) ∙ c.in-Some.is in
    let counted : let a = c.args in Counted a.up a.n a.rows.now a.own (key ∷ []) a.counts.now (set a.counts.now (spot) c.moved-d.result) = let a = c.args in
    counted_one a.n a.rows.now c.requires.ordered.0 (key) a.up a.own a.counts.now (spot) (found_at_lem) c.if-i-own.false c.requires.ordered.1 c.moved-d.result c.moved-d.ensures in
    counted

pub returns-else-d-eq0 : goal.returns-else-d-eq0
returns-else-d-eq0 c =
    let key : ℕ = key_of c.args.table (uuid_of c.args.atom.now) in
    let spot : ℕ = c.in-Some.i in
    let found_at_lem : place key (working [] c.args.n c.args.rows.now) ≡ Some spot = sym (c.find_key-found.ensures []) ∙ c.in-Some.is in
    let counted : let a = c.args in Counted a.up a.n a.rows.now a.own (key ∷ []) a.counts.now (set a.counts.now (spot) c.moved-d.result) = let a = c.args in
    counted_one a.n a.rows.now c.requires.ordered.0 (key) a.up a.own a.counts.now (spot) (found_at_lem) c.if-i-own.false c.requires.ordered.1 c.moved-d.result c.moved-d.ensures in
    counted
