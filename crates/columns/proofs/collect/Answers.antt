-- `columns::collect` meets its contract.
use Rattle.std.specs.Prelude.{Option}
use mathlib.Core.Path.{◌≡◌, refl, sym, ap, subst, ◌∙◌}
use mathlib.Core.Bool.{true}
use mathlib.Core.List.{List}
use Prim.Native.Nat.{ℕ, ◌≤◌, ◌<◌}
use native.Mathlib.Omega.{arith}
use lib.ListN.{length}
use Rattle.inner.specs.Positions.{tree_at, left}
use Rattle.model.specs.Nav.{is_object}
use Rattle.model.specs.SchemaText.{is_id}
use Rattle.model.specs.Value.{text_of}
use Rattle.nav.proofs.Walk.{pass_less}
use Rattle.names.specs.Names.{name_cell}
use Rattle.columns.proofs.Gathering.{not_object, gather_start, gather_end, name_bad, same_places, too_many, in_six, gather_more}
use Rattle.columns.proofs.collect.Goals as goal

pub loop-g-init : goal.loop-g-init
loop-g-init c =
    rw c.first-g.ensures (gather_start c.args.text.now c.args.most c.args.at (sym (c.is_kind-o.ensures ∙ ap is_object c.kind_at-k.ensures) ∙ c.if-not-o.false) c.args.places.now _ c.requires.places_len refl c.requires.at_value)

pub returns-then-left-most : goal.returns-then-left-most
returns-then-left-most c =
    let small : c.args.most ≤ 6 = c.requires.most_le_most_columns in
    let s : List ℕ = c.args.text.now in
    let p : ℕ = c.in-Some.p in
    let id_allowed : is_id (text_of (name_cell (tree_at s p))) ≡ c.is_id-id.result = sym (c.is_id-id.ensures ∙ ap is_id (c.text_of.ensures ∙ ap text_of c.name_at-name.ensures)) in
    let id_there : is_id (text_of (name_cell (tree_at (s) (p)))) ≡ true = id_allowed ∙ c.if-id.true in
    too_many (small) c.loop-g.invariant c.in-Some.is (id_there) c.name_at-name.ensures c.forget-left.ensures _ c.if-left-most.true

pub bounds-places-left : goal.bounds-places-left
bounds-places-left c =
    let small : c.args.most ≤ 6 = c.requires.most_le_most_columns in
    let s : List ℕ = c.args.text.now in
    let p : ℕ = c.in-Some.p in
    let id_allowed : is_id (text_of (name_cell (tree_at s p))) ≡ c.is_id-id.result = sym (c.is_id-id.ensures ∙ ap is_id (c.text_of.ensures ∙ ap text_of c.name_at-name.ensures)) in
    let id_there : is_id (text_of (name_cell (tree_at (s) (p)))) ≡ true = id_allowed ∙ c.if-id.true in
    let places_six : length c.forget-left.new.places ≡ 6 = same_places (small) c.loop-g.invariant c.in-Some.is id_there c.name_at-name.ensures c.forget-left.ensures in
    let room : (c.forget-left.result ≡ c.args.most → ⊥) → c.forget-left.result < 6 = in_six (small) c.loop-g.invariant c.in-Some.is id_there c.name_at-name.ensures c.forget-left.ensures in
    let room_left : c.forget-left.result < 6 = room c.if-left-most.false in
    omega (arith, room_left, places_six)

pub bounds-names-left : goal.bounds-names-left
bounds-names-left c =
    let small : c.args.most ≤ 6 = c.requires.most_le_most_columns in
    let s : List ℕ = c.args.text.now in
    let p : ℕ = c.in-Some.p in
    let id_allowed : is_id (text_of (name_cell (tree_at s p))) ≡ c.is_id-id.result = sym (c.is_id-id.ensures ∙ ap is_id (c.text_of.ensures ∙ ap text_of c.name_at-name.ensures)) in
    let id_there : is_id (text_of (name_cell (tree_at (s) (p)))) ≡ true = id_allowed ∙ c.if-id.true in
    let room : (c.forget-left.result ≡ c.args.most → ⊥) → c.forget-left.result < 6 = in_six (small) c.loop-g.invariant c.in-Some.is id_there c.name_at-name.ensures c.forget-left.ensures in
    let room_left : c.forget-left.result < 6 = room c.if-left-most.false in
    room_left

pub returns-else-id : goal.returns-else-id
returns-else-id c =
    let small : c.args.most ≤ 6 = c.requires.most_le_most_columns in
    let s : List ℕ = c.args.text.now in
    let p : ℕ = c.in-Some.p in
    let id_allowed : is_id (text_of (name_cell (tree_at s p))) ≡ c.is_id-id.result = sym (c.is_id-id.ensures ∙ ap is_id (c.text_of.ensures ∙ ap text_of c.name_at-name.ensures)) in
    name_bad (small) c.loop-g.invariant c.in-Some.is (id_allowed ∙ c.if-id.false)

pub loop-g-smaller : goal.loop-g-smaller
loop-g-smaller c =
    let s : List ℕ = c.args.text.now in
    subst (λ (x : Option ℕ). left (s) x < left (s) c.loop-g.g) (sym c.next_member-g.ensures) (pass_less (s) c.in-Some.is)

pub loop-g-preserved : goal.loop-g-preserved
loop-g-preserved c =
    let small : c.args.most ≤ 6 = c.requires.most_le_most_columns in
    let s : List ℕ = c.args.text.now in
    let p : ℕ = c.in-Some.p in
    let id_allowed : is_id (text_of (name_cell (tree_at s p))) ≡ c.is_id-id.result = sym (c.is_id-id.ensures ∙ ap is_id (c.text_of.ensures ∙ ap text_of c.name_at-name.ensures)) in
    let id_there : is_id (text_of (name_cell (tree_at (s) (p)))) ≡ true = id_allowed ∙ c.if-id.true in
    rw c.next_member-g.ensures (gather_more (small) c.loop-g.invariant c.in-Some.is (id_there) c.name_at-name.ensures c.forget-left.ensures c.if-left-most.false)

pub returns : goal.returns
returns c =
    let small : c.args.most ≤ 6 = c.requires.most_le_most_columns in
    gather_end (small) c.loop-g.invariant c.in_default.is

pub returns-then-not-o : goal.returns-then-not-o
returns-then-not-o c =
    not_object c.requires.most_le_most_columns c.args.places.now (sym (c.is_kind-o.ensures ∙ ap is_object c.kind_at-k.ensures) ∙ c.if-not-o.true)
