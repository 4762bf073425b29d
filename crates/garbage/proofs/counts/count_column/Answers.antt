-- `garbage::counts::count_column` meets its contract.
use Rattle.std.specs.Prelude.{Option, Some, None}
use mathlib.Core.Path.{◌≡◌, sym, ap, ◌∙◌, subst}
use mathlib.Core.List.{List}
use Prim.Native.Nat.{ℕ, min}
use native.Mathlib.Omega.{arith}
use lib.ListN.{take}
use Rattle.model.specs.Value.{Value, elements}
use Rattle.model.specs.Commit.{keys_of}
use Rattle.inner.specs.Working.{value_in}
use Rattle.references.proofs.Links.{elements_few}
use Rattle.garbage.specs.Counts.{Room, Counted}
use Rattle.garbage.proofs.Counting.{counted_nothing}
use Rattle.garbage.proofs.counts.count_column.Goals as goal

pub count_atoms-requires : goal.count_atoms-requires
count_atoms-requires c =
    let cell : Value = value_in c.args.c c.args.row.now in
    let table : ℕ = c.in-Some.t in
    let first : List (List ℕ) = take c.size.result c.atoms_in.result.now in
    let same : keys_of c.args.to (elements cell) ≡ keys_of (Some table) first = let p = c.atoms_in.ensures in
    let n : c.size.result ≡ min cell.count 4 = c.size.ensures ∙ ap (λ (k : ℕ). min k 4) c.count_of.ensures in
    ap (λ (o : Option ℕ). keys_of o (elements cell)) c.in-Some.is
    ∙ ap (keys_of (Some table)) (sym (elements_few cell c.atoms_in.result.now c.size.result p.0 p.1 n)) in
    let a = c.args in
    let p = c.atoms_in.ensures in
    record { count_in_bounds = (omega (arith, c.size.ensures, p.1), c.requires.c_lt_most_columns.1, c.requires.c_lt_most_columns.2); room = subst (λ (l : List ℕ). Room a.up a.n a.rows.now a.own l a.counts.now) (same) c.requires.room }

pub returns-in-Some : goal.returns-in-Some
returns-in-Some c =
    let cell : Value = value_in c.args.c c.args.row.now in
    let table : ℕ = c.in-Some.t in
    let first : List (List ℕ) = take c.size.result c.atoms_in.result.now in
    let same : keys_of c.args.to (elements cell) ≡ keys_of (Some table) first = let p = c.atoms_in.ensures in
    let n : c.size.result ≡ min cell.count 4 = c.size.ensures ∙ ap (λ (k : ℕ). min k 4) c.count_of.ensures in
    ap (λ (o : Option ℕ). keys_of o (elements cell)) c.in-Some.is
    ∙ ap (keys_of (Some table)) (sym (elements_few cell c.atoms_in.result.now c.size.result p.0 p.1 n)) in
    let a = c.args in
    subst (λ (l : List ℕ). Counted a.up a.n a.rows.now a.own l a.counts.now c.count_atoms.new.counts) (sym (same)) c.count_atoms.ensures

pub returns-in-None : goal.returns-in-None
returns-in-None c =
    let a = c.args in
    let e : a.to ≡ None = c.in-None.is in
    subst (λ (o : Option ℕ). Counted a.up a.n a.rows.now a.own (keys_of o (elements (value_in a.c a.row.now))) a.counts.now a.counts.now) (sym e) (counted_nothing a.up a.n a.rows.now a.own a.counts.now)
