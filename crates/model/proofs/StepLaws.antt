-- A step, one mutation on one row, that has no fault leaves a row whose values meet their types. Assumes nothing.
use Rattle.std.specs.Prelude.{Option, Some, None}
use Rattle.std.proofs.lemmas.Option.{none-some}
use mathlib.Core.Path.{◌≡◌, refl, ◌∙◌, ap}
use mathlib.Core.Bool.{Bool, true, false, not, ◌&&◌}
use mathlib.Core.List.{List, [], ◌∷◌, map}
use Prim.Native.Nat.{ℕ, zero, suc, ◌≤◌}
use native.Mathlib.Omega.{arith}
use borrow.Author.Tests.{leb-true, le-leb}
use lib.Dec.{leb}
use lib.IntN.{ℤ}
use lib.ListN.{length, get_or, set}
use Rattle.model.specs.Base.{all, nth, member, distinct}
use Rattle.model.specs.Json.{Json}
use Rattle.model.proofs.GoodTexts.{texts_good}
use Rattle.model.specs.Schema.{Base, integer, boolean, text, uuid, Column, column_named}
use Rattle.model.specs.Value.{Value, elements, int_atom, ascending, sorted, value_of, union, without, atom_in_limits, all_in_limits, meets}
use Rattle.model.specs.Rows.{Row, column_value}
use Rattle.model.specs.Faults.{is_fine, check, Judged}
use Rattle.model.specs.Written.{Names, string_in, array_in, written}
use Rattle.model.specs.Conditions.{Triple, triple_of, triple_items, triple_in, is_integer_base, first_int}
use Rattle.model.specs.Mutations.{Mutation, suits, mutation_fault, no_mutation, mutation_by, mutation_at, mutation_of, mutator_named, read_mutation, read_mutations, divides, is_zero, is_empty, in64, results, arithmetic, inserted, deleted, mutated, mutate_once, steps}
use Rattle.model.proofs.Order.{Meets}
use Rattle.model.specs.declared.Fault.TheVariants.{Fine, Resources, Constraint, Domain, Range}
use Rattle.model.specs.declared.Mutator.{Mutator}
use Rattle.model.specs.declared.Mutator.TheVariants.{Add, Subtract, Multiply, Divide, Remainder, Insert, Delete}
use Rattle.model.proofs.Tests.{split, clash, and_l, and_r}
use Rattle.model.proofs.Lists.{all_head, all_tail, all_keep}
use Rattle.model.proofs.Atoms.{int_atom_atom, int_atom_well}
use Rattle.model.proofs.Sets.{AtomsOf, atoms_none, atoms_cons, sorted_length, sorted_all, sorted_atoms, sorted_ascending, union_all, union_atoms, union_ascending, union_length, without_atoms, without_ascending, without_length}
use Rattle.model.proofs.Canonical.{canonical, meets_parts, value_of_meets}
use Rattle.model.proofs.FaultLaws.{check_fine, check_true, earlier_fine}
use Rattle.model.proofs.WrittenLaws.{then_some, array_good, insert_well}

-- ── the elements of a value that meets its type ──
record Held (c : Column) (xs : List (List ℕ)) : Type 0 where
  pub few : length xs ≤ 4
  pub least : c.min ≤ length xs
  pub most : length xs ≤ c.max
  pub atoms : AtomsOf c.base xs
  pub up : ascending c.base xs ≡ true
  pub within : all_in_limits c xs ≡ true

held : (c : Column) (v : Value) → meets c v ≡ true → Held c (elements v)
held c v h =
    let m = meets_parts c v h in
    let k = canonical c v m.canonical in
    let n = k.size in
    let l = leb-true c.min v.count (and_l (leb c.min v.count) (leb v.count c.max) m.count) in
    let g = leb-true v.count c.max (and_r (leb c.min v.count) (leb v.count c.max) m.count) in
    record { few = omega (arith, k.few); least = omega arith; most = omega arith; atoms = k.atoms; up = k.up; within = m.within }

meets_held : (c : Column) (xs : List (List ℕ)) → Held c xs → meets c (value_of xs) ≡ true
meets_held c xs k =
    value_of_meets c xs k.few k.atoms k.up (rw (le-leb c.min (length xs) k.least, le-leb (length xs) c.max k.most)) k.within

-- ── arithmetic ──
results_length : (m : Mutator) (b : ℤ) (xs : List (List ℕ)) → length (map int_atom (results m b xs)) ≡ length xs
results_length m b [] = refl
results_length m b (x ∷ xs) = ap suc (results_length m b xs)

ints_atoms : (zs : List ℤ) → AtomsOf integer (map int_atom zs)
ints_atoms [] = atoms_none integer
ints_atoms (z ∷ zs) = atoms_cons integer (int_atom z) (map int_atom zs) (int_atom_atom z) (int_atom_well z) (ints_atoms zs)

base_is : (b : Base) → is_integer_base b ≡ true → b ≡ integer
base_is integer h = refl
base_is boolean h = cc
base_is text h = cc
base_is uuid h = cc

arithmetic_held : (c : Column) (m : Mutator) (b : ℤ) (xs : List (List ℕ)) → is_integer_base c.base ≡ true → Held c xs → is_fine (arithmetic c m b xs).fault ≡ true → Held c (arithmetic c m b xs).got
arithmetic_held c m b xs i k f =
    let l : List (List ℕ) = map int_atom (results m b xs) in
    let e : c.base ≡ integer = base_is c.base i in
    let t : Bool = distinct l && all_in_limits c l in
    let p = check_fine (not (divides m && is_zero b && not (is_empty xs))) Domain (check (all in64 (results m b xs)) Range (check t Constraint Fine)) refl f in
    let q = check_fine (all in64 (results m b xs)) Range (check t Constraint Fine) refl p.1 in
    let d : t ≡ true = check_true t Constraint refl q.1 in
    let x : AtomsOf integer l = ints_atoms (results m b xs) in
    let n : length (sorted integer l) ≡ length xs = sorted_length integer l ∙ results_length m b xs in
    record {
      few = omega (arith, k.few);
      least = omega (arith, k.least);
      most = omega (arith, k.most);
      atoms = rw e (sorted_atoms integer l x);
      up = rw e (sorted_ascending integer l x (and_l (distinct l) (all_in_limits c l) d));
      within = sorted_all integer (atom_in_limits c c.base) l (and_r (distinct l) (all_in_limits c l) d);
    }

-- ── insert and delete ──
inserted_held : (c : Column) (l xs : List (List ℕ)) → AtomsOf c.base l → all_in_limits c l ≡ true → Held c xs → is_fine (inserted c l xs).fault ≡ true → Held c (inserted c l xs).got
inserted_held c l xs x w k f =
    let u : List (List ℕ) = union c.base xs l in
    let p = check_fine (leb (length u) 4) Resources (check (leb (length u) c.max) Constraint Fine) refl f in
    let q : leb (length u) c.max ≡ true = check_true (leb (length u) c.max) Constraint refl p.1 in
    record {
      few = leb-true (length u) 4 p.0;
      least = omega (arith, k.least, union_length c.base xs l);
      most = leb-true (length u) c.max q;
      atoms = union_atoms c.base xs l k.atoms x;
      up = union_ascending c.base xs l k.atoms x k.up;
      within = union_all c.base (atom_in_limits c c.base) xs l k.within w;
    }

deleted_held : (c : Column) (l xs : List (List ℕ)) → Held c xs → is_fine (deleted c l xs).fault ≡ true → Held c (deleted c l xs).got
deleted_held c l xs k f =
    let n = without_length l xs in
    record {
      few = omega (arith, k.few);
      least = leb-true c.min (length (without l xs)) (check_true (leb c.min (length (without l xs))) Constraint refl f);
      most = omega (arith, k.most);
      atoms = without_atoms c.base l xs k.atoms;
      up = without_ascending c.base l xs k.up;
      within = all_keep (atom_in_limits c c.base) (λ (a : List ℕ). not (member a l)) xs k.within;
    }

-- ── a mutation as read ──
-- what is known of the atoms of an insert
abbrev pub Inserts : Column → Mutator → List (List ℕ) → Type 0
Inserts c Add l = Unit
Inserts c Subtract l = Unit
Inserts c Multiply l = Unit
Inserts c Divide l = Unit
Inserts c Remainder l = Unit
Inserts c Insert l = AtomsOf c.base l × (all_in_limits c l ≡ true)
Inserts c Delete l = Unit

-- a mutation on the columns cs: it has the column at its place, which its mutator suits
pub record ReadWell (cs : List Column) (m : Mutation) : Type 0 where
  pub at : nth cs m.place ≡ Some m.column
  pub suited : suits m.column m.mutator ≡ true
  pub inserts : Inserts m.column m.mutator m.atoms

abbrev pub AllReadWell : List Column → List Mutation → Type 0
AllReadWell cs [] = Unit
AllReadWell cs (m ∷ ms) = ReadWell cs m × AllReadWell cs ms

mutated_held : (c : Column) (m : Mutator) (l xs : List (List ℕ)) → suits c m ≡ true → Inserts c m l → Held c xs → is_fine (mutated c m l xs).fault ≡ true → Held c (mutated c m l xs).got
mutated_held c Add l xs s w k f = arithmetic_held c Add (first_int l) xs s k f
mutated_held c Subtract l xs s w k f = arithmetic_held c Subtract (first_int l) xs s k f
mutated_held c Multiply l xs s w k f = arithmetic_held c Multiply (first_int l) xs s k f
mutated_held c Divide l xs s w k f = arithmetic_held c Divide (first_int l) xs s k f
mutated_held c Remainder l xs s w k f = arithmetic_held c Remainder (first_int l) xs s k f
mutated_held c Insert l xs s w k f = inserted_held c l xs w.0 w.1 k f
mutated_held c Delete l xs s w k f = deleted_held c l xs k f

-- ── a row's columns ──
pub column_meets : (cs : List Column) (vs : List Value) (k : ℕ) (c : Column) (d : Value) → Meets cs vs → nth cs k ≡ Some c → meets c (get_or vs k d) ≡ true
column_meets [] vs k c d h e = absurd (none-some c e)
column_meets (x ∷ cs) [] k c d h e = absurd h
column_meets (x ∷ cs) (v ∷ vs) zero c d h e = let q : x ≡ c = cc in rw (← q) h.0
column_meets (x ∷ cs) (v ∷ vs) (suc k) c d h e = column_meets cs vs k c d h.1 e

pub set_meets : (cs : List Column) (vs : List Value) (k : ℕ) (c : Column) (v : Value) → Meets cs vs → nth cs k ≡ Some c → meets c v ≡ true → Meets cs (set vs k v)
set_meets [] [] k c v h e m = tt
set_meets [] (x ∷ vs) k c v h e m = absurd h
set_meets (x ∷ cs) [] k c v h e m = absurd h
set_meets (x ∷ cs) (y ∷ vs) zero c v h e m = let q : x ≡ c = cc in (rw q m, h.1)
set_meets (x ∷ cs) (y ∷ vs) (suc k) c v h e m = (h.0, set_meets cs vs k c v h.1 e m)

-- ── a step, and steps ──
pub step_meets : (cs : List Column) (m : Mutation) (r : Row) → ReadWell cs m → Meets cs r.columns → is_fine (mutate_once m r).fault ≡ true → Meets cs (mutate_once m r).got.columns
step_meets cs m r w h f =
    let c : Column = m.column in
    let old : meets c (column_value r m.place) ≡ true = column_meets cs r.columns m.place c (value_of []) h w.at in
    let xs : List (List ℕ) = elements (column_value r m.place) in
    let k = mutated_held c m.mutator m.atoms xs w.suited w.inserts (held c (column_value r m.place) old) f in
    set_meets cs r.columns m.place c (value_of (mutated c m.mutator m.atoms xs).got) h w.at (meets_held c (mutated c m.mutator m.atoms xs).got k)

-- a row after a change: in its table, with its id, and its values meet their types
pub record Stays (cs : List Column) (r q : Row) : Type 0 where
  pub table : q.table ≡ r.table
  pub id : q.id ≡ r.id
  pub meets : Meets cs q.columns

pub steps_stay : (cs : List Column) (ms : List Mutation) (r : Row) → AllReadWell cs ms → Meets cs r.columns → is_fine (steps ms r).fault ≡ true → Stays cs r (steps ms r).got
steps_stay cs [] r w h f = record { table = refl; id = refl; meets = h }
steps_stay cs (m ∷ ms) r w h f = go (λ k. steps_stay cs ms (mutate_once m r).got w.1 k) (is_fine (mutate_once m r).fault) refl f
  where
    go : (Meets cs (mutate_once m r).got.columns → is_fine (steps ms (mutate_once m r).got).fault ≡ true → Stays cs (mutate_once m r).got (steps ms (mutate_once m r).got).got)
        → (b : Bool) → is_fine (mutate_once m r).fault ≡ b → let q : Judged Row = elim b [ true ↦ steps ms (mutate_once m r).got | false ↦ mutate_once m r ] in is_fine q.fault ≡ true → Stays cs r q.got
    go rest true e g = let k = rest (step_meets cs m r w.0 h e) g in record { table = k.table; id = k.id; meets = k.meets }
    go rest false e g = absurd (clash (is_fine (mutate_once m r).fault) g e)

-- ── what is read of a request ──
triple_good : (l : List Json) (t : Triple) → all texts_good l ≡ true → triple_items l ≡ Some t → texts_good t.value ≡ true
triple_good [] t h e = absurd (none-some t e)
triple_good (a ∷ []) t h e = absurd (none-some t e)
triple_good (a ∷ b ∷ []) t h e = absurd (none-some t e)
triple_good (a ∷ b ∷ c ∷ []) t h e = go (string_in a) (string_in b) e
  where
    good : texts_good c ≡ true
    good = all_head texts_good c [] (all_tail texts_good b (c ∷ []) (all_tail texts_good a (b ∷ c ∷ []) h))

    go : (n w : Option (List ℕ)) → triple_of n w c ≡ Some t → texts_good t.value ≡ true
    go None w q = absurd (none-some t q)
    go (Some n) None q = absurd (none-some t q)
    go (Some n) (Some w) q = let z : record { name = n; word = w; value = c } ≡ t = cc in rw (← z) good
triple_good (a ∷ b ∷ c ∷ d ∷ l) t h e = absurd (none-some t e)

inserts_well : (names : Names) (c : Column) (m : Mutator) (j : Json) → texts_good j ≡ true → is_fine (written names c.base (mutation_fault c m) j).fault ≡ true → Inserts c m (written names c.base (mutation_fault c m) j).got
inserts_well names c Add j h f = tt
inserts_well names c Subtract j h f = tt
inserts_well names c Multiply j h f = tt
inserts_well names c Divide j h f = tt
inserts_well names c Remainder j h f = tt
inserts_well names c Insert j h f = insert_well names c j h f
inserts_well names c Delete j h f = tt

no_mutation_lem : {P : Type 0} → is_fine no_mutation.fault ≡ true → P
no_mutation_lem h = absurd (clash false h refl)

module _ (names : Names) (cs : List Column) where
  by_well : (j : Json) (k : ℕ) (m : Mutator) (c : Column) → texts_good j ≡ true → nth cs k ≡ Some c → is_fine (mutation_by names j k m c).fault ≡ true → ReadWell cs (mutation_by names j k m c).got
  by_well j k m c h e f = split (suits c m)
      (λ s.
      let p = earlier_fine (written names c.base (mutation_fault c m) j).fault (check c.mutable Constraint Fine) (rw s at f) in
      rw s (record { at = e; suited = s; inserts = inserts_well names c m j h p.0 }))
      (λ s. no_mutation_lem (rw s at f))

  at_well : (j : Json) (k : ℕ) (m : Mutator) → texts_good j ≡ true → is_fine (mutation_at names cs j k m).fault ≡ true → ReadWell cs (mutation_at names cs j k m).got
  at_well j k m h f = go (nth cs k) refl f
    where
      go : (o : Option Column) → nth cs k ≡ o → let q : Judged Mutation = elim o [ None ↦ no_mutation | Some c ↦ mutation_by names j k m c ] in is_fine q.fault ≡ true → ReadWell cs q.got
      go None e g = no_mutation_lem g
      go (Some c) e g = by_well j k m c h e g

  of_well : (j : Json) (k : Option ℕ) (m : Option Mutator) → texts_good j ≡ true → is_fine (mutation_of names cs j k m).fault ≡ true → ReadWell cs (mutation_of names cs j k m).got
  of_well j None m h f = no_mutation_lem f
  of_well j (Some k) None h f = no_mutation_lem f
  of_well j (Some k) (Some m) h f = at_well j k m h f

  pub mutation_well : (j : Json) → texts_good j ≡ true → is_fine (read_mutation names cs j).fault ≡ true → ReadWell cs (read_mutation names cs j).got
  mutation_well j h f = go (triple_in j) refl f
    where
      good : (t : Triple) → triple_in j ≡ Some t → texts_good t.value ≡ true
      good t e = let p = then_some (array_in j) triple_items t e in triple_good p.0 t (array_good j p.0 h p.1) p.2

      go : (o : Option Triple) → triple_in j ≡ o
          → let q : Judged Mutation = elim o [ None ↦ no_mutation | Some t ↦ mutation_of names cs t.value (column_named cs t.name) (mutator_named t.word) ] in
          is_fine q.fault ≡ true → ReadWell cs q.got
      go None e g = no_mutation_lem g
      go (Some t) e g = of_well t.value (column_named cs t.name) (mutator_named t.word) (good t e) g

  pub mutations_well : (js : List Json) → all texts_good js ≡ true → is_fine (read_mutations names cs js).fault ≡ true → AllReadWell cs (read_mutations names cs js).got
  mutations_well [] h f = tt
  mutations_well (j ∷ js) h f =
      let p = earlier_fine (read_mutation names cs j).fault (read_mutations names cs js).fault f in
      (mutation_well j (all_head texts_good j js h) p.0, mutations_well js (all_tail texts_good j js h) p.1)
