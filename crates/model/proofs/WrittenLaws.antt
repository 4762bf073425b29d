-- Values as written: what is read from a tree whose strings are UTF-8 is made of well-formed atoms, and a value without a fault meets its type. Assumes nothing.
use Rattle.std.specs.Prelude.{Option, Some, None}
use Rattle.std.proofs.lemmas.Option.{none-some}
use mathlib.Core.Path.{◌≡◌, refl}
use mathlib.Core.Bool.{Bool, true, false, not, ◌&&◌}
use mathlib.Core.List.{List, [], ◌∷◌}
use Prim.Native.Nat.{ℕ, ◌≤◌}
use native.Mathlib.Omega.{arith}
use borrow.Author.Tests.{leb-true, ltb-false, not-true}
use lib.Dec.{leb}
use lib.ListN.{length}
use Rattle.model.specs.Base.{all, any, distinct, ascii}
use Rattle.model.specs.Octets.{eq_bytes}
use Rattle.model.specs.Json.{Json, null, bool, num, str, arr, obj, Items, none as nothing, item, Members, empty, member, Named}
use Rattle.model.specs.Nav.{list_of}
use Rattle.model.specs.Members.{named_of, has_member, named_or, value_or, member_value as last_of}
use Rattle.model.specs.Whole.{whole_of, is_whole, whole_int}
use Rattle.model.specs.Text.{is_word}
use Rattle.model.proofs.GoodTexts.{texts_good, items_good, members_good}
use Rattle.model.specs.Schema.{Base, integer, boolean, text, uuid, Column}
use Rattle.model.specs.Value.{is_utf8, well_atom, byte_atom, int_atom, bool_atom, text_atom, uuid_atom, sorted, value_of, atom_in_limits, all_in_limits, count_in_limits, meets}
use Rattle.model.specs.Faults.{is_fine, check, Judged}
use Rattle.model.specs.Written.{Names, string_in, array_in, object_in, member_named, elements_of, elements_in, bool_in, uuid_in, atom_in, atoms_in, long_atom, fitting, row_fault, insert_fault, written}
use Rattle.model.specs.Operations.{member_as, value_written}
use Rattle.model.specs.declared.Fault.{Fault}
use Rattle.model.specs.declared.Fault.TheVariants.{Fine, Syntax, Resources, Constraint}
use Rattle.model.proofs.Tests.{split, clash, and_l, and_r, or_l, or_r}
use Rattle.model.proofs.Lists.{all_head, all_tail, all_cons}
use Rattle.model.proofs.Atoms.{int_atom_atom, int_atom_well, bool_atom_atom, bool_atom_well, uuid_atom_atom, uuid_atom_well, text_atom_atom, text_atom_well}
use Rattle.model.proofs.Sets.{AtomsOf, atoms_none, atoms_cons, sorted_length, sorted_all, sorted_atoms, sorted_ascending}
use Rattle.model.proofs.Canonical.{value_of_meets}
use Rattle.model.proofs.Utf8.{utf8_octets}
use Rattle.model.proofs.FaultLaws.{check_fine, check_true}

-- what there is, of an option that another one gives
pub then_some : {A B : Type 0} (o : Option A) (f : A → Option B) (b : B) → elim o [ None ↦ None | Some a ↦ f a ] ≡ Some b → (a : A) × (o ≡ Some a) × (f a ≡ Some b)
then_some None f b e = absurd (none-some b e)
then_some (Some a) f b e = (a, refl, e)

pub when_some : {A : Type 0} (t : Bool) (o : Option A) (a : A) → elim t [ true ↦ o | false ↦ None ] ≡ Some a → (t ≡ true) × (o ≡ Some a)
when_some true o a e = (refl, e)
when_some false o a e = absurd (none-some a e)

-- what holds of both sides of a choice
pub either : {A : Type 0} (P : A → Type 0) (b : Bool) {x y : A} → P x → P y → P (elim b [ true ↦ x | false ↦ y ])
either P true f g = f
either P false f g = g

-- ── the parts of a good tree ──
-- members whose values are good
abbrev pub named_good : Named → Bool
named_good m = texts_good m.value

pub string_good : (j : Json) (t : List ℕ) → texts_good j ≡ true → string_in j ≡ Some t → is_utf8 t ≡ true
string_good null t h e = cc
string_good (bool b) t h e = cc
string_good (num s) t h e = cc
string_good (str s) t h e = let p : s ≡ t = cc in rw p at h
string_good (arr xs) t h e = cc
string_good (obj ms) t h e = cc

items_good_lem : (xs : Items) → items_good xs ≡ true → all texts_good (list_of xs) ≡ true
unfolding list_of
items_good_lem nothing h = refl
items_good_lem (item j xs) h = all_cons texts_good j (list_of xs) (and_l (texts_good j) (items_good xs) h) (items_good_lem xs (and_r (texts_good j) (items_good xs) h))

pub array_good : (j : Json) (l : List Json) → texts_good j ≡ true → array_in j ≡ Some l → all texts_good l ≡ true
array_good null l h e = cc
array_good (bool b) l h e = cc
array_good (num s) l h e = cc
array_good (str s) l h e = cc
array_good (arr xs) l h e = let p : list_of xs ≡ l = cc in rw p at (items_good_lem xs h)
array_good (obj ms) l h e = cc

members_good_lem : (ms : Members) → members_good ms ≡ true → all named_good (named_of ms) ≡ true
unfolding named_of
members_good_lem empty h = refl
members_good_lem (member w j ms) h =
    let g : (texts_good j && members_good ms) ≡ true = and_r (is_utf8 w) (texts_good j && members_good ms) h in
    all_cons named_good (record { name = w; value = j }) (named_of ms) (and_l (texts_good j) (members_good ms) g) (members_good_lem ms (and_r (texts_good j) (members_good ms) g))

pub object_good : (j : Json) (l : List Named) → texts_good j ≡ true → object_in j ≡ Some l → all named_good l ≡ true
object_good null l h e = cc
object_good (bool b) l h e = cc
object_good (num s) l h e = cc
object_good (str s) l h e = cc
object_good (arr xs) l h e = cc
object_good (obj ms) l h e = let p : named_of ms ≡ l = cc in rw p at (members_good_lem ms h)

-- ── members by name ──
last_good : (w : List ℕ) (d : Json) (ms : List Named) → texts_good d ≡ true → all named_good ms ≡ true → texts_good (value_or w d ms) ≡ true
unfolding value_or named_or
last_good w d [] g h = g
last_good w d (m ∷ ms) g h =
    last_good w (named_or w d m) ms (split (eq_bytes m.name w) (λ e. rw (named_or, e) (all_head named_good m ms h)) (λ e. rw (named_or, e) g)) (all_tail named_good m ms h)

pub find_good : (w : List ℕ) (ms : List Named) (j : Json) → all named_good ms ≡ true → member_named w ms ≡ Some j → texts_good j ≡ true
unfolding last_of
find_good w ms j h e =
    let p = when_some (has_member w ms) (Some (last_of w ms)) j e in
    let q : last_of w ms ≡ j = cc p.1 in
    rw (← q) (last_good w null ms refl h)

-- a member read as something, from a good tree
pub member_good : {A : Type 0} (read : Json → Option A) (w : List ℕ) (ms : List Named) (a : A) → all named_good ms ≡ true → member_as read w ms ≡ Some a
    → (j : Json) × (texts_good j ≡ true) × (read j ≡ Some a)
member_good read w ms a h e =
    let p = then_some (member_named w ms) read a e in
    (p.0, find_good w ms p.0 h p.1, p.2)

-- ── elements and their atoms ──
pub elements_good : (j : Json) → texts_good j ≡ true → all texts_good (elements_in j) ≡ true
elements_good j h = go (array_in j) refl
  where
    one : all texts_good (j ∷ []) ≡ true
    one = rw h

    set : (b : Json) → texts_good b ≡ true → (o : Option (List Json)) → array_in b ≡ o → all texts_good (elim o [ None ↦ j ∷ [] | Some l ↦ l ]) ≡ true
    set b g None e = one
    set b g (Some l) e = array_good b l g e

    several : (l : List Json) → all texts_good l ≡ true → all texts_good (elements_of j l) ≡ true
    several [] g = one
    several (a ∷ []) g = one
    several (a ∷ b ∷ []) g = either (λ (l : List Json). all texts_good l ≡ true) (is_word (ascii "set") a) (set b (all_head texts_good b [] (all_tail texts_good a (b ∷ []) g)) (array_in b) refl) one
    several (a ∷ b ∷ c ∷ l) g = one

    go : (o : Option (List Json)) → array_in j ≡ o → all texts_good (elim o [ None ↦ j ∷ [] | Some l ↦ elements_of j l ]) ≡ true
    go None e = one
    go (Some l) e = several l (array_good j l h e)

-- an atom as written that is not too long is well formed
pub atom_well : (names : Names) (k : Base) (j : Json) (a : List ℕ) → texts_good j ≡ true → atom_in names k j ≡ Some a → long_atom k a ≡ false → (byte_atom a ≡ true) × (well_atom k a ≡ true)
atom_well names integer j a h e n =
    let p = when_some (is_whole (whole_of j)) (Some (int_atom (whole_int (whole_of j)))) a e in
    let q : int_atom (whole_int (whole_of j)) ≡ a = cc p.1 in
    rw (← q) (int_atom_atom (whole_int (whole_of j)), int_atom_well (whole_int (whole_of j)))
atom_well names boolean j a h e n =
    let p = then_some (bool_in j) (λ (b : Bool). Some (bool_atom b)) a e in
    let q : bool_atom p.0 ≡ a = cc p.2 in
    rw (← q) (bool_atom_atom p.0, bool_atom_well p.0)
atom_well names text j a h e n =
    let p = then_some (string_in j) (λ (t : List ℕ). Some (text_atom t)) a e in
    let q : text_atom p.0 ≡ a = cc p.2 in
    let u : is_utf8 p.0 ≡ true = string_good j p.0 h p.1 in
    let m : long_atom text (text_atom p.0) ≡ false = rw (← q) at n in
    let l : length p.0 ≤ 24 = ltb-false 24 (length p.0) m in
    rw (← q) (text_atom_atom p.0 l (utf8_octets p.0 u), text_atom_well p.0 l u)
atom_well names uuid j a h e n =
    let p = then_some (uuid_in names j) (λ (i : ℕ). Some (uuid_atom i)) a e in
    let q : uuid_atom p.0 ≡ a = cc p.2 in
    rw (← q) (uuid_atom_atom p.0, uuid_atom_well p.0)

pub atoms_well : (names : Names) (k : Base) (js : List Json) (l : List (List ℕ)) → all texts_good js ≡ true → atoms_in names k js ≡ Some l → any (long_atom k) l ≡ false → AtomsOf k l
atoms_well names k [] l h e n =
    let q : ◌≡◌ {A = List (List ℕ)} [] l = cc in
    rw (← q) (atoms_none k)
atoms_well names k (j ∷ js) l h e n =
    let p = then_some (atom_in names k j) (λ (a : List ℕ). elim (atoms_in names k js) [ None ↦ None | Some r ↦ Some (a ∷ r) ]) l e in
    let r = then_some (atoms_in names k js) (λ (r : List (List ℕ)). Some (p.0 ∷ r)) l p.2 in
    let q : p.0 ∷ r.0 ≡ l = cc r.2 in
    let m : any (long_atom k) (p.0 ∷ r.0) ≡ false = rw (← q) at n in
    let w = atom_well names k j p.0 (all_head texts_good j js h) p.1 (or_l (long_atom k p.0) (any (long_atom k) r.0) m) in
    rw (← q) (atoms_cons k p.0 r.0 w.0 w.1 (atoms_well names k js r.0 (all_tail texts_good j js h) r.1 (or_r (long_atom k p.0) (any (long_atom k) r.0) m)))

-- ── a value as written ──
pub record Wrote (k : Base) (judge : List (List ℕ) → Fault) (l : List (List ℕ)) : Type 0 where
  pub judged : is_fine (judge l) ≡ true
  pub atoms : any (long_atom k) l ≡ false → AtomsOf k l

pub written_well : (names : Names) (k : Base) (judge : List (List ℕ) → Fault) (j : Json) → texts_good j ≡ true → is_fine (written names k judge j).fault ≡ true → Wrote k judge (written names k judge j).got
written_well names k judge j h = go (atoms_in names k (elements_in j)) refl
  where
    go : (o : Option (List (List ℕ))) → atoms_in names k (elements_in j) ≡ o
        → let w : Judged (List (List ℕ)) = elim o [ None ↦ record { fault = Syntax; got = [] } | Some l ↦ record { fault = judge l; got = l } ] in
        is_fine w.fault ≡ true → Wrote k judge w.got
    go None e f = absurd (clash false f refl)
    go (Some l) e f = record { judged = f; atoms = atoms_well names k (elements_in j) l (elements_good j h) e }

-- what fits is few and not long
pub fitting_parts : (c : Column) (l : List (List ℕ)) → fitting c l ≡ true → (length l ≤ 4) × (any (long_atom c.base) l ≡ false)
fitting_parts c l h = (leb-true (length l) 4 (and_l (leb (length l) 4) (not (any (long_atom c.base) l)) h), not-true (any (long_atom c.base) l) (and_r (leb (length l) 4) (not (any (long_atom c.base) l)) h))

-- a value in a row meets its column's type
pub value_meets : (names : Names) (c : Column) (j : Json) → texts_good j ≡ true → is_fine (value_written names c j).fault ≡ true → meets c (value_written names c j).got ≡ true
value_meets names c j h f = go (written names c.base (row_fault c) j).got (written_well names c.base (row_fault c) j h f)
  where
    go : (l : List (List ℕ)) → Wrote c.base (row_fault c) l → meets c (value_of (sorted c.base l)) ≡ true
    go l w =
        let p = check_fine (fitting c l) Resources (check (distinct l && all_in_limits c l && count_in_limits c (length l)) Constraint Fine) refl w.judged in
        let q : (distinct l && all_in_limits c l && count_in_limits c (length l)) ≡ true = check_true (distinct l && all_in_limits c l && count_in_limits c (length l)) Constraint refl p.1 in
        let r = fitting_parts c l p.0 in
        let x = w.atoms r.1 in
        let d = and_l (distinct l && all_in_limits c l) (count_in_limits c (length l)) q in
        let n = sorted_length c.base l in
        value_of_meets c (sorted c.base l) (omega arith) (sorted_atoms c.base l x) (sorted_ascending c.base l x (and_l (distinct l) (all_in_limits c l) d))
        (rw n (and_r (distinct l && all_in_limits c l) (count_in_limits c (length l)) q))
        (sorted_all c.base (atom_in_limits c c.base) l (and_r (distinct l) (all_in_limits c l) d))

-- the atoms that a mutation inserts are well formed and in the limits
pub insert_well : (names : Names) (c : Column) (j : Json) → texts_good j ≡ true → is_fine (written names c.base (insert_fault c) j).fault ≡ true
    → AtomsOf c.base (written names c.base (insert_fault c) j).got × (all_in_limits c (written names c.base (insert_fault c) j).got ≡ true)
insert_well names c j h f = go (written names c.base (insert_fault c) j).got (written_well names c.base (insert_fault c) j h f)
  where
    go : (l : List (List ℕ)) → Wrote c.base (insert_fault c) l → AtomsOf c.base l × (all_in_limits c l ≡ true)
    go l w =
        let b : Bool = distinct l && all_in_limits c l && leb (length l) c.max in
        let p = check_fine (fitting c l) Resources (check b Constraint Fine) refl w.judged in
        let q : b ≡ true = check_true b Constraint refl p.1 in
        (w.atoms (fitting_parts c l p.0).1, and_r (distinct l) (all_in_limits c l) (and_l (distinct l && all_in_limits c l) (leb (length l) c.max) q))
