-- The items of an array or object from a position on, and that they are the tree's. Assumes nothing.
use Rattle.std.specs.Prelude.{Ok, Err}
use Rattle.std.specs.declared.ops.ControlFlow.TheVariants.{Continue, Break}
use Rattle.model.specs.Scan.{Read, Next}
use Rattle.std.specs.Prelude.{Option, Some, None}
use mathlib.Core.Path.{◌≡◌, refl, sym, ap, subst, ◌∙◌}
use mathlib.Core.List.{List, [], ◌∷◌}
use mathlib.Core.Bool.{Bool, true, false}
use Prim.Native.Nat.{ℕ, zero, suc, ◌+◌, ◌<◌, ◌≤◌}
use native.Mathlib.Omega.{arith}
use lib.ListN.{length}
use lib.Dec.{eqb, lit<}
use borrow.Author.Tests.{eq-eqb}
use Rattle.model.specs.declared.Open.TheVariants.{Object}
use Rattle.model.specs.Scan.{byte, Parsed, and_then, run, spaces_at}
use Rattle.model.specs.Json.{Json, arr, obj, items, members, key_at, after_item, item_turn, list_at, array_at, member_at, object_at, opens, dispatch, value_at}
use Rattle.scan.proofs.Past.{Past, PastNext}
use Rattle.scan.proofs.Enough.{enough, run_on, after_past, value_past, member_past, spaces_ge}
use Rattle.model.specs.Nav.{is_read}
use Rattle.inner.specs.Positions.{well_at, tree_at, found_of, first_from, first_of, next_of, next_item, next_member, rest_of, fine_of, items_from, items_fine, members_from, members_fine, left}
use Rattle.json_reader.proofs.Mono.{level_more, array_more, object_more}

pub not_both : {b : Bool} → b ≡ true → b ≡ false → ⊥
not_both t f = let z : ◌≡◌ {A = ℕ} 0 1 = cc in omega arith

-- a reading that ended
pub end_of : (r : Read) → is_read r ≡ true → (e : ℕ) × (r ≡ Ok e)
unfolding is_read
end_of (Ok e) h = (e, refl)
end_of (Err e) h = absurd (let z : ◌≡◌ {A = ℕ} 0 1 = cc in omega arith)

module _ {A : Type 0} (p : ℕ → Parsed A) (s : List ℕ) (close : ℕ) (small : close < 256) (past : (i : ℕ) → Past s (suc i) (p i).read) where
  abbrev from : ℕ → Parsed (List A)
  from i = run (item_turn p s close) (suc (length s)) i

  abbrev rest : Option ℕ → List A
  rest = rest_of p s close

  abbrev fine : Option ℕ → Bool
  fine = fine_of p s close

  abbrev next : ℕ → Option ℕ
  next i = next_of p s close i

  on : (i e : ℕ) → after_item s close (p i).read ≡ Continue e → (suc i ≤ e) × (e ≤ length s)
  on = run_on s (item_turn p s close) (λ i. after_past s close (suc i) small (p i).read (past i))

  same : (e m : ℕ) → 0 < e → 0 < length s → length s ≤ m → run (item_turn p s close) m e ≡ from e
  same e m h k g = enough (item_turn p s close) (length s) on m (suc (length s)) e (omega arith) (omega arith)

  -- the laws: an item and the rest
  pub rest_at : (i : ℕ) → rest (Some i) ≡ (p i).tree ∷ rest (next i)
  unfolding run found_of
  rest_at i = go (after_item s close (p i).read) refl
    where
      go : (t : Next) → after_item s close (p i).read ≡ t → (from i).tree ≡ (p i).tree ∷ rest (next i)
      go (Continue e) t = let o = on i e t in let z = same e (length s) (omega arith) (omega arith) (omega arith) in rw (run, found_of, t, z)
      go (Break r) t = rw (run, found_of, t)

  pub rest_none : rest None ≡ []
  rest_none = refl

  pub fine_at : (i : ℕ) → fine (Some i) ≡ true → (is_read (p i).read ≡ true) × (fine (next i) ≡ true)
  unfolding run found_of is_read after_item
  fine_at i h = go (p i).read refl
    where
      turn : (t : Next) → after_item s close (p i).read ≡ t → fine (next i) ≡ true
      turn (Continue e) t = let o = on i e t in let z = same e (length s) (omega arith) (omega arith) (omega arith) in rw (found_of, t) (rw (run, t, z) at h)
      turn (Break r) t = rw (found_of, t)

      go : (r : Read) → (p i).read ≡ r → (is_read (p i).read ≡ true) × (fine (next i) ≡ true)
      go (Ok e) r = (rw r, turn (after_item s close (p i).read) refl)
      go (Err e) r = absurd (let k : false ≡ true = rw (run, r) at h in let z : ◌≡◌ {A = ℕ} 0 1 = cc in omega arith)

  some : (n j : ℕ) → is_read (run (item_turn p s close) n j).read ≡ true → 0 < n
  unfolding run is_read
  some zero j h = absurd (let z : ◌≡◌ {A = ℕ} 0 1 = cc in omega arith)
  some (suc n) j h = omega arith

  -- a list that is read well is its first item and the rest
  pub list_is : (j : ℕ) → 0 < j → is_read (list_at p s close j).read ≡ true → ((list_at p s close j).tree ≡ rest (first_from s close j)) × (fine (first_from s close j) ≡ true)
  unfolding list_at first_from
  list_is j h w = go (eqb (byte s j) close) refl
    where
      go : (b : Bool) → eqb (byte s j) close ≡ b → ((list_at p s close j).tree ≡ rest (first_from s close j)) × (fine (first_from s close j) ≡ true)
      go true t = (rw (list_at, first_from, t), rw (first_from, t))
      go false t =
          let k : is_read (run (item_turn p s close) (length s) j).read ≡ true = rw (list_at, t) at w in
          let z = same j (length s) h (some (length s) j k) (omega arith) in
          (rw (list_at, first_from, t) (ap (λ x. x.tree) z), rw (first_from, t) (rw z at k))

-- an array's items and an object's members, where 12 levels may be opened
module _ (s : List ℕ) where
  pub items_at : (i : ℕ) → items_from s (Some i) ≡ tree_at s i ∷ items_from s (next_item s i)
  unfolding tree_at next_item items_from
  items_at = rest_at (value_at 12 s) s 93 (lit< tt) (value_past s 12)

  pub items_none : items_from s None ≡ []
  unfolding items_from
  items_none = rest_none (value_at 12 s) s 93 (lit< tt) (value_past s 12)

  pub items_fine_lem : (i : ℕ) → items_fine s (Some i) ≡ true → (well_at s i ≡ true) × (items_fine s (next_item s i) ≡ true)
  unfolding well_at next_item items_fine
  items_fine_lem = fine_at (value_at 12 s) s 93 (lit< tt) (value_past s 12)

  -- the theorems: an array that is read well is its items, and each is read well; and so an object
  array_read : (i : ℕ) → is_read (array_at (value_at 12 s) s (i + 1)).read ≡ true →
      ((array_at (value_at 12 s) s (i + 1)).tree ≡ arr (items (items_from s (first_from s 93 (spaces_at s (i + 1)))))) × (items_fine s (first_from s 93 (spaces_at s (i + 1))) ≡ true)
  unfolding items_from items_fine
  array_read i w =
      let j = spaces_at s (i + 1) in
      let q = list_is (value_at 12 s) s 93 (lit< tt) (value_past s 12) j (omega (arith, spaces_ge s (i + 1))) w in
      (ap (λ x. arr (items x)) q.0, q.1)

  pub array_step : (l at : ℕ) → byte s (spaces_at s at) ≡ 91 → value_at (suc l) s at ≡ array_at (value_at l s) s (spaces_at s at + 1)
  unfolding value_at dispatch opens
  array_step l at h = rw (dispatch, opens, h)

  array_up : (l at : ℕ) → byte s (spaces_at s at) ≡ 91 → is_read (value_at (suc l) s at).read ≡ true → value_at (suc l) s at ≡ array_at (value_at (suc l) s) s (spaces_at s at + 1)
  array_up l at h w =
      let z = array_step l at h in
      let q = end_of (value_at (suc l) s at).read w in
      z ∙ sym (array_more s (value_at l s) (value_at (suc l) s) (level_more s l) (spaces_at s at + 1) q.0 (sym (ap (λ x. x.read) z) ∙ q.1))

  first_is : (o close at : ℕ) → byte s (spaces_at s at) ≡ o → first_of s o close at ≡ first_from s close (spaces_at s (spaces_at s at + 1))
  unfolding first_of
  first_is o close at h = rw (first_of, eq-eqb _ _ h)

  pub array_is : (at : ℕ) → well_at s at ≡ true → byte s (spaces_at s at) ≡ 91 → (tree_at s at ≡ arr (items (items_from s (first_of s 91 93 at)))) × (items_fine s (first_of s 91 93 at) ≡ true)
  unfolding well_at tree_at
  array_is at w h =
      let z : value_at 12 s at ≡ array_at (value_at 12 s) s (spaces_at s at + 1) = array_up 11 at h w in
      let q = array_read (spaces_at s at) (subst (λ (x : Parsed Json). is_read x.read ≡ true) z w) in
      rw (first_is 91 93 at h) (ap (λ x. x.tree) z ∙ q.0, q.1)

  object_read : (i : ℕ) → is_read (object_at (value_at 12 s) s (i + 1)).read ≡ true →
      ((object_at (value_at 12 s) s (i + 1)).tree ≡ obj (members (members_from s (first_from s 125 (spaces_at s (i + 1)))))) × (members_fine s (first_from s 125 (spaces_at s (i + 1))) ≡ true)
  unfolding members_from members_fine
  object_read i w =
      let j = spaces_at s (i + 1) in
      let q = list_is (member_at (value_at 12 s) s) s 125 (lit< tt) (member_past s (value_at 12 s) (value_past s 12)) j (omega (arith, spaces_ge s (i + 1))) w in
      (ap (λ x. obj (members x)) q.0, q.1)

  pub object_step : (l at : ℕ) → byte s (spaces_at s at) ≡ 123 → value_at (suc l) s at ≡ object_at (value_at l s) s (spaces_at s at + 1)
  unfolding value_at dispatch opens
  object_step l at h = let o : opens (byte s (spaces_at s at)) ≡ Object = ap opens h in rw (dispatch, o)

  object_up : (l at : ℕ) → byte s (spaces_at s at) ≡ 123 → is_read (value_at (suc l) s at).read ≡ true → value_at (suc l) s at ≡ object_at (value_at (suc l) s) s (spaces_at s at + 1)
  object_up l at h w =
      let z = object_step l at h in
      let q = end_of (value_at (suc l) s at).read w in
      z ∙ sym (object_more s (value_at l s) (value_at (suc l) s) (level_more s l) (spaces_at s at + 1) q.0 (sym (ap (λ x. x.read) z) ∙ q.1))

  pub object_is : (at : ℕ) → well_at s at ≡ true → byte s (spaces_at s at) ≡ 123 → (tree_at s at ≡ obj (members (members_from s (first_of s 123 125 at)))) × (members_fine s (first_of s 123 125 at) ≡ true)
  unfolding well_at tree_at
  object_is at w h =
      let z : value_at 12 s at ≡ object_at (value_at 12 s) s (spaces_at s at + 1) = object_up 11 at h w in
      let q = object_read (spaces_at s at) (subst (λ (x : Parsed Json). is_read x.read ≡ true) z w) in
      rw (first_is 123 125 at h) (ap (λ x. x.tree) z ∙ q.0, q.1)

  -- a member: its name, and its value where that begins
  pub members_at : (i : ℕ) → members_from s (Some i) ≡ (member_at (value_at 12 s) s i).tree ∷ members_from s (next_member s i)
  unfolding next_member members_from
  members_at = rest_at (member_at (value_at 12 s) s) s 125 (lit< tt) (member_past s (value_at 12 s) (value_past s 12))

  pub members_none : members_from s None ≡ []
  unfolding members_from
  members_none = rest_none (member_at (value_at 12 s) s) s 125 (lit< tt) (member_past s (value_at 12 s) (value_past s 12))

  pub members_fine_lem : (i : ℕ) → members_fine s (Some i) ≡ true → (is_read (member_at (value_at 12 s) s i).read ≡ true) × (members_fine s (next_member s i) ≡ true)
  unfolding next_member members_fine
  members_fine_lem = fine_at (member_at (value_at 12 s) s) s 125 (lit< tt) (member_past s (value_at 12 s) (value_past s 12))

  pub member_is : (i e : ℕ) → (key_at s i).read ≡ Ok e → (member_at (value_at 12 s) s i).tree ≡ record { name = (key_at s i).tree; value = tree_at s e }
  unfolding member_at and_then tree_at
  member_is i e h = rw (member_at, h)

  pub member_well : (i : ℕ) → is_read (member_at (value_at 12 s) s i).read ≡ true → (e : ℕ) × ((key_at s i).read ≡ Ok e) × (well_at s e ≡ true)
  unfolding member_at and_then well_at is_read
  member_well i w = go (key_at s i).read refl
    where
      go : (r : Read) → (key_at s i).read ≡ r → (e : ℕ) × ((key_at s i).read ≡ Ok e) × (well_at s e ≡ true)
      go (Ok e) r = (e, r, rw (member_at, r) at w)
      go (Err e) r = absurd (let k : false ≡ true = rw (member_at, r) at w in let z : ◌≡◌ {A = ℕ} 0 1 = cc in omega arith)

  -- a place after another is further on
  next_past : {A : Type 0} (p : ℕ → Parsed A) (close : ℕ) → close < 256 → ((i : ℕ) → Past s (suc i) (p i).read) → (i : ℕ) → left s (next_of p s close i) < left s (Some i)
  unfolding left found_of
  next_past p close h past i = go (after_item s close (p i).read) (after_past s close (suc i) h (p i).read (past i))
    where
      go : (n : Next) → PastNext s (suc i) n → left s (found_of n) < left s (Some i)
      go (Continue e) g = omega arith
      go (Break r) g = omega arith

  pub item_past : (i : ℕ) → left s (next_item s i) < left s (Some i)
  unfolding next_item
  item_past = next_past (value_at 12 s) 93 (lit< tt) (value_past s 12)

  pub member_on : (i : ℕ) → left s (next_member s i) < left s (Some i)
  unfolding next_member
  member_on = next_past (member_at (value_at 12 s) s) 125 (lit< tt) (member_past s (value_at 12 s) (value_past s 12))
