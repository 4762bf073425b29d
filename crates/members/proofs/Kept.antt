-- Slots filled member by member. Assumes nothing.
use Rattle.std.specs.Prelude.{Ok, Err}
use Rattle.model.specs.declared.ReadError.TheVariants.{Stop}
use Rattle.model.specs.Scan.{Read}
use Rattle.std.specs.Prelude.{Option, Some}
use mathlib.Core.Path.{◌≡◌, refl, sym, subst, ◌∙◌}
use mathlib.Core.List.{List, [], ◌∷◌}
use mathlib.Core.Bool.{Bool, true, false, not, ◌&&◌, ◌||◌}
use Prim.Native.Nat.{ℕ, zero, suc, ◌+◌, ◌<◌, ◌≤◌}
use native.Mathlib.Omega.{arith}
use borrow.Author.Tests.{eqb-true, eqb-false, ne_eqb}
use lib.Dec.{eqb, ltb}
use lib.ListN.{length, get_or, set, replicate, length-set}
use lib.Seq.{get_or-set_same, get_or-set_other}
use Rattle.model.specs.Octets.{eq_bytes}
use Rattle.model.specs.Base.{member, distinct}
use Rattle.model.specs.Scan.{byte, and_then, within_at, spaces_at, end_or}
use Rattle.model.specs.Strings.{string_at}
use Rattle.model.specs.Json.{Json, null, str, Named, key_at, member_at, value_at}
use Rattle.inner.specs.Positions.{tree_at, well_at, members_from, members_fine, next_member}
use Rattle.model.specs.Nav.{kind_of, is_object}
use Rattle.nav.proofs.Rest.{members_fine_lem, member_well}
use Rattle.nav.proofs.Walk.{pass_rest, pass_name, pass_value}
use Rattle.model.specs.Members.{members_in, has_member, named_or, value_or, member_value}
use Rattle.model.specs.SchemaText.{only, members_or}
use Rattle.model.proofs.Tests.{split, or_true, bytes_self}
use Rattle.model.proofs.SchemaLaws.{has_or}
use Rattle.members.specs.Fields.{choice_from, choice, slot_tree, Slots}
use Rattle.members.proofs.Choices.{choice_at, choice_not, choice_other}

-- slots after some members, of which the rest is left
pub record Kept (s : List ℕ) (ws : List (List ℕ)) (ms : List Named) (slots : List ℕ) (rest : List Named) : Type 0 where
  pub size : length slots ≡ 10
  pub here : (i : ℕ) → i < length ws → has_member (get_or ws i []) ms ≡ (not (eqb (get_or slots i 0) 0) || has_member (get_or ws i []) rest)
  pub value : (i : ℕ) → i < length ws → value_or (get_or ws i []) null ms ≡ value_or (get_or ws i []) (slot_tree s (get_or slots i 0)) rest
  pub well : (i : ℕ) → i < length ws → eqb (get_or slots i 0) 0 ≡ false → well_at s (get_or slots i 0) ≡ true
  pub listed : only ws ms ≡ (eqb (get_or slots 9 0) 0 && only ws rest)

zero_at : (n i : ℕ) → ◌≡◌ {A = ℕ} (get_or (replicate n 0) i 0) 0
zero_at zero i = refl
zero_at (suc n) zero = refl
zero_at (suc n) (suc i) = zero_at n i

or_none : (b : Bool) → (b || false) ≡ b
or_none true = refl
or_none false = refl

and_none : (b : Bool) → (b && false) ≡ false
and_none true = refl
and_none false = refl

and_all : (b : Bool) → (b && true) ≡ b
and_all true = refl
and_all false = refl

-- what a slot stands for
pub slot_none : (s : List ℕ) → slot_tree s 0 ≡ null
unfolding slot_tree
slot_none s = refl

pub slot_some : (s : List ℕ) (p : ℕ) → eqb p 0 ≡ false → slot_tree s p ≡ tree_at s p
unfolding slot_tree
slot_some s p h = rw (slot_tree, h)

module _ (s : List ℕ) (ws : List (List ℕ)) where
  pub kept_start : (ms : List Named) → Kept s ws ms (replicate 10 0) ms
  unfolding slot_tree
  kept_start ms =
      record {
        size = refl;
        here = λ i h. rw (zero_at 10 i);
        value = λ i h. rw (zero_at 10 i);
        well = λ i h e. absurd (eqb-false _ 0 e (zero_at 10 i));
        listed = refl;
      }

  pub kept_end : {ms : List Named} {slots : List ℕ} → Kept s ws ms slots [] → Slots s ws ms slots
  unfolding has_member value_or member_value only
  kept_end k =
      record {
        size = k.size;
        here = λ i h. k.here i h ∙ or_none _;
        value = k.value;
        well = k.well;
        listed = k.listed ∙ and_all _;
      }

  module _ (apart : distinct ws ≡ true) (few : length ws ≤ 9) (j : Json) (m : Named) (is : j ≡ str m.name) (v : ℕ) (some : 0 < v) (means : m.value ≡ tree_at s v) (well : well_at s v ≡ true) where
    -- the slot of a word afterwards: the new place where the word is the member's name, and else as before
    data Slot (slots : List ℕ) (i : ℕ) : Type 0 where
      named : eq_bytes m.name (get_or ws i []) ≡ true → get_or (set slots (choice ws j) v) i 0 ≡ v → Slot slots i
      other : eq_bytes m.name (get_or ws i []) ≡ false → get_or (set slots (choice ws j) v) i 0 ≡ get_or slots i 0 → Slot slots i

    slot : (slots : List ℕ) → length slots ≡ 10 → (i : ℕ) → i < length ws → Slot slots i
    unfolding choice
    slot slots n i h =
        split
        (eq_bytes m.name (get_or ws i []))
        (λ e. named e (let c : choice_from 0 j ws ≡ i = choice_at j m.name is ws 0 i apart h e ∙ omega arith in rw c (get_or-set_same slots i v 0 (omega arith))))
        (λ e. other e (get_or-set_other slots (choice_from 0 j ws) i v 0 (λ c. choice_not j m.name is ws 0 i (omega arith) h e (sym c ∙ omega arith))))

    nonzero : eqb v 0 ≡ false
    nonzero = ne_eqb v 0 (λ e. omega arith)

    module _ (slots : List ℕ) (rest : List Named) (i : ℕ) where
      here_step : Slot slots i → (not (eqb (get_or slots i 0) 0) || has_member (get_or ws i []) (m ∷ rest)) ≡ (not (eqb (get_or (set slots (choice ws j) v) i 0) 0) || has_member (get_or ws i []) rest)
      here_step (named e q) = rw (has_or (get_or ws i []) m rest, e, q, nonzero) (or_true (not (eqb (get_or slots i 0) 0)))
      here_step (other e q) = rw (has_or (get_or ws i []) m rest, e, q)

      value_step : Slot slots i → value_or (get_or ws i []) (slot_tree s (get_or slots i 0)) (m ∷ rest) ≡ value_or (get_or ws i []) (slot_tree s (get_or (set slots (choice ws j) v) i 0)) rest
      unfolding value_or named_or
      value_step (named e q) = rw (value_or, named_or, e, q, slot_some s v nonzero, means)
      value_step (other e q) = rw (value_or, named_or, e, q)

      well_step : (eqb (get_or slots i 0) 0 ≡ false → well_at s (get_or slots i 0) ≡ true) → Slot slots i → eqb (get_or (set slots (choice ws j) v) i 0) 0 ≡ false → well_at s (get_or (set slots (choice ws j) v) i 0) ≡ true
      well_step w (named e q) z = rw q well
      well_step w (other e q) z = rw q (w (rw q at z))

    listed_step : (slots : List ℕ) (rest : List Named) → length slots ≡ 10 → (eqb (get_or slots 9 0) 0 && only ws (m ∷ rest)) ≡ (eqb (get_or (set slots (choice ws j) v) 9 0) 0 && only ws rest)
    unfolding choice only
    listed_step slots rest n =
        let c : member m.name ws ≡ not (eqb (choice_from 0 j ws) 9) = choice_other j m.name is ws 0 (omega arith) in
        split
        (eqb (choice_from 0 j ws) 9)
        (λ e.
        let f : member m.name ws ≡ false = rw e at c in
        let q : get_or (set slots (choice_from 0 j ws) v) 9 0 ≡ v = rw (eqb-true (choice_from 0 j ws) 9 e) (get_or-set_same slots 9 v 0 (omega arith)) in
        rw (f, q, nonzero) (and_none (eqb (get_or slots 9 0) 0)))
        (λ e.
        let f : member m.name ws ≡ true = rw e at c in
        let q : get_or (set slots (choice_from 0 j ws) v) 9 0 ≡ get_or slots 9 0 = get_or-set_other slots (choice_from 0 j ws) 9 v 0 (λ z. eqb-false _ 9 e (sym z)) in
        rw (f, q))

    pub kept_step : {ms : List Named} {slots : List ℕ} {rest : List Named} → Kept s ws ms slots (m ∷ rest) → Kept s ws ms (set slots (choice ws j) v) rest
    kept_step {ms} {slots} {rest} k =
        record {
          size = length-set slots (choice ws j) v ∙ k.size;
          here = λ i h. k.here i h ∙ here_step slots rest i (slot slots k.size i h);
          value = λ i h. k.value i h ∙ value_step slots rest i (slot slots k.size i h);
          well = λ i h e. well_step slots rest i (k.well i h) (slot slots k.size i h) e;
          listed = k.listed ∙ listed_step slots rest k.size;
        }

-- ── a walk over members ──
module _ (s : List ℕ) where
  within_positive : (low high x e : ℕ) → within_at s low high (Ok x) ≡ Ok e → 0 < e
  unfolding within_at
  within_positive low high x e h =
      split
      (ltb (byte s x) low)
      (λ a. absurd (let q : Err (Stop x) ≡ Ok e = rw (within_at, a) at h in let z : ◌≡◌ {A = ℕ} 0 1 = cc in omega arith))
      (λ a.
      split
      (ltb high (byte s x))
      (λ b. absurd (let q : Err (Stop x) ≡ Ok e = rw (within_at, a, b) at h in let z : ◌≡◌ {A = ℕ} 0 1 = cc in omega arith))
      (λ b. let q : Ok (x + 1) ≡ Ok e = rw (within_at, a, b) at h in let z : x + 1 ≡ e = cc in omega arith))

  -- a member's value begins past the key, and so never at 0
  value_positive : (p e : ℕ) → (key_at s p).read ≡ Ok e → 0 < e
  unfolding key_at and_then
  value_positive p e = go (string_at s (spaces_at s p)).read
    where
      t : List ℕ
      t = (string_at s (spaces_at s p)).tree

      go : (r : Read) → (and_then [] (λ e. record { read = within_at s 58 58 (Ok (spaces_at s e)); tree = t }) r).read ≡ Ok e → 0 < e
      go (Ok x) h = within_positive 58 58 (spaces_at s x) e h
      go (Err x) h = absurd (let z : ◌≡◌ {A = ℕ} 0 1 = cc in omega arith)

  module _ (ws : List (List ℕ)) (apart : distinct ws ≡ true) (few : length ws ≤ 9) {g : Option ℕ} {p : ℕ} (h : g ≡ Some p) (fine : members_fine s g ≡ true) where
    pub kept_pass : {ms : List Named} {slots : List ℕ} → Kept s ws ms slots (members_from s g) → Kept s ws ms (set slots (choice ws (tree_at s p)) (end_or p (key_at s p).read)) (members_from s (next_member s p))
    kept_pass k =
        let well = (members_fine_lem s p (subst (λ (x : Option ℕ). members_fine s x ≡ true) h fine)).0 in
        let e = member_well s p well in
        kept_step
        s
        ws
        apart
        few
        (tree_at s p)
        (member_at (value_at 12 s) s p).tree
        (pass_name s h fine)
        (end_or p (key_at s p).read)
        (rw e.1 (value_positive p e.0 e.1))
        (pass_value s h fine).0
        (pass_value s h fine).1
        (subst (Kept s ws _ _) (pass_rest s h) k)

-- ── a bare value stands for the first word's member ──
module _ (s : List ℕ) (ws : List (List ℕ)) (at : ℕ) where
  pub slots_object : {slots : List ℕ} → is_object (kind_of (tree_at s at)) ≡ true → Slots s ws (members_in (tree_at s at)) slots → Slots s ws (members_or (get_or ws 0 []) (tree_at s at)) slots
  unfolding members_or
  slots_object o k = rw (members_or, o) k

  pub slots_bare : distinct ws ≡ true → length ws ≤ 9 → 0 < length ws → 0 < at → well_at s at ≡ true → is_object (kind_of (tree_at s at)) ≡ false → Slots s ws (members_or (get_or ws 0 []) (tree_at s at)) (at ∷ replicate 9 0)
  unfolding members_or choice
  slots_bare apart few some h well o =
      let w : List ℕ = get_or ws 0 [] in
      let m : Named = record { name = w; value = tree_at s at } in
      let c : choice_from 0 (str w) ws ≡ 0 = choice_at (str w) w refl ws 0 0 apart some (bytes_self w) in
      let k : Kept s ws (m ∷ []) (set (replicate 10 0) (choice_from 0 (str w) ws) at) [] = kept_step s ws apart few (str w) m refl at h refl well (kept_start s ws (m ∷ [])) in
      rw (members_or, o) (kept_end s ws (rw c at k))
