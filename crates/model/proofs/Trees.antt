-- Every string and every member's name in a tree that is read is UTF-8 without 00, whatever the text. Assumes nothing.
use Rattle.std.specs.Prelude.{Ok, Err}
use Rattle.model.specs.declared.ReadError.TheVariants.{Deep}
use Rattle.model.specs.Scan.{Read}
use mathlib.Core.Path.{◌≡◌, refl}
use mathlib.Core.Bool.{Bool, true, ◌&&◌}
use mathlib.Core.List.{List, [], ◌∷◌}
use Prim.Native.Nat.{ℕ, zero, suc, ◌+◌}
use lib.Dec.{eqb}
use lib.ListN.{length}
use Rattle.model.specs.declared.Open.{Open}
use Rattle.model.specs.declared.Open.TheVariants.{Array, Object, Scalar}
use Rattle.model.specs.Base.{all}
use Rattle.model.specs.Scan.{byte, Parsed, and_then, within_at, spaces_at}
use Rattle.model.specs.Strings.{string_at}
use Rattle.model.specs.Json.{Json, null, str, Items, item, Members, member, items, members, Named, scalar_by, key_at, item_turn, list_at, array_at, member_at, object_at, opens, dispatch, value_at, no_value, end_at, text_at}
use Rattle.model.specs.Value.{is_utf8}
use Rattle.model.proofs.GoodTexts.{texts_good, items_good, members_good}
use Rattle.model.proofs.Tests.{and_l, and_r}
use Rattle.model.proofs.Lists.{all_head, all_tail, all_cons, all_append}
use Rattle.model.proofs.Octets.{octet}
use Rattle.model.proofs.Utf8.{utf8_none, utf8_octets}
use Rattle.model.proofs.TextUtf8.{by_test, run_closed, string_utf8}

-- ── the way down ──
pub good_item : (j : Json) (is : Items) → items_good (item j is) ≡ true → texts_good j ≡ true
good_item j is h = and_l (texts_good j) (items_good is) h

pub good_items : (j : Json) (is : Items) → items_good (item j is) ≡ true → items_good is ≡ true
good_items j is h = and_r (texts_good j) (items_good is) h

pub good_name : (w : List ℕ) (j : Json) (ms : Members) → members_good (member w j ms) ≡ true → is_utf8 w ≡ true
good_name w j ms h = and_l (is_utf8 w) (texts_good j && members_good ms) h

pub good_value : (w : List ℕ) (j : Json) (ms : Members) → members_good (member w j ms) ≡ true → texts_good j ≡ true
good_value w j ms h = and_l (texts_good j) (members_good ms) (and_r (is_utf8 w) (texts_good j && members_good ms) h)

pub good_members : (w : List ℕ) (j : Json) (ms : Members) → members_good (member w j ms) ≡ true → members_good ms ≡ true
good_members w j ms h = and_r (texts_good j) (members_good ms) (and_r (is_utf8 w) (texts_good j && members_good ms) h)

-- a good string is bytes
pub good_octets : (t : List ℕ) → texts_good (str t) ≡ true → all octet t ≡ true
good_octets t h = utf8_octets t h

-- ── what is read is good ──
abbrev named_good : Named → Bool
named_good n = is_utf8 n.name && texts_good n.value

items_good_lem : (l : List Json) → all texts_good l ≡ true → items_good (items l) ≡ true
unfolding items
items_good_lem [] h = refl
items_good_lem (j ∷ l) h = rw (all_head texts_good j l h) (items_good_lem l (all_tail texts_good j l h))

members_good_lem : (l : List Named) → all named_good l ≡ true → members_good (members l) ≡ true
unfolding members
members_good_lem [] h = refl
members_good_lem (n ∷ l) h =
    let g : named_good n ≡ true = all_head named_good n l h in
    rw (and_l (is_utf8 n.name) (texts_good n.value) g, and_r (is_utf8 n.name) (texts_good n.value) g) (members_good_lem l (all_tail named_good n l h))

-- items that a good reader reads
list_good : {A : Type 0} (q : A → Bool) (p : ℕ → Parsed A) (s : List ℕ) (close at : ℕ) → ((i : ℕ) → q (p i).tree ≡ true) → all q (list_at p s close at).tree ≡ true
unfolding list_at
list_good q p s close at h = by_test (λ (r : Parsed (List _)). all q r.tree ≡ true) (eqb (byte s at) close) (λ t. refl)
    (λ t. run_closed (λ (l : List _). all q l ≡ true) (item_turn p s close) refl (all_append q) (λ i. all_cons q (p i).tree [] (h i) refl) (length s) at)

key_utf8 : (s : List ℕ) (at : ℕ) → is_utf8 (key_at s at).tree ≡ true
unfolding key_at and_then
key_utf8 s at = go (string_at s (spaces_at s at)).read
  where
    go : (r : Read) → is_utf8 (and_then [] (λ (e : ℕ). record { read = within_at s 58 58 (Ok (spaces_at s e)); tree = (string_at s (spaces_at s at)).tree }) r).tree ≡ true
    go (Ok e) = string_utf8 s (spaces_at s at)
    go (Err e) = utf8_none

member_good : (p : ℕ → Parsed Json) (s : List ℕ) (at : ℕ) → ((i : ℕ) → texts_good (p i).tree ≡ true) → named_good (member_at p s at).tree ≡ true
unfolding member_at and_then
member_good p s at h = go (key_at s at).read
  where
    go : (r : Read) → named_good (and_then (record { name = []; value = null }) (λ (e : ℕ). record { read = (p e).read; tree = record { name = (key_at s at).tree; value = (p e).tree } }) r).tree ≡ true
    go (Ok e) = rw (key_utf8 s at) (h e)
    go (Err e) = rw utf8_none

scalar_good : (s : List ℕ) (at b : ℕ) → texts_good (scalar_by s at b).tree ≡ true
unfolding scalar_by
scalar_good s at b =
    by_test Good (eqb b 34) (λ t. string_utf8 s at) (λ t. by_test Good (eqb b 110) (λ t. refl) (λ t.
    by_test Good (eqb b 116) (λ t. refl) (λ t. by_test Good (eqb b 102) (λ t. refl) (λ t. refl))))
  where
    Good : Parsed Json → Type 0
    Good r = texts_good r.tree ≡ true

dispatch_good : (s : List ℕ) (array object : ℕ → Parsed Json) (at : ℕ) → ((i : ℕ) → texts_good (array i).tree ≡ true) → ((i : ℕ) → texts_good (object i).tree ≡ true)
    → texts_good (dispatch s array object at).tree ≡ true
unfolding dispatch
dispatch_good s array object at f g = go (opens (byte s at)) refl
  where
    go : (o : Open) → opens (byte s at) ≡ o → texts_good (dispatch s array object at).tree ≡ true
    go Array e = rw (dispatch, e) (f at)
    go Object e = rw (dispatch, e) (g at)
    go Scalar e = rw (dispatch, e) (scalar_good s at (byte s at))

-- at every level
pub value_good : (l : ℕ) (s : List ℕ) (at : ℕ) → texts_good (value_at l s at).tree ≡ true
unfolding value_at
value_good zero s at = dispatch_good s (λ i. no_value (Err (Deep i))) (λ i. no_value (Err (Deep i))) (spaces_at s at) (λ i. refl) (λ i. refl)
value_good (suc l) s at =
    dispatch_good s (λ i. array_at (value_at l s) s (i + 1)) (λ i. object_at (value_at l s) s (i + 1)) (spaces_at s at)
    (λ i. items_good_lem (list_at (value_at l s) s 93 (spaces_at s (i + 1))).tree (list_good texts_good (value_at l s) s 93 (spaces_at s (i + 1)) (value_good l s)))
    (λ i.
    members_good_lem (list_at (member_at (value_at l s) s) s 125 (spaces_at s (i + 1))).tree
    (list_good named_good (member_at (value_at l s) s) s 125 (spaces_at s (i + 1)) (λ j. member_good (value_at l s) s j (value_good l s))))

pub text_good : (s : List ℕ) → texts_good (text_at s).tree ≡ true
unfolding text_at and_then
text_good s = go (value_at 12 s 0).read
  where
    go : (r : Read) → texts_good (and_then null (λ (e : ℕ). record { read = end_at s (spaces_at s e); tree = (value_at 12 s 0).tree }) r).tree ≡ true
    go (Ok e) = value_good 12 s 0
    go (Err e) = refl
