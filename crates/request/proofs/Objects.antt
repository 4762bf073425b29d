-- Requests by their items. Assumes nothing.
use Rattle.std.specs.Prelude.{Ok, Err}
use Rattle.model.specs.declared.ReadError.{ReadError}
use Rattle.std.specs.Prelude.{Option, Some, None}
use mathlib.Core.Path.{◌≡◌, refl, sym, ap, ◌∙◌}
use mathlib.Core.List.{List, [], ◌∷◌, map}
use mathlib.Core.Bool.{Bool, true, false, ◌&&◌}
use Prim.Native.Nat.{ℕ, suc, ◌≤◌, ◌<◌}
use borrow.Author.Tests.{lt-leb, le-leb, leb-true}
use lib.Dec.{leb}
use lib.ListN.{length, length-map}
use Rattle.model.specs.Base.{all, is_some}
use Rattle.model.specs.Limits.{most_request_bytes}
use Rattle.model.specs.Scan.{Parsed}
use Rattle.model.specs.Json.{Json, null, bool, num, str, arr, obj, Named, text_at}
use Rattle.inner.specs.Positions.{Says, tree_at, well_at, first_of, next_item, items_from}
use Rattle.model.specs.Nav.{is_read, kind_of, is_text, is_object, text_in, items_in}
use Rattle.model.specs.Members.{members_in}
use Rattle.model.specs.Written.{string_in, array_in, object_in}
use Rattle.model.specs.Transact.{Request, objects_in, request_by, request_items, request_tree, read_request}
use Rattle.model.proofs.Tests.{split, clash}
use Rattle.json_reader.proofs.Whole.{text_well}
use Rattle.nav.proofs.FirstByte.{items_in_lem}
use Rattle.nav.proofs.Walk.{walk_end, walk_rest, walk_fine}
use Rattle.uuids.specs.Named.{operations_at}
use Rattle.request.specs.declared.Request as code
use Rattle.request.specs.declared.Items.{Items}
use Rattle.request.specs.Reading.{few_objects, Counted, Parted, RequestRead}

-- ── at most 16 objects ──
abbrev pub object : Json → Bool
object j = is_object (kind_of j)

and_false : (b : Bool) → (b && false) ≡ false
and_false true = refl
and_false false = refl

and_l : (a b : Bool) → (a && b) ≡ true → a ≡ true
and_l true b h = refl
and_l false b h = h

and_r : (a b : Bool) → (a && b) ≡ true → b ≡ true
and_r true b h = h
and_r false b h = absurd (clash true refl (sym h))

module _ (l : List Json) where
  -- none of them, by a fault
  not_counted : {r : Items} → r.few ≡ false → false ≡ few_objects l → Counted l r
  not_counted {r} f e = record { few = f ∙ e; count = λ h. absurd (clash r.few h f) }

  pub few_many : {r : Items} → r.few ≡ false → suc 16 ≤ length l → Counted l r
  unfolding few_objects
  few_many f h = not_counted f (let e : leb (length l) 16 ≡ false = lt-leb (length l) 16 h in sym (rw e))

  pub few_bad : {r : Items} → r.few ≡ false → all object l ≡ false → Counted l r
  unfolding few_objects
  few_bad f h = not_counted f (sym (rw (h, and_false)))

  pub few_end : {n : ℕ} → n ≤ 16 → (length l ≡ n) × (all object l ≡ true) → Counted l (record { few = true; count = n })
  unfolding few_objects
  few_end {n} h q = record { few = let e : leb n 16 ≡ true = le-leb n 16 h in sym (rw (q.1, q.0, e)); count = λ _. sym q.0 }

  pub few_length : few_objects l ≡ true → length l ≤ 16
  unfolding few_objects
  few_length h = leb-true (length l) 16 (and_l (leb (length l) 16) (all object l) h)

-- ── the model's reading of a request, by the same tests ──
object_in_lem : (j : Json) → object_in j ≡ elim (object j) [ true ↦ Some (members_in j) | false ↦ None ]
unfolding kind_of members_in
object_in_lem null = refl
object_in_lem (bool b) = refl
object_in_lem (num t) = refl
object_in_lem (str t) = refl
object_in_lem (arr xs) = refl
object_in_lem (obj ms) = refl

string_in_lem : (j : Json) → string_in j ≡ elim (is_text (kind_of j)) [ true ↦ Some (text_in j) | false ↦ None ]
unfolding kind_of text_in
string_in_lem null = refl
string_in_lem (bool b) = refl
string_in_lem (num t) = refl
string_in_lem (str t) = refl
string_in_lem (arr xs) = refl
string_in_lem (obj ms) = refl

-- the objects' members, where a test passes
abbrev member_when : Bool → Json → Option (List Named)
member_when b j = elim b [ true ↦ Some (members_in j) | false ↦ None ]

abbrev members_when : Bool → List Json → Option (List (List Named))
members_when true l = Some (map members_in l)
members_when false l = None

abbrev joined : Option (List Named) → Option (List (List Named)) → Option (List (List Named))
joined None o = None
joined (Some ms) o = elim o [ None ↦ None | Some l ↦ Some (ms ∷ l) ]

joined_when : (a b : Bool) (j : Json) (js : List Json) → joined (member_when a j) (members_when b js) ≡ members_when (a && b) (j ∷ js)
joined_when true true j js = refl
joined_when true false j js = refl
joined_when false b j js = refl

joined_is : (o : Option (List Named)) (p : Option (List (List Named))) → elim o [ None ↦ None | Some ms ↦ elim p [ None ↦ None | Some l ↦ Some (ms ∷ l) ] ] ≡ joined o p
joined_is None p = refl
joined_is (Some ms) p = refl

objects_in_lem : (l : List Json) → objects_in l ≡ members_when (all object l) l
objects_in_lem [] = refl
objects_in_lem (j ∷ js) =
    joined_is (object_in j) (objects_in js) ∙ (λ k. joined (object_in_lem j k) (objects_in_lem js k)) ∙ joined_when (object j) (all object js) j js

-- what is not an array has no items, and is no request either
tree_items : (j : Json) → elim (array_in j) [ None ↦ None | Some l ↦ request_items l ] ≡ request_items (items_in j)
unfolding items_in
tree_items null = refl
tree_items (bool b) = refl
tree_items (num t) = refl
tree_items (str t) = refl
tree_items (arr xs) = refl
tree_items (obj ms) = refl

tree_read : (q : Parsed Json) → is_read q.read ≡ true → request_tree q ≡ request_items (items_in q.tree)
tree_read q e = rw (request_tree, e) (tree_items q.tree)

tree_bad : (q : Parsed Json) → is_read q.read ≡ false → request_tree q ≡ None
tree_bad q e = rw (request_tree, e)

-- a request is a string and at most 16 objects
abbrev request_of : Json → List Json → Request
request_of j js = record { name = text_in j; operations = map members_in js }

few_by : (w : List ℕ) (js : List Json) (b : Bool) → leb (length js) 16 ≡ b
    → request_by (Some w) (Some (map members_in js)) ≡ elim b [ true ↦ Some (record { name = w; operations = map members_in js }) | false ↦ None ]
few_by w js true h = rw (request_by, length-map js members_in, h)
few_by w js false h = rw (request_by, length-map js members_in, h)

items_fit : (j : Json) (js : List Json) → is_text (kind_of j) ≡ true → few_objects js ≡ true → request_items (j ∷ js) ≡ Some (request_of j js)
unfolding few_objects
items_fit j js t f =
    let e : request_items (j ∷ js) ≡ request_by (Some (text_in j)) (members_when true js) = rw (string_in_lem j, t, objects_in_lem js, and_r (leb (length js) 16) (all object js) f) in
    e ∙ few_by (text_in j) js true (and_l (leb (length js) 16) (all object js) f)

items_unfit : (j : Json) (js : List Json) → (is_text (kind_of j) && few_objects js) ≡ false → request_items (j ∷ js) ≡ None
unfolding few_objects
items_unfit j js h =
    split (is_text (kind_of j))
    (λ t.
    split (all object js)
    (λ a. let l : leb (length js) 16 ≡ false = sym (and_true (leb (length js) 16)) ∙ rw (t, a) at h in rw (string_in_lem j, t, objects_in_lem js, a) (few_by (text_in j) js false l))
    (λ a. rw (string_in_lem j, t, objects_in_lem js, a)))
    (λ t. rw (string_in_lem j, t))
  where
    and_true : (b : Bool) → (b && true) ≡ b
    and_true true = refl
    and_true false = refl

-- ── the value at the text's front ──
module _ (s : List ℕ) where
  pub parted_none : first_of s 91 93 0 ≡ None → well_at s 0 ≡ true → (r : code.Request) → r.fits ≡ false → Parted s r
  parted_none e w r f =
      let q : request_items (items_in (tree_at s 0)) ≡ None = ap request_items ((items_in_lem s 0 w).0 ∙ walk_end s e) in
      record {
        accepted = f ∙ sym (ap is_some q);
        request = λ h. absurd (clash r.fits h f);
        named = λ h. absurd (clash r.fits h f);
        fine = λ h. absurd (clash r.fits h f);
        few = λ h. absurd (clash r.fits h f);
        count = λ h. absurd (clash r.fits h f);
      }

  pub parted_some : {a : ℕ} → first_of s 91 93 0 ≡ Some a → well_at s 0 ≡ true → (r : code.Request) → r.name ≡ a → r.ops ≡ next_item s a
      → {k : Items} → Counted (items_from s (next_item s a)) k → r.fits ≡ (is_text (kind_of (tree_at s a)) && k.few) → r.count ≡ k.count → Parted s r
  unfolding operations_at
  parted_some {a} e w r n o {k} is said sized =
      let t = is_text (kind_of (tree_at s a)) in
      let js = items_from s (next_item s a) in
      let q : items_in (tree_at s 0) ≡ tree_at s a ∷ js = (items_in_lem s 0 w).0 ∙ walk_rest s e in
      let f : r.fits ≡ (t && few_objects js) = said ∙ ap (λ (b : Bool). t && b) is.few in
      let p : r.fits ≡ true → (t && few_objects js) ≡ true = λ h. sym f ∙ h in
      record {
        accepted =
            split (t && few_objects js)
            (λ h. f ∙ h ∙ sym (ap (λ x. is_some (request_items x)) q ∙ ap is_some (items_fit (tree_at s a) js (and_l t (few_objects js) h) (and_r t (few_objects js) h))))
            (λ h. f ∙ h ∙ sym (ap (λ x. is_some (request_items x)) q ∙ ap is_some (items_unfit (tree_at s a) js h)));
        request = λ h. rw (n, o) (ap request_items q ∙ items_fit (tree_at s a) js (and_l t (few_objects js) (p h)) (and_r t (few_objects js) (p h)));
        named = λ h. rw n (and_l t (few_objects js) (p h));
        fine = λ h. rw o (walk_fine s e (items_in_lem s 0 w).1).1;
        few = λ h. rw o (few_length js (and_r t (few_objects js) (p h)));
        count = λ h. rw o (sized ∙ is.count (and_r t k.few (sym said ∙ h)));
      }

  -- ── the whole text ──
  module _ (ends : List ℕ) (r : code.Request) where
    read_whole : length s ≤ most_request_bytes → is_read (text_at s).read ≡ true → Says s ends → Parted s r → RequestRead s ends r
    unfolding read_request
    read_whole l e y p =
        let w = text_well s e in
        let q : read_request s ≡ request_items (items_in (tree_at s 0)) = rw (read_request, le-leb (length s) 8192 l) (tree_read (text_at s) e) ∙ ap (λ j. request_items (items_in j)) w.1 in
        record {
          accepted = p.accepted ∙ sym (ap is_some q);
          request = λ h. q ∙ p.request h;
          says = λ h. y;
          short = λ h. l;
          named = p.named;
          fine = p.fine;
          few = p.few;
          count = p.count;
        }

    refused_read : r.fits ≡ false → read_request s ≡ None → RequestRead s ends r
    refused_read f q =
        record {
          accepted = f ∙ sym (ap is_some q);
          request = λ h. absurd (clash r.fits h f);
          says = λ h. absurd (clash r.fits h f);
          short = λ h. absurd (clash r.fits h f);
          named = λ h. absurd (clash r.fits h f);
          fine = λ h. absurd (clash r.fits h f);
          few = λ h. absurd (clash r.fits h f);
          count = λ h. absurd (clash r.fits h f);
        }

    pub read_too_long : r.fits ≡ false → most_request_bytes < length s → RequestRead s ends r
    unfolding read_request
    read_too_long f l = refused_read f (rw (read_request, lt-leb (length s) 8192 l))

    read_bad : r.fits ≡ false → is_read (text_at s).read ≡ false → RequestRead s ends r
    unfolding read_request
    read_bad f e = refused_read f (bad (leb (length s) 8192) refl)
      where
        bad : (b : Bool) → leb (length s) 8192 ≡ b → read_request s ≡ None
        bad true h = rw (read_request, h) (tree_bad (text_at s) e)
        bad false h = rw (read_request, h)

    pub read_stopped : r.fits ≡ false → {e : ReadError} → (text_at s).read ≡ Err e → RequestRead s ends r
    unfolding is_read
    read_stopped f q = read_bad f (ap is_read q)

    pub read_end : length s ≤ most_request_bytes → {e : ℕ} → (text_at s).read ≡ Ok e → Says s ends → Parted s r → RequestRead s ends r
    unfolding is_read
    read_end l q y p = read_whole l (ap is_read q) y p

  pub well_end : {e : ℕ} → (text_at s).read ≡ Ok e → well_at s 0 ≡ true
  unfolding is_read
  well_end q = (text_well s (ap is_read q)).0
