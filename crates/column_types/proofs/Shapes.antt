-- A type by its slots is the type that the schema's definitions read. Assumes nothing.
use mathlib.Core.Path.{◌≡◌, refl, sym, ap, subst, ◌∙◌}
use mathlib.Core.List.{List, [], ◌∷◌}
use mathlib.Core.Bool.{Bool, true, ◌&&◌, ◌||◌}
use Prim.Native.Nat.{ℕ}
use native.Mathlib.Omega.{arith}
use borrow.Author.Tests.{eqb-true}
use lib.Dec.{eqb, leb}
use lib.ListN.{get_or}
use Rattle.model.specs.declared.Whole.{Whole}
use Rattle.model.specs.declared.Whole.TheVariants.{Other}
use Rattle.model.specs.Base.{ascii}
use Rattle.model.specs.Limits.{most_elements}
use Rattle.model.specs.Json.{Json, Named}
use Rattle.model.specs.Members.{member_value}
use Rattle.model.specs.Whole.{whole_of}
use Rattle.model.specs.Text.{is_word}
use Rattle.model.specs.SchemaText.{must, may, is_within, size_or, is_max, key_fits, type_members, type_fits, min_of, max_of}
use Rattle.model.proofs.Tests.{split, clash, and_l, and_r}
use Rattle.members.specs.Fields.{choice_from, choice, slot_tree, Slots}
use Rattle.members.proofs.Slotted.{must_slot, may_slot, whole_none}
use Rattle.column_types.specs.declared.Key.{Key}
use Rattle.column_types.specs.Types.{KeyRead, KeyIn, max_in, type_allowed, TypeRead}
use Rattle.column_types.proofs.Keys.{both, last}

abbrev pub type_words : List (List ℕ)
type_words = ascii "key" ∷ ascii "min" ∷ ascii "max" ∷ []

word_allowed : (w : List ℕ) (j : Json) → is_word w j ≡ eqb (choice (w ∷ []) j) 0
unfolding choice choice_from
word_allowed w j = split (is_word w j) (λ e. rw (choice, choice_from, e)) (λ e. rw (choice, choice_from, e))

size_other : (d : ℕ) → size_or d Other ≡ d
unfolding size_or
size_other d = refl

module _ (s : List ℕ) (tables : List (List ℕ)) (j : Json) (f : List ℕ) (k : Slots s type_words (type_members j) f) (key : Key) (allowed : KeyIn s tables (get_or f 0 0) key) where
  abbrev ts : List Named
  ts = type_members j

  abbrev slot : ℕ → ℕ
  slot i = get_or f i 0

  abbrev least : Whole
  least = whole_of (slot_tree s (slot 1))

  abbrev most : Whole
  most = whole_of (slot_tree s (slot 2))

  key_allowed_lem : must (ascii "key") (key_fits tables) ts ≡ key.fits
  key_allowed_lem =
      must_slot k 0 (omega arith) (key_fits tables)
      ∙ split (eqb (slot 0) 0) (λ e. rw e (sym (allowed.none e))) (λ e. rw e (sym (allowed.some e).fits))

  max_allowed : may (ascii "max") is_max ts ≡ (eqb (slot 2) 0 || (is_within 1 most_elements most || eqb (choice (ascii "unlimited" ∷ []) (slot_tree s (slot 2))) 0))
  unfolding is_max
  max_allowed = may_slot k 2 (omega arith) is_max ∙ ap (λ (b : Bool). eqb (slot 2) 0 || (is_within 1 most_elements most || b)) (word_allowed (ascii "unlimited") (slot_tree s (slot 2)))

  min_is : size_or 1 least ≡ min_of ts
  min_is =
      split
      (eqb (slot 1) 0)
      (λ e. rw (min_of, k.here 1 (omega arith), e) (ap (size_or 1) (sym (whole_none s (eqb-true (slot 1) 0 e))) ∙ size_other 1))
      (λ e. rw (min_of, k.here 1 (omega arith), e) (ap (λ (x : Json). size_or 1 (whole_of x)) (sym (k.value 1 (omega arith)))))

  max_is : max_in (slot 2) most ≡ max_of ts
  unfolding max_in
  max_is =
      split
      (eqb (slot 2) 0)
      (λ e. rw (max_in, max_of, k.here 2 (omega arith), e))
      (λ e. rw (max_in, max_of, k.here 2 (omega arith), e) (ap (λ (x : Json). size_or most_elements (whole_of x)) (sym (k.value 2 (omega arith)))))

  fits_is : type_allowed s f key.fits least most ≡ type_fits tables j
  unfolding type_allowed type_fits
  fits_is =
      sym
      (both k.listed
      (both key_allowed_lem
      (both (may_slot k 1 (omega arith) (λ (x : Json). is_within 0 1 (whole_of x))) (both max_allowed (both (sym (λ i. leb (min_is i) (max_is i))) refl)))))

  key_is : type_allowed s f key.fits least most ≡ true → KeyRead tables (member_value (ascii "key") ts) key
  unfolding type_allowed
  key_is h =
      let g : key.fits ≡ true = and_l key.fits _ (and_r (eqb (slot 9) 0) _ h) in
      split
      (eqb (slot 0) 0)
      (λ e. absurd (clash key.fits g (allowed.none e)))
      (λ e. subst (λ (x : Json). KeyRead tables x key) (sym (k.value 0 (omega arith))) (allowed.some e))

  pub type_read : TypeRead tables j (record { fits = type_allowed s f key.fits least most; key = key; min = size_or 1 least; max = max_in (slot 2) most })
  type_read = record { fits = fits_is; key = key_is; min = min_is; max = max_is }

-- the tests as the code makes them
pub type_allowed_lem : (s f : List ℕ) (k : Bool) (least most : Whole) (a b : Bool) (u n m : ℕ) → a ≡ is_within 0 1 least → b ≡ is_within 1 4 most → u ≡ choice (ascii "unlimited" ∷ []) (slot_tree s (get_or f 2 0)) → n ≡ size_or 1 least → m ≡ max_in (get_or f 2 0) most → (eqb (get_or f 9 0) 0 && (k && ((eqb (get_or f 1 0) 0 || a) && ((eqb (get_or f 2 0) 0 || (b || eqb u 0)) && leb n m)))) ≡ type_allowed s f k least most
unfolding type_allowed
type_allowed_lem s f k least most a b u n m ea eb eu en em =
    rw (ea, eb, eu, en, em)
    (ap
    (λ (x : Bool). eqb (get_or f 9 0) 0 && (k && ((eqb (get_or f 1 0) 0 || is_within 0 1 least) && ((eqb (get_or f 2 0) 0 || (is_within 1 4 most || eqb (choice (ascii "unlimited" ∷ []) (slot_tree s (get_or f 2 0))) 0)) && x))))
    (sym (last {a = leb (size_or 1 least) (max_in (get_or f 2 0) most)} refl)))
