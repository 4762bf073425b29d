-- A value ends past where it begins, so the turns that `run` allows, as many as the text has bytes, are enough: more give the same. Assumes nothing.
use Rattle.std.specs.Prelude.{Ok, Err}
use Rattle.model.specs.declared.ReadError.TheVariants.{Deep}
use Rattle.std.specs.declared.ops.ControlFlow.TheVariants.{Continue, Break}
use Rattle.model.specs.Scan.{Read, Next}
use mathlib.Core.Path.{◌≡◌, refl, ap, subst}
use mathlib.Core.List.{List, [], ◌++◌}
use mathlib.Core.Bool.{Bool, false}
use Prim.Native.Nat.{ℕ, zero, suc, ◌+◌, ◌-◌, ◌<◌, ◌≤◌}
use native.Mathlib.Nat.{not-suc-le-zero, le_refl}
use native.Mathlib.Omega.{arith}
use lib.ListN.{length}
use lib.Dec.{eqb, lit<}
use borrow.Author.Tests.{eqb-true, eqb-false}
use Rattle.model.specs.declared.Open.{Open}
use Rattle.model.specs.declared.Open.TheVariants.{Array, Object, Scalar}
use Rattle.model.specs.Scan.{byte, Parsed, and_then, Turn, run, passing, is_space, is_digit, spaces_at, digits_at, within_at, word_at, then_read}
use Rattle.model.specs.Strings.{char_turn, body_at, string_at}
use Rattle.model.specs.Numbers.{minus_at, sign_at, some_from, some_at, whole_at, frac_at, is_exp, exp_at, number_at}
use Rattle.model.specs.Json.{Json, null, scalar_by, key_at, comma_or, after_item, item_turn, items_of, list_at, array_at, member_at, object_at, opens, dispatch, value_at, no_value}
use Rattle.scan.proofs.Bytes.{inside_byte, inside_test}
use Rattle.scan.proofs.Past.{by_test, Past, PastNext, within_past, shorter, later, from_past, char_past}

-- where each turn goes on, within the first N positions, more than N turns give what N do
module _ {A : Type 0} (f : ℕ → Turn A) (N : ℕ) (on : (i e : ℕ) → (f i).next ≡ Continue e → (suc i ≤ e) × (e ≤ N)) where
  pub enough : (n m i : ℕ) → N - i < n → N - i < m → run f n i ≡ run f m i
  unfolding run
  enough zero m i h g = absurd (not-suc-le-zero h)
  enough (suc n) zero i h g = absurd (not-suc-le-zero g)
  enough (suc n) (suc m) i h g = go (f i).next refl (enough n m)
    where
      go : (q : Next) → (f i).next ≡ q → ((e : ℕ) → N - e < n → N - e < m → run f n e ≡ run f m e) → run f (suc n) i ≡ run f (suc m) i
      go (Continue e) q ih =
          let o = on i e q in
          let r = ih e (omega arith) (omega arith) in
          rw (run, q) (ap (λ x. record { read = x.read; tree = (f i).adds ++ x.tree }) r)
      go (Break r) q ih = rw (run, q)

-- a bound on one side of a choice by an enum
by_open : {A : Type 0} (P : A → Type 0) (b : Open) {x y z : A} → P x → P y → P z → P (elim b [ Array ↦ x | Object ↦ y | Scalar ↦ z ])
by_open P Array f g h = f
by_open P Object f g h = g
by_open P Scalar f g h = h

module _ (s : List ℕ) where
  -- a run
  run_past : {A : Type 0} (f : ℕ → Turn A) → ((i : ℕ) → PastNext s (suc i) (f i).next) → (n i : ℕ) → Past s (suc i) (run f n i).read
  unfolding run
  run_past f h zero i = tt
  run_past f h (suc n) i = go (f i).next refl (run_past f h n)
    where
      go : (q : Next) → (f i).next ≡ q → ((e : ℕ) → Past s (suc e) (run f n e).read) → Past s (suc i) (run f (suc n) i).read
      go (Continue e) q ih = let o = subst (PastNext s (suc i)) q (h i) in rw (run, q) (shorter s (suc i) (suc e) (omega (arith, o.0)) (run f n e).read (ih e))
      go (Break r) q ih = rw (run, q) (subst (PastNext s (suc i)) q (h i))

  pub run_on : {A : Type 0} (f : ℕ → Turn A) → ((i : ℕ) → PastNext s (suc i) (f i).next) → (i e : ℕ) → (f i).next ≡ Continue e → (suc i ≤ e) × (e ≤ length s)
  run_on f h i e q = subst (PastNext s (suc i)) q (h i)

  -- sequences
  then_past : {A : Type 0} (d : A) (f : ℕ → Parsed A) (a : ℕ) (r : Read) → Past s a r → ((e : ℕ) → a ≤ e → e ≤ length s → Past s a (f e).read) → Past s a (and_then d f r).read
  unfolding and_then
  then_past d f a (Ok e) h g = g e h.0 h.1
  then_past d f a (Err e) h g = tt

  read_past : (f : ℕ → Read) (a : ℕ) (r : Read) → Past s a r → ((e : ℕ) → a ≤ e → e ≤ length s → Past s a (f e)) → Past s a (then_read f r)
  unfolding then_read
  read_past f a (Ok e) h g = g e h.0 h.1
  read_past f a (Err e) h g = tt

  first_past : (x a : ℕ) → x < 256 → Past s (suc a) (within_at s x x (Ok a))
  first_past x a h = within_past s x x a h (Ok a) (λ e q. let z : e ≡ a = cc in omega arith)

  next_past : (x a : ℕ) → x < 256 → (r : Read) → Past s a r → Past s a (within_at s x x r)
  next_past x a h r p = shorter s a (suc a) (omega arith) (within_at s x x r) (within_past s x x a h r (from_past s a r p))

  -- strings
  body_past : (at : ℕ) → Past s (suc at) (body_at s at).read
  body_past = run_past (char_turn s) (char_past s) (length s)

  string_past : (at : ℕ) → Past s (suc at) (string_at s at).read
  unfolding string_at
  string_past at = then_past [] (body_at s) (suc at) (within_at s 34 34 (Ok at)) (first_past 34 at (lit< tt)) (λ e le lt. shorter s (suc at) (suc e) (omega arith) (body_at s e).read (body_past e))

  -- white space and digits
  module _ (f : ℕ → Bool) (no : f 256 ≡ false) where
    passing_ge : (n at : ℕ) → at ≤ passing f s n at
    unfolding passing
    passing_ge zero at = le_refl at
    passing_ge (suc n) at = by_test (λ x. at ≤ x) (f (byte s at)) (λ t. omega (arith, passing_ge n (at + 1))) (λ t. le_refl at)

    passing_le : (n at : ℕ) → at ≤ length s → passing f s n at ≤ length s
    unfolding passing
    passing_le zero at h = h
    passing_le (suc n) at h = by_test (λ x. x ≤ length s) (f (byte s at)) (λ t. passing_le n (at + 1) (omega (arith, inside_test f no s at t))) (λ t. h)

    passing_in : (n at : ℕ) → (passing f s n at ≡ at → ⊥) → passing f s n at ≤ length s
    unfolding passing
    passing_in zero at = λ h. absurd (h refl)
    passing_in (suc n) at = by_test (λ x. (x ≡ at → ⊥) → x ≤ length s) (f (byte s at)) (λ t h. passing_le n (at + 1) (omega (arith, inside_test f no s at t))) (λ t h. absurd (h refl))

  pub spaces_ge : (at : ℕ) → at ≤ spaces_at s at
  unfolding is_space
  spaces_ge = passing_ge is_space refl (length s)

  -- numbers
  some_past : (at : ℕ) → Past s (suc at) (some_at s at)
  unfolding some_from is_digit
  some_past at = by_test (Past s (suc at)) (eqb (digits_at s at) at) (λ t. tt) (λ t.
      let ne = eqb-false (digits_at s at) at t in
      (omega (arith, passing_ge is_digit refl (length s) at, ne), passing_in is_digit refl (length s) at ne))

  minus_ge : (at : ℕ) → at ≤ minus_at s at
  unfolding minus_at
  minus_ge at = by_test (λ x. at ≤ x) (eqb (byte s at) 45) (λ t. omega arith) (λ t. le_refl at)

  sign_ge : (at : ℕ) → at ≤ sign_at s at
  unfolding sign_at
  sign_ge at = by_test (λ x. at ≤ x) (eqb (byte s at) 43) (λ t. omega arith) (λ t. minus_ge at)

  whole_past : (at : ℕ) → Past s (suc at) (whole_at s at)
  unfolding whole_at
  whole_past at = by_test (Past s (suc at)) (eqb (byte s at) 48) (λ t. let i = inside_byte s at 48 (eqb-true (byte s at) 48 t) (lit< tt) in omega arith) (λ t. some_past at)

  frac_past : (at : ℕ) → at ≤ length s → Past s at (frac_at s at)
  unfolding frac_at
  frac_past at h = by_test (Past s at) (eqb (byte s at) 46) (λ t. shorter s at (suc (at + 1)) (omega arith) (some_at s (at + 1)) (some_past (at + 1))) (λ t. (le_refl at, h))

  exp_past : (at : ℕ) → at ≤ length s → Past s at (exp_at s at)
  unfolding exp_at
  exp_past at h = by_test (Past s at) (is_exp (byte s at)) (λ t. let i = sign_at s (at + 1) in shorter s at (suc i) (omega (arith, sign_ge (at + 1))) (some_at s i) (some_past i)) (λ t. (le_refl at, h))

  number_past : (at : ℕ) → Past s (suc at) (number_at s at)
  number_past at =
      let m = minus_at s at in
      let w = shorter s (suc at) (suc m) (omega (arith, minus_ge at)) (whole_at s m) (whole_past m) in
      let f = read_past (frac_at s) (suc at) (whole_at s m) w (λ e le lt. shorter s (suc at) e le (frac_at s e) (frac_past e lt)) in
      read_past (exp_at s) (suc at) (then_read (frac_at s) (whole_at s m)) f (λ e le lt. shorter s (suc at) e le (exp_at s e) (exp_past e lt))

  scalar_past : (at b : ℕ) → Past s (suc at) (scalar_by s at b).read
  unfolding scalar_by word_at
  scalar_past at b =
      let P : Parsed Json → Type 0 = λ q. Past s (suc at) q.read in
      let w : ℕ → Read → Read = λ x r. within_at s x x r in
      let n1 = w 110 (Ok at) in let n2 = w 117 n1 in let n3 = w 108 n2 in
      let t1 = w 116 (Ok at) in let t2 = w 114 t1 in let t3 = w 117 t2 in
      let f1 = w 102 (Ok at) in let f2 = w 97 f1 in let f3 = w 108 f2 in let f4 = w 115 f3 in
      by_test P (eqb b 34) (λ t. string_past at) (λ t.
      by_test P (eqb b 110) (λ t. next_past 108 (suc at) (lit< tt) n3 (next_past 108 (suc at) (lit< tt) n2 (next_past 117 (suc at) (lit< tt) n1 (first_past 110 at (lit< tt))))) (λ t.
      by_test P (eqb b 116) (λ t. next_past 101 (suc at) (lit< tt) t3 (next_past 117 (suc at) (lit< tt) t2 (next_past 114 (suc at) (lit< tt) t1 (first_past 116 at (lit< tt))))) (λ t.
      by_test P (eqb b 102) (λ t. next_past 101 (suc at) (lit< tt) f4 (next_past 115 (suc at) (lit< tt) f3 (next_past 108 (suc at) (lit< tt) f2 (next_past 97 (suc at) (lit< tt) f1 (first_past 102 at (lit< tt)))))) (λ t.
      number_past at))))

  -- items
  comma_past : (close i : ℕ) → close < 256 → PastNext s (suc i) (comma_or s close i)
  unfolding comma_or
  comma_past close i h = by_test (PastNext s (suc i)) (eqb (byte s i) 44) (λ t. let l = inside_byte s i 44 (eqb-true (byte s i) 44 t) (lit< tt) in omega arith) (λ t. first_past close i h)

  pub after_past : (close a : ℕ) → close < 256 → (r : Read) → Past s a r → PastNext s a (after_item s close r)
  unfolding after_item
  after_past close a h (Ok e) p = let i = spaces_at s e in later s a (suc i) (omega (arith, spaces_ge e, p.0)) (comma_or s close i) (comma_past close i h)
  after_past close a h (Err e) p = tt

  list_past : {A : Type 0} (p : ℕ → Parsed A) (close : ℕ) → close < 256 → ((i : ℕ) → Past s (suc i) (p i).read) → (at : ℕ) → Past s (suc at) (list_at p s close at).read
  unfolding list_at
  list_past {A} p close h g at =
      by_test (λ (q : Parsed (List A)). Past s (suc at) q.read) (eqb (byte s at) close)
      (λ t. let l = inside_byte s at close (eqb-true (byte s at) close t) h in omega arith)
      (λ t. run_past (item_turn p s close) (λ i. after_past close (suc i) h (p i).read (g i)) (length s) at)

  key_past : (at : ℕ) → Past s (suc at) (key_at s at).read
  unfolding key_at
  key_past at =
      let i = spaces_at s at in
      let q = string_at s i in
      then_past [] (λ e. record { read = within_at s 58 58 (Ok (spaces_at s e)); tree = q.tree }) (suc at) q.read
      (shorter s (suc at) (suc i) (omega (arith, spaces_ge at)) q.read (string_past i))
      (λ e le lt. let j = spaces_at s e in shorter s (suc at) (suc j) (omega (arith, spaces_ge e)) (within_at s 58 58 (Ok j)) (first_past 58 j (lit< tt)))

  pub member_past : (p : ℕ → Parsed Json) → ((i : ℕ) → Past s (suc i) (p i).read) → (at : ℕ) → Past s (suc at) (member_at p s at).read
  unfolding member_at
  member_past p g at =
      let k = key_at s at in
      then_past (record { name = []; value = null }) (λ e. let q = p e in record { read = q.read; tree = record { name = k.tree; value = q.tree } }) (suc at) k.read (key_past at)
      (λ e le lt. shorter s (suc at) (suc e) (omega arith) (p e).read (g e))

  -- values
  dispatch_past : (array object : ℕ → Parsed Json) → ((i : ℕ) → Past s (suc i) (array i).read) → ((i : ℕ) → Past s (suc i) (object i).read) → (at : ℕ) → Past s (suc at) (dispatch s array object at).read
  unfolding dispatch
  dispatch_past array object f g at = by_open (λ (q : Parsed Json). Past s (suc at) q.read) (opens (byte s at)) (f at) (g at) (scalar_past at (byte s at))

  pub value_past : (l at : ℕ) → Past s (suc at) (value_at l s at).read
  unfolding value_at
  value_past zero at =
      let i = spaces_at s at in
      shorter s (suc at) (suc i) (omega (arith, spaces_ge at)) (value_at zero s at).read (dispatch_past (λ i. no_value (Err (Deep i))) (λ i. no_value (Err (Deep i))) (λ i. tt) (λ i. tt) i)
  value_past (suc l) at =
      let i = spaces_at s at in
      let p = value_at l s in
      shorter s (suc at) (suc i) (omega (arith, spaces_ge at)) (value_at (suc l) s at).read
      (dispatch_past (λ i. array_at p s (i + 1)) (λ i. object_at p s (i + 1))
      (λ i. let j = spaces_at s (i + 1) in shorter s (suc i) (suc j) (omega (arith, spaces_ge (i + 1))) (list_at p s 93 j).read (list_past p 93 (lit< tt) (value_past l) j))
      (λ i. let j = spaces_at s (i + 1) in shorter s (suc i) (suc j) (omega (arith, spaces_ge (i + 1))) (list_at (member_at p s) s 125 j).read (list_past (member_at p s) 125 (lit< tt) (member_past p (value_past l)) j)) i)

  -- the theorems: past its first byte, any number of turns from the text's length on gives the same string, array or object
  pub body_enough : (m at : ℕ) → 0 < at → 0 < length s → length s ≤ m → body_at s at ≡ run (char_turn s) m at
  body_enough m at h k g = enough (char_turn s) (length s) (run_on (char_turn s) (char_past s)) (length s) m at (omega arith) (omega arith)

  pub items_enough : (l m at : ℕ) → 0 < at → 0 < length s → length s ≤ m → items_of (value_at l s) s 93 (length s) at ≡ items_of (value_at l s) s 93 m at
  items_enough l m at h k g =
      enough (item_turn (value_at l s) s 93) (length s) (run_on (item_turn (value_at l s) s 93) (λ i. after_past 93 (suc i) (lit< tt) (value_at l s i).read (value_past l i))) (length s) m at (omega arith) (omega arith)

  pub members_enough : (l m at : ℕ) → 0 < at → 0 < length s → length s ≤ m → items_of (member_at (value_at l s) s) s 125 (length s) at ≡ items_of (member_at (value_at l s) s) s 125 m at
  members_enough l m at h k g =
      let p = member_at (value_at l s) s in
      enough (item_turn p s 125) (length s) (run_on (item_turn p s 125) (λ i. after_past 125 (suc i) (lit< tt) (p i).read (member_past (value_at l s) (value_past l) i))) (length s) m at (omega arith) (omega arith)
