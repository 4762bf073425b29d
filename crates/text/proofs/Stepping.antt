-- A string gone through byte by byte. Assumes nothing.
use Rattle.std.specs.declared.ops.ControlFlow.TheVariants.{Continue, Break}
use Rattle.model.specs.Scan.{Read}
use Rattle.std.specs.Prelude.{Option, Some, None}
use mathlib.Core.Path.{◌≡◌, sym, ap, subst, ◌∙◌}
use mathlib.Core.List.{List, [], ◌∷◌, ◌++◌}
use mathlib.Core.Bool.{true, false, cond}
use Prim.Native.Nat.{ℕ, suc, ◌+◌, ◌-◌, ◌<◌, ◌≤◌}
use native.Mathlib.Omega.{arith}
use native.Mathlib.Numerals.{add-one}
use lib.Dec.{eqb, ltb}
use borrow.Author.Tests.{ne_eqb, eq-eqb, lt-ltb, le-ltb, ltb-true, ltb-false}
use lib.ListN.{length, get_or, drop, length-take, length-drop, length-append, get_or-append}
use lib.Seq.{drop-cons, drop-append_seam, get_or-take, get_or-drop}
use Rattle.model.specs.Octets.{eq_bytes}
use Rattle.model.specs.Scan.{byte, between, run, spaces_at}
use Rattle.model.specs.Strings.{utf8, escaped_at, char_by, char_bytes, char_adds, char_turn}
use Rattle.model.specs.Json.{str}
use Rattle.model.specs.Text.{is_word, begins, chars}
use Rattle.inner.specs.Positions.{tree_at, word_in}
use Rattle.scan.proofs.Past.{by_test, PastNext, char_past}
use Rattle.scan.proofs.Enough.{enough, run_on, body_enough}
use Rattle.nav.proofs.FirstByte.{split}
use Rattle.text.proofs.Sizes.{string_size}
use Rattle.text.proofs.Words.{text_tree, word_not, word_text, no_string, place_text, place_none}
use Rattle.text.specs.Steps.{body_place, body_from, Inside, picked, bytes_of, Going, Steps}

-- ── bytes of a character ──
module _ (bytes : List ℕ) (from to : ℕ) where
  pub between_length : to ≤ length bytes → length (between bytes from to) ≡ to - from
  between_length h = omega (arith, length-take (to - from) (drop from bytes), length-drop from bytes)

  between_get : (k : ℕ) → from + k < to → to ≤ length bytes → get_or (between bytes from to) k 0 ≡ get_or bytes (from + k) 0
  between_get k h g = get_or-take (to - from) (drop from bytes) k 0 (omega arith) ∙ get_or-drop from bytes k 0

  module _ (at e off : ℕ) (g : to ≤ length bytes) where
    pub picked_inside : from + off + 1 < to → picked (between bytes from to) at e off ≡ Some ((get_or bytes (from + off) 0), at, (off + 1))
    unfolding picked
    picked_inside h = rw (picked, lt-ltb (off + 1) (length (between bytes from to)) (omega (arith, between_length g)), between_get off (omega arith) g)

    pub picked_last : from + off < to → to ≤ from + off + 1 → picked (between bytes from to) at e off ≡ Some ((get_or bytes (from + off) 0), e, 0)
    unfolding picked
    picked_last k h = rw (picked, le-ltb (off + 1) (length (between bytes from to)) (omega (arith, between_length g)), between_get off k g)

pub plain_bytes : (s : List ℕ) (at e : ℕ) → (byte s at ≡ 92 → ⊥) → char_bytes s at e (byte s at) ≡ between s at e
unfolding char_bytes
plain_bytes s at e n = rw (char_bytes, ne_eqb (byte s at) 92 n)

-- ── characters ──
-- a character stands for one byte at least
AtLeastOne : List ℕ → Type 0
AtLeastOne bs = 0 < length bs

module _ (s : List ℕ) where
  pub char_some : (at e : ℕ) → char_by s at (byte s at) ≡ Continue e → 0 < length (char_bytes s at e (byte s at))
  unfolding char_bytes utf8 AtLeastOne
  char_some at e h =
      let p = subst (PastNext s (suc at)) h (char_past s at) in
      let v = (escaped_at s (at + 2)).tree in
      by_test AtLeastOne (eqb (byte s at) 92)
      (λ t. by_test AtLeastOne (eqb (byte s (at + 1)) 117) (λ u. by_test AtLeastOne (ltb v 128) (λ t. omega arith) (λ t. by_test AtLeastOne (ltb v 2048) (λ t. omega arith) (λ t. by_test AtLeastOne (ltb v 65536) (λ t. omega arith) (λ t. omega arith)))) (λ u. omega arith))
      (λ t. omega (arith, p.0, p.1, length-take (e - at) (drop at s), length-drop at s))

  -- a string is a character, and the rest
  run_more : (n at e : ℕ) → char_by s at (byte s at) ≡ Continue e → (run (char_turn s) (suc n) at).tree ≡ char_bytes s at e (byte s at) ++ (run (char_turn s) n e).tree
  unfolding run char_adds
  run_more n at e h = rw (run, h, h)

  from_more : (at e : ℕ) → char_by s at (byte s at) ≡ Continue e → body_from s at ≡ char_bytes s at e (byte s at) ++ body_from s e
  unfolding body_from
  from_more at e h =
      let p = subst (PastNext s (suc at)) h (char_past s at) in
      run_more (length s) at e h
      ∙ ap (λ r. char_bytes s at e (byte s at) ++ r.tree) (enough (char_turn s) (length s) (run_on s (char_turn s) (char_past s)) (length s) (suc (length s)) e (omega (arith, p.0, p.1)) (omega arith))

  run_done : (n at : ℕ) {r : Read} → char_by s at (byte s at) ≡ Break r → (run (char_turn s) (suc n) at).tree ≡ []
  unfolding run char_adds
  run_done n at h = rw (run, h, h)

  from_done : (at : ℕ) {r : Read} → char_by s at (byte s at) ≡ Break r → body_from s at ≡ []
  unfolding body_from
  from_done at h = run_done (length s) at h

  -- the offset of a byte that there is
  pub offset_in : (at off e : ℕ) → Inside s at off → char_by s at (byte s at) ≡ Continue e → off < length (char_bytes s at e (byte s at))
  unfolding Inside char_adds
  offset_in at off e k h =
      let q : off ≤ length (char_bytes s at e (byte s at)) - 1 = rw h at k in
      omega (arith, q, char_some at e h)

  pub inside_none : (at : ℕ) → Inside s at 0
  unfolding Inside
  inside_none at = omega arith

  -- what was picked of a character
  pub picked_steps : (at e off : ℕ) → char_by s at (byte s at) ≡ Continue e → off < length (char_bytes s at e (byte s at)) → {r : Option (ℕ × ℕ × ℕ)} → r ≡ picked (char_bytes s at e (byte s at)) at e off → Steps s (drop off (body_from s at)) r
  unfolding picked bytes_of Going Inside char_adds
  picked_steps at e off h l {r} q = split (ltb (off + 1) (length bs)) within last
    where
      bs : List ℕ
      bs = char_bytes s at e (byte s at)

      whole : drop off (body_from s at) ≡ get_or bs off 0 ∷ drop (off + 1) (bs ++ body_from s e)
      whole =
          rw (from_more at e h, drop-cons (bs ++ body_from s e) off 0 (omega (arith, length-append bs (body_from s e), l)), get_or-append bs (body_from s e) 0 off l, add-one off)

      within : ltb (off + 1) (length bs) ≡ true → Steps s (drop off (body_from s at)) r
      within t = rw (q, picked, t) (record { bytes = ap (λ x. get_or bs off 0 ∷ drop (off + 1) x) (from_more at e h) ∙ sym whole; going = rw h (omega (arith, ltb-true (off + 1) (length bs) t)) })

      last : ltb (off + 1) (length bs) ≡ false → Steps s (drop off (body_from s at)) r
      last t =
          let z : off + 1 ≡ length bs = omega (arith, ltb-false (off + 1) (length bs) t, l) in
          rw (q, picked, t) (record { bytes = sym (whole ∙ ap (λ n. get_or bs off 0 ∷ drop n (bs ++ body_from s e)) z ∙ ap (λ x. get_or bs off 0 ∷ x) (drop-append_seam bs (body_from s e))); going = omega arith })

  -- the end of a string
  pub done_steps : (at off : ℕ) {r : Read} → Inside s at off → char_by s at (byte s at) ≡ Break r → Steps s (drop off (body_from s at)) None
  unfolding bytes_of Going Inside char_adds
  done_steps at off k h =
      let z : off ≡ 0 = omega (arith, rw h at k) in
      record { bytes = rw (z, from_done at h); going = tt }

-- ── strings compared, and counted ──
module _ (s : List ℕ) where
  -- the bytes after one
  module _ {x : Option (ℕ × ℕ × ℕ)} {b i a : ℕ} (e : x ≡ Some (b, i, a)) where
    pub going_on : Going s x → Inside s i a
    unfolding Going
    going_on h = subst (Going s) e h

    pub bytes_less : length (drop a (body_from s i)) < length (bytes_of s x)
    unfolding bytes_of
    bytes_less = rw e (omega arith)

    -- one byte more of each
    module _ {y : Option (ℕ × ℕ × ℕ)} {c j o : ℕ} (f : y ≡ Some (c, j, o)) where
      pub same_on : b ≡ c → eq_bytes (bytes_of s y) (bytes_of s x) ≡ eq_bytes (drop o (body_from s j)) (drop a (body_from s i))
      unfolding bytes_of
      same_on h = rw (e, f, eq-eqb c b (sym h))

      pub same_off : (b ≡ c → ⊥) → eq_bytes (bytes_of s y) (bytes_of s x) ≡ false
      unfolding bytes_of
      same_off n = rw (e, f, ne_eqb c b (λ h. n (sym h)))

    -- one of the two is at its end
    pub same_short : {y : Option (ℕ × ℕ × ℕ)} → y ≡ None → eq_bytes (bytes_of s y) (bytes_of s x) ≡ false
    unfolding bytes_of
    same_short f = rw (e, f)

    pub same_long : {y : Option (ℕ × ℕ × ℕ)} → y ≡ None → eq_bytes (bytes_of s x) (bytes_of s y) ≡ false
    unfolding bytes_of
    same_long f = rw (e, f)

    -- one byte more counted
    pub chars_on : (n : ℕ) → cond (begins b) (1 + n) n + chars (drop a (body_from s i)) ≡ n + chars (bytes_of s x)
    unfolding bytes_of chars
    chars_on n = rw e (split (begins b) (λ t. rw (chars, t) (omega arith)) (λ t. rw (chars, t)))

  pub same_end : {x y : Option (ℕ × ℕ × ℕ)} → x ≡ None → y ≡ None → eq_bytes (bytes_of s y) (bytes_of s x) ≡ true
  unfolding bytes_of
  same_end e f = rw (e, f)

  pub chars_end : {x : Option (ℕ × ℕ × ℕ)} → x ≡ None → chars (bytes_of s x) ≡ 0
  unfolding bytes_of chars
  chars_end e = rw e

  -- a string is no longer than the text
  pub body_size : (at : ℕ) → length (body_from s at) ≤ length s
  unfolding body_from
  body_size at = omega (arith, string_size s (suc (length s)) at)

  -- where a string begins: a value that is one, and one that is none
  module _ (at : ℕ) where
    body_tree : {i : ℕ} → body_place s at ≡ Some i → tree_at s at ≡ str (body_from s i)
    unfolding body_from
    body_tree h =
        let t = place_text s at h in
        let q = text_tree s at t.0 in
        rw t.1 (q.1 ∙ ap (λ p. str p.tree) (body_enough s (suc (length s)) (spaces_at s at + 1) (omega arith) (omega (arith, q.0)) (omega arith)))

    pub word_begins : {i : ℕ} → body_place s at ≡ Some i → word_in (tree_at s at) ≡ body_from s i
    unfolding word_in
    word_begins h = rw (body_tree h)

    pub word_none : body_place s at ≡ None → word_in (tree_at s at) ≡ []
    word_none h = no_string (tree_at s at) (place_none s at h)

    pub same_begins : (w : List ℕ) {i : ℕ} → body_place s at ≡ Some i → is_word w (tree_at s at) ≡ eq_bytes (body_from s i) w
    same_begins w {i} h = sym (word_text w (body_from s i) (body_tree h))

    pub same_none : (w : List ℕ) → body_place s at ≡ None → is_word w (tree_at s at) ≡ false
    same_none w h = sym (word_not w (tree_at s at) (place_none s at h))
