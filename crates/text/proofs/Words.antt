-- Strings of a text as values. Assumes nothing.
use Rattle.std.specs.Prelude.{Ok}
use Rattle.std.proofs.lemmas.Option.{none-some}
use Rattle.std.specs.Prelude.{Option, Some, None}
use mathlib.Core.Path.{◌≡◌, refl, sym, ap, ◌∙◌}
use mathlib.Core.List.{List, []}
use mathlib.Core.Bool.{Bool, true, false}
use Prim.Native.Nat.{ℕ, ◌+◌, ◌-◌, ◌<◌, ◌≤◌}
use native.Mathlib.Omega.{arith}
use lib.ListN.{length, take}
use lib.Dec.{lit<}
use Rattle.model.specs.declared.Kind.{Kind}
use Rattle.model.specs.declared.Kind.TheVariants.{Null, Truth, Number, Text, Array, Object}
use Rattle.model.specs.Octets.{eq_bytes}
use Rattle.model.specs.Scan.{byte, spaces_at, and_then, within_at}
use Rattle.model.specs.Strings.{body_at, string_at}
use Rattle.model.specs.Json.{Json, null, bool, num, str, arr, obj}
use Rattle.inner.specs.Positions.{tree_at}
use Rattle.model.specs.Nav.{kind_of, is_text}
use Rattle.inner.specs.Positions.{kind_by, word_in, quote_from, is_nothing, escaped}
use Rattle.model.specs.Text.{is_word}
use Rattle.scan.proofs.Bytes.{inside_byte}
use Rattle.nav.proofs.FirstByte.{split, kind_is, text_is_lem}
use Rattle.text.specs.Push.{Pushed, count_of}
use Rattle.text.specs.Match.{Held}
use Rattle.text.specs.Steps.{body_place}
use Rattle.text.proofs.Pushing.{held, pushed_whole}
use Rattle.text.proofs.Sizes.{quote_is, string_size}

-- a string's bytes
pub text_kind : (k : Kind) → is_text k ≡ true → k ≡ Text
text_kind Text h = refl
text_kind Null h = absurd (let z : ◌≡◌ {A = ℕ} 0 1 = cc in omega arith)
text_kind Truth h = absurd (let z : ◌≡◌ {A = ℕ} 0 1 = cc in omega arith)
text_kind Number h = absurd (let z : ◌≡◌ {A = ℕ} 0 1 = cc in omega arith)
text_kind Array h = absurd (let z : ◌≡◌ {A = ℕ} 0 1 = cc in omega arith)
text_kind Object h = absurd (let z : ◌≡◌ {A = ℕ} 0 1 = cc in omega arith)

pub word_not : (w : List ℕ) (j : Json) → is_text (kind_of j) ≡ false → false ≡ is_word w j
unfolding kind_of is_word
word_not w null h = refl
word_not w (bool b) h = refl
word_not w (num t) h = refl
word_not w (str t) h = absurd (let z : ◌≡◌ {A = ℕ} 0 1 = cc in omega arith)
word_not w (arr xs) h = refl
word_not w (obj ms) h = refl

pub word_text : (w t : List ℕ) {j : Json} → j ≡ str t → eq_bytes t w ≡ is_word w j
unfolding is_word
word_text w t h = rw h

pub text_tree : (s : List ℕ) (at : ℕ) → is_text (kind_of (tree_at s at)) ≡ true → (spaces_at s at < length s) × (tree_at s at ≡ str (body_at s (spaces_at s at + 1)).tree)
unfolding string_at and_then within_at
text_tree s at h =
    let q = text_is_lem s at (text_kind (kind_of (tree_at s at)) h) in
    let i = spaces_at s at in
    let z : within_at s 34 34 (Ok i) ≡ Ok (i + 1) = rw (within_at, q.0, q.0) in
    (inside_byte s i 34 q.0 (lit< tt), q.1 ∙ rw (string_at, z))

pub no_string : (j : Json) → is_text (kind_of j) ≡ false → word_in j ≡ []
unfolding kind_of word_in
no_string null h = refl
no_string (bool b) h = refl
no_string (num t) h = refl
no_string (str t) h = absurd (let z : ◌≡◌ {A = ℕ} 0 1 = cc in omega arith)
no_string (arr xs) h = refl
no_string (obj ms) h = refl

-- the place of a string's characters tells what the value is
place_by : {i : ℕ} (s : List ℕ) (at : ℕ) (b : Bool) → elim b [ true ↦ Some (spaces_at s at + 1) | false ↦ None ] ≡ Some i → (b ≡ true) × (i ≡ spaces_at s at + 1)
place_by s at true h = (refl, cc)
place_by s at false h = absurd (let z : ◌≡◌ {A = ℕ} 0 1 = cc in omega arith)

none_by : (s : List ℕ) (at : ℕ) (b : Bool) → ◌≡◌ {A = Option ℕ} (elim b [ true ↦ Some (spaces_at s at + 1) | false ↦ None ]) None → b ≡ false
none_by s at true h = absurd (none-some (spaces_at s at + 1) (sym h))
none_by s at false h = refl

pub place_text : {i : ℕ} (s : List ℕ) (at : ℕ) → body_place s at ≡ Some i → (is_text (kind_of (tree_at s at)) ≡ true) × (i ≡ spaces_at s at + 1)
unfolding body_place
place_text s at h = place_by s at (is_text (kind_of (tree_at s at))) h

pub place_none : (s : List ℕ) (at : ℕ) → body_place s at ≡ None → is_text (kind_of (tree_at s at)) ≡ false
unfolding body_place
place_none s at h = none_by s at (is_text (kind_of (tree_at s at))) h

pub place_tree : {i : ℕ} (s : List ℕ) (at : ℕ) → body_place s at ≡ Some i → tree_at s at ≡ str (body_at s i).tree
place_tree s at h = let t = place_text s at h in rw t.1 (text_tree s at t.0).1

-- and its first byte tells the place
pub quote_place : (s : List ℕ) (at : ℕ) → byte s (spaces_at s at) ≡ 34 → Some (spaces_at s at + 1) ≡ body_place s at
unfolding body_place kind_by
quote_place s at h = let k : kind_of (tree_at s at) ≡ Text = kind_is s at ∙ ap kind_by h in rw (body_place, k)

pub other_place : (s : List ℕ) (at : ℕ) → (byte s (spaces_at s at) ≡ 34 → ⊥) → None ≡ body_place s at
unfolding body_place
other_place s at h = split (is_text (kind_of (tree_at s at))) (λ t. absurd (h (text_is_lem s at (text_kind (kind_of (tree_at s at)) t)).0)) (λ f. rw (body_place, f))

-- where a string is held
module _ (s : List ℕ) (at : ℕ) where
  pub none_held : (scratch : List ℕ) → is_text (kind_of (tree_at s at)) ≡ false → Held s scratch scratch false 0 0 (escaped s at) (word_in (tree_at s at))
  unfolding escaped
  none_held scratch t = record { place = rw (escaped, t); decoded = rw (escaped, t); fits = omega arith; bytes = sym (no_string (tree_at s at) t) }

  module _ (t : is_text (kind_of (tree_at s at)) ≡ true) {i : ℕ} (q : i ≡ spaces_at s at + 1) where
    string_is : word_in (tree_at s at) ≡ (body_at s i).tree
    unfolding word_in
    string_is = rw ((text_tree s at t).1, q)

    escaped_is : escaped s at ≡ is_nothing (quote_from s (length s) i)
    unfolding escaped
    escaped_is = rw (escaped, t, q)

    pub plain_from : {e : ℕ} → quote_from s (length s) i ≡ Some e → i ≤ e
    plain_from {e} h = (quote_is s (length s) i e h).1

    pub plain_held : (scratch : List ℕ) {e : ℕ} → quote_from s (length s) i ≡ Some e → Held s scratch scratch false i (e - i) (escaped s at) (word_in (tree_at s at))
    unfolding is_nothing
    plain_held scratch {e} h =
        let z = quote_is s (length s) i e h in
        let plain : false ≡ escaped s at = sym (escaped_is ∙ ap is_nothing h) in
        record { place = plain; decoded = rw (sym plain); fits = omega (arith, z.1, z.2); bytes = sym (string_is ∙ z.0) }

    pub decoded_held : {scratch after : List ℕ} {r : Option ℕ} {n : ℕ} → quote_from s (length s) i ≡ None → length s ≤ length scratch
        → Pushed scratch (Some 0) (body_at s i).tree r after → n ≡ count_of r → Held s scratch after true 0 n (escaped s at) (word_in (tree_at s at))
    unfolding is_nothing
    decoded_held {scratch} {after} {r} {n} h l p e =
        let inside : escaped s at ≡ true = escaped_is ∙ ap is_nothing h in
        let k = string_size s (length s) i in
        let f = held p (omega (arith, k, l)) in
        let m : n ≡ length (body_at s i).tree = e ∙ f.0 in
        record { place = sym inside; decoded = (pushed_whole p (omega (arith, k, l))).1 ∙ rw (inside, string_is); fits = omega (arith, m, f.2, k, l); bytes = ap (λ x. take x after) m ∙ f.1 ∙ sym string_is }
