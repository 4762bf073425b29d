-- What a mirror tells of itself. Assumes nothing.
use Rattle.std.specs.Prelude.{Option, Some, None}
use mathlib.Core.Path.{◌≡◌, refl, sym, ap, ◌∙◌}
use mathlib.Core.Bool.{Bool}
use mathlib.Core.List.{List}
use Prim.Native.Nat.{ℕ}
use borrow.Author.Tests.{eqb-true, eqb-false}
use lib.Dec.{eqb}
use lib.ListN.{length, replicate}
use lib.Seq.{get_or-drop}
use Rattle.model.specs.Limits.{store_bytes, mirror_bytes}
use Rattle.model.specs.Octets.{value}
use Rattle.model.specs.Catalog as packed
use Rattle.model.specs.Rows.{Row, key_of, has}
use Rattle.inner.specs.Working.{working}
use Rattle.model.specs.Mirror.{Mirror, level}
use Rattle.model.specs.Areas.{decode_store, MirrorState, decode_mirror, mirror_of}
use Rattle.model.specs.Calls.{asked, Progress, progress_of, Presence, presence_of, Contents, no_contents, contents_of, mirror_column}
use Rattle.model.specs.declared.Status.{Status}
use Rattle.model.specs.declared.Status.TheVariants.{Accepted, Disordered, WrongLength}
use Rattle.model.proofs.TextUtf8.{by_test}
use Rattle.area.specs.Writing.{top_in, number_in}
use Rattle.area.specs.Layout.{row_count}
use Rattle.arrival.specs.declared.Numbers.{Numbers}
use Rattle.arrival.specs.Steps.{level_of, column_of}
use Rattle.arrival.specs.Steps as steps
use Rattle.mirror.specs.Held.{Held, numbers_in}
use Rattle.mirror.specs.declared.Standing.{Standing}
use Rattle.mirror.specs.declared.Presence as code

-- a mirror is its numbers and its rows
pub numbers_are : (a : List ℕ) → steps.mirror_of (numbers_in a) (decode_mirror a).mirror.rows ≡ (decode_mirror a).mirror
unfolding numbers_in decode_mirror decode_store
numbers_are a =
    let x = sym (get_or-drop store_bytes a 4 0) in
    let y = sym (get_or-drop store_bytes a 5 0) in
    λ j. record { rows = (decode_mirror a).mirror.rows; n = number_in a; top = top_in a; heard = eqb (x j) 1; whole = eqb (y j) 1 }

pub progress_is : (a : List ℕ) (m : Numbers) (l : Bool) → m ≡ numbers_in a → l ≡ level_of m → progress_of (decode_mirror a).mirror ≡ record { status = Accepted; n = m.n; level = l }
unfolding level_of
progress_is a m l e f =
    let n : m.n ≡ (decode_mirror a).mirror.n = ap (λ (x : Numbers). x.n) e ∙ ap (λ (x : Mirror). x.n) (numbers_are a) in
    let v : l ≡ level (decode_mirror a).mirror = f ∙ ap level_of e ∙ ap level (numbers_are a) in
    λ j. record { status = Accepted; n = sym n j; level = sym v j }

-- the code's results, as the model has them
abbrev pub progress_in : Standing → Progress
progress_in r = record { status = r.status; n = r.n; level = r.level }

abbrev pub presence_in : code.Presence → Presence
presence_in r = record { status = r.status; there = r.there }

-- what the code found of the rows is what the area's mirror has
module _ {a : List ℕ} {schema : List (List ℕ)} {cells : List (List (List ℕ))} (h : Held a schema cells) (count : ℕ) (e : count ≡ row_count a) where
  rows_found : working (packed.packed_tables schema) count cells ≡ (decode_mirror a).mirror.rows
  rows_found = ap (λ (n : ℕ). working (packed.packed_tables schema) n cells) e ∙ h.rows

  pub there_is : (t : ℕ) (id : List ℕ) (r : Bool) → r ≡ has (key_of t (value id)) (working (packed.packed_tables schema) count cells) → presence_of t id (decode_mirror a).mirror ≡ record { status = Accepted; there = r }
  there_is t id r p = ap (λ (b : Bool). record { status = Accepted; there = b }) (sym (p ∙ ap (has (key_of t (value id))) rows_found))

  pub contents_are : (t : ℕ) (id : List ℕ) (c : ℕ) (out : List ℕ) → out ≡ column_of (working (packed.packed_tables schema) count cells) t (value id) c → contents_of t id c (decode_mirror a).mirror ≡ record { status = Accepted; out = out }
  unfolding column_of
  contents_are t id c out p = ap (λ (l : List ℕ). record { status = Accepted; out = l }) (sym (p ∙ ap (λ (l : List Row). column_of l t (value id) c) rows_found))

-- a question, by what was found
module _ {A : Type 0} (a : List ℕ) (refuse : Status → A) (ask : Mirror → A) where
  pub ask_other : (length a ≡ mirror_bytes → ⊥) → asked a refuse ask ≡ refuse WrongLength
  ask_other h = by_test (λ (z : A). z ≡ refuse WrongLength) (eqb (length a) mirror_bytes) (λ e. absurd (h (eqb-true (length a) mirror_bytes e))) (λ e. refl)

  module _ (size : length a ≡ mirror_bytes) where
    chosen : Option MirrorState → A
    chosen o = elim o [ None ↦ refuse Disordered | Some m ↦ ask m.mirror ]

    by_state : asked a refuse ask ≡ chosen (mirror_of a)
    unfolding chosen
    by_state = by_test (λ (z : A). z ≡ chosen (mirror_of a)) (eqb (length a) mirror_bytes) (λ e. refl) (λ e. absurd (eqb-false (length a) mirror_bytes e size))

    pub ask_bad : mirror_of a ≡ None → asked a refuse ask ≡ refuse Disordered
    unfolding chosen
    ask_bad e = by_state ∙ ap chosen e

    pub ask_state : (m : MirrorState) → mirror_of a ≡ Some m → asked a refuse ask ≡ ask m.mirror
    unfolding chosen
    ask_state m e = by_state ∙ ap chosen e

    pub ask_good : mirror_of a ≡ Some (decode_mirror a) → asked a refuse ask ≡ ask (decode_mirror a).mirror
    ask_good e = ask_state (decode_mirror a) e

-- a column's question: an output or an area of another length, and one that is answered
module _ (a : List ℕ) (t : ℕ) (id : List ℕ) (c : ℕ) (out : List ℕ) where
  pub column_other : (length out ≡ 101 → length a ≡ mirror_bytes → ⊥) → mirror_column a t id c out ≡ record { status = WrongLength; out = replicate (length out) 0 }
  unfolding mirror_column
  column_other h =
      by_test (λ (z : Contents). z ≡ no_contents out WrongLength) (eqb (length out) 101)
      (λ e. ask_other a (no_contents out) (contents_of t id c) (h (eqb-true (length out) 101 e)))
      (λ e. refl)

  pub column_asked : length out ≡ 101 → mirror_column a t id c out ≡ asked a (no_contents out) (contents_of t id c)
  unfolding mirror_column
  column_asked h =
      by_test (λ (z : Contents). z ≡ asked a (no_contents out) (contents_of t id c)) (eqb (length out) 101) (λ e. refl) (λ e. absurd (eqb-false (length out) 101 e h))
