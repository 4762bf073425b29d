-- A mirror that starts. Assumes nothing.
use Rattle.std.specs.Prelude.{Some, None}
use mathlib.Core.Path.{◌≡◌, refl, sym, ap, ◌∙◌}
use mathlib.Core.Bool.{true, false}
use mathlib.Core.List.{List, ◌++◌}
use Prim.Native.Nat.{ℕ, ◌<◌}
use native.Mathlib.Omega.{arith}
use borrow.Author.Tests.{eqb-true, eqb-false}
use lib.Dec.{eqb}
use lib.ListN.{length, drop, length-drop}
use Rattle.model.specs.Limits.{store_bytes, mirror_bytes}
use Rattle.model.specs.Schema.{Database}
use Rattle.model.specs.SchemaText.{read_schema}
use Rattle.model.specs.Areas.{encode_store, encode_mirror}
use Rattle.inner.specs.Working.{working}
use Rattle.model.specs.Calls.{Started, new_mirror, mirror_start}
use Rattle.model.specs.declared.Status.TheVariants.{Accepted, WrongLength, BadSchema}
use Rattle.model.proofs.TextUtf8.{by_test}
use Rattle.model.proofs.SchemaLaws.{read_sane}
use Rattle.model.proofs.Areas.{Fits}
use Rattle.area.specs.Writing.{placed, tail_bytes, store_in}
use Rattle.area.proofs.Writes.{tail_put}

module _ (a schema : List ℕ) (run : ℕ) where
  pub start_other : (length a ≡ mirror_bytes → ⊥) → mirror_start a schema run ≡ record { status = WrongLength; area = a }
  unfolding mirror_start
  start_other h = by_test (λ (z : Started). z ≡ record { status = WrongLength; area = a }) (eqb (length a) mirror_bytes) (λ e. absurd (h (eqb-true (length a) mirror_bytes e))) (λ e. refl)

  module _ (size : length a ≡ mirror_bytes) where
    pub start_refused : read_schema schema ≡ None → mirror_start a schema run ≡ record { status = BadSchema; area = a }
    unfolding mirror_start
    start_refused h =
        by_test (λ (z : Started). z ≡ record { status = BadSchema; area = a }) (eqb (length a) mirror_bytes) (λ e. rw h) (λ e. absurd (eqb-false (length a) mirror_bytes e size))

    -- the store's part with no rows written, and then the mirror's own bytes
    pub start_is : (cells : List (List (List ℕ))) (d : Database) (x y : List ℕ) → read_schema schema ≡ Some d → run < 4294967296 → x ≡ encode_store (store_in d run 0 0 cells) ++ drop store_bytes a → y ≡ placed store_bytes 6 (tail_bytes 0 false true) x
        → mirror_start a schema run ≡ record { status = Accepted; area = y }
    unfolding mirror_start encode_mirror store_in working tail_bytes
    start_is cells d x y h u p q =
        let f : Fits (store_in d run 0 0 cells) = record { run = omega arith; number = omega arith; accepted = read_sane schema d h; few = omega arith; rows = tt } in
        let e : y ≡ encode_mirror (new_mirror run d) = q ∙ ap (placed store_bytes 6 (tail_bytes 0 false true)) p ∙ tail_put (store_in d run 0 0 cells) f (drop store_bytes a) 0 false true (omega (arith, length-drop store_bytes a)) in
        by_test (λ (z : Started). z ≡ record { status = Accepted; area = y }) (eqb (length a) mirror_bytes)
        (λ _. rw h (ap (λ (z : List ℕ). record { status = Accepted; area = z }) (sym e)))
        (λ b. absurd (eqb-false (length a) mirror_bytes b size))
