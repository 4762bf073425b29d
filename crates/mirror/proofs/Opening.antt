-- What is found in a mirror's area, by the tests that the code makes of it. Assumes nothing.
use Rattle.std.specs.Prelude.{Some, None}
use mathlib.Core.Path.{◌≡◌, refl, sym, ap, subst, ◌∙◌}
use mathlib.Core.Bool.{Bool, true, false, ◌&&◌}
use mathlib.Core.List.{List, map}
use Prim.Native.Nat.{ℕ}
use native.Mathlib.Omega.{arith}
use lib.ListN.{length, drop}
use Rattle.model.specs.Limits.{entry_bytes, entry_count, catalog_offset, mirror_bytes}
use Rattle.model.specs.Base.{all}
use Rattle.model.specs.Catalog as packed
use Rattle.model.specs.Areas.{row_from, entries_in, database_in, decode_store, decode_mirror, mirror_of}
use Rattle.inner.specs.Working.{working, Ordered}
use Rattle.model.proofs.Tests.{clash}
use Rattle.model.proofs.Octets.{octet}
use Rattle.catalog.specs.Accepted.{Accepted, is_accepted}
use Rattle.catalog.proofs.Laws.{accepted_of}
use Rattle.area.specs.Layout.{row_count, part_good, PartRead}
use Rattle.area.specs.Writing.{tail_good, when}
use Rattle.area.proofs.Copies.{chunks_length}
use Rattle.area.proofs.Schemas.{read_front}
use Rattle.area.proofs.States.{part_passed, mirror_is, mirror_refused}
use Rattle.mirror.specs.Held.{Held, Opened}

-- ── by what was found ──
module _ {a : List ℕ} {schema : List (List ℕ)} {cells : List (List (List ℕ))} {r : Bool} (o : Opened a schema cells r) where
  pub state_bad : r ≡ false → mirror_of a ≡ None
  state_bad e = o.state ∙ ap (λ (b : Bool). when b (decode_mirror a)) e

  pub state_good : r ≡ true → mirror_of a ≡ Some (decode_mirror a)
  state_good e = o.state ∙ ap (λ (b : Bool). when b (decode_mirror a)) e

-- its rows are in order, by how many the code says they are
pub held_ordered : {a : List ℕ} {schema : List (List ℕ)} {cells : List (List (List ℕ))} → Held a schema cells → (n : ℕ) → n ≡ row_count a → Ordered n cells
held_ordered {cells = cells} h n e = subst (λ (k : ℕ). Ordered k cells) (sym e) h.ordered

-- ── by the tests ──
module _ (a : List ℕ) (size : length a ≡ mirror_bytes) (schema : List (List ℕ)) (cells : List (List (List ℕ))) (there : schema ≡ entries_in a) where
  -- a catalog that is refused
  pub open_refused : is_accepted schema ≡ false → Opened a schema cells false
  open_refused h = record { state = mirror_refused a (ap is_accepted (sym there) ∙ h); held = λ e. absurd (clash false e refl) }

  pub catalog_accepted : is_accepted schema ≡ true → Accepted schema
  catalog_accepted h = accepted_of schema (ap length there ∙ chunks_length entry_bytes entry_count (drop catalog_offset a)) h

  module _ (bytes : all octet a ≡ true) (ok : is_accepted schema ≡ true) where
    same : packed.packed_tables schema ≡ (database_in a).tables
    same = ap packed.packed_tables there

    state : (p t : Bool) → p ≡ part_good schema a → t ≡ tail_good a → mirror_of a ≡ when (p && t) (decode_mirror a)
    state p t x y = mirror_is schema a (omega arith) bytes there ok size ∙ (λ j. when (sym x j && sym y j) (decode_mirror a))

    -- a part in no good order
    pub open_bad : false ≡ part_good schema a → Opened a schema cells false
    open_bad h = record { state = state false (tail_good a) h refl; held = λ e. absurd (clash false e refl) }

    -- a part in good order: the mirror's own bytes decide
    pub open_good : (before : List (List (List ℕ))) (p : Bool) → p ≡ true → PartRead a schema before cells p → (r : Bool) → r ≡ tail_good a → Opened a schema cells r
    unfolding working decode_mirror decode_store
    open_good before p b j r e = record { state = state true r (sym b ∙ j.good) e; held = λ _. held }
      where
        held : Held a schema cells
        held =
            let h = part_passed schema a (omega arith) bytes there ok (sym j.good ∙ b) in
            let q = read_front schema a before j b in
            record {
              accepted = catalog_accepted ok;
              tables = same;
              few = h.few;
              rows = (λ i. map (row_from (same i)) (q i)) ∙ sym h.rows;
              tidy = rw (q, same) h.tidy;
              ordered = j.ordered b;
            }
