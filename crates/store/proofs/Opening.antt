-- The store of an area, by the tests that the code makes one after another. Assumes nothing.
use Rattle.std.specs.Prelude.{Some, None}
use mathlib.Core.Path.{◌≡◌, refl, sym, ap, ◌∙◌}
use mathlib.Core.Bool.{Bool, true, false, ◌&&◌}
use mathlib.Core.List.{List}
use Prim.Native.Nat.{ℕ, ◌≤◌}
use native.Mathlib.Omega.{arith}
use lib.ListN.{length, take, drop}
use Rattle.model.specs.Limits.{entry_bytes, entry_count, catalog_offset, store_bytes}
use Rattle.model.specs.Base.{all}
use Rattle.model.specs.Schema.{Schema}
use Rattle.model.specs.Catalog as packed
use Rattle.model.specs.Commit.{lawful}
use Rattle.model.specs.Areas.{decode_store, entries_in, store_of}
use Rattle.inner.specs.Working.{working}
use Rattle.model.proofs.Tests.{clash}
use Rattle.model.proofs.Octets.{octet}
use Rattle.area.specs.Layout.{row_count, rows_at, part_good, PartRead}
use Rattle.area.specs.Writing.{number_in, store_in, when}
use Rattle.area.proofs.Copies.{chunks_length}
use Rattle.area.proofs.Good.{Holds}
use Rattle.area.proofs.Schemas.{read_front}
use Rattle.area.proofs.States.{part_passed}
use Rattle.row_types.specs.Met.{rows_meet}
use Rattle.row_types.proofs.Passing.{rows_held, store_when}
use Rattle.catalog.specs.Accepted.{Accepted}
use Rattle.catalog.proofs.Laws.{accepted_of}
use Rattle.store.specs.GoodOrder.{run_in, Kept, RowsOpened, Opened}

-- ── an area in no good order ──
module _ (a : List ℕ) (cells : List (List ℕ)) (before rows : List (List (List ℕ))) where
  none_opened : store_of a ≡ None → length rows ≡ length before → RowsOpened a cells before rows false
  none_opened h g = record { good = λ e. absurd (clash false e refl); bad = λ e. h; room = g }

  -- of another length, and with a catalog that is not accepted
  pub opened_other : (length a ≡ store_bytes → ⊥) → store_of a ≡ None → Opened a cells cells before before false
  opened_other n h = record { good = λ e. absurd (clash false e refl); bad = λ e. h; untouched = λ t. (refl, refl); read = λ t. absurd (n t); room = refl }

  pub opened_refused : length a ≡ store_bytes → (catalog : List (List ℕ)) → catalog ≡ entries_in a → store_of a ≡ None → Opened a cells catalog before before false
  opened_refused l catalog q h = record { good = λ e. absurd (clash false e refl); bad = λ e. h; untouched = λ t. absurd (t l); read = λ t. q; room = refl }

  pub opened_rows : length a ≡ store_bytes → (catalog : List (List ℕ)) → catalog ≡ entries_in a → {r : Bool} → RowsOpened a catalog before rows r → Opened a cells catalog before rows r
  opened_rows l catalog q o = record { good = o.good; bad = o.bad; untouched = λ t. absurd (t l); read = λ t. q; room = o.room }

-- ── by the tests of its bytes, of the types, and of the commit rules ──
module _ (a : List ℕ) (cells : List (List ℕ)) (x : Kept a cells) where
  pub cells_accepted : Accepted cells
  cells_accepted = accepted_of cells (ap length x.there ∙ chunks_length entry_bytes entry_count (drop catalog_offset a)) x.accepted

module _ (a : List ℕ) (cells : List (List ℕ)) (x : Kept a cells) (size : length a ≡ store_bytes) (bytes : all octet a ≡ true) where
  abbrev s : Schema
  s = packed.packed_tables cells

  module _ (before rows : List (List (List ℕ))) (b : Bool) (j : PartRead a cells before rows b) where
    is : store_of a ≡ when (part_good cells a && (rows_meet cells (row_count a) rows && lawful s (working s (row_count a) rows))) (decode_store a)
    is = store_when cells a (omega arith) bytes x.there x.accepted rows size (λ e. read_front cells a before j (j.good ∙ e))

    pub opened_part : length rows ≡ length before → b ≡ false → RowsOpened a cells before rows false
    opened_part g e = none_opened a cells before rows (is ∙ rw (sym j.good ∙ e)) g

    module _ (good : b ≡ true) where
      front : take (row_count a) rows ≡ rows_at (row_count a) a
      front = read_front cells a before j good

      passed : part_good cells a ≡ true
      passed = sym j.good ∙ good

      holds : Holds a
      holds = part_passed cells a (omega arith) bytes x.there x.accepted passed

      pub rows_few : row_count a ≤ 32
      rows_few = holds.few

      store_here : decode_store a ≡ store_in (packed.database_from cells) (run_in a) (number_in a) (row_count a) rows
      unfolding decode_store store_in
      store_here = λ i. record { run = run_in a; number = number_in a; database = packed.database_from (sym x.there i); rows = rows_held cells a (omega arith) bytes x.there x.accepted rows passed front i }

      module _ (n : ℕ) (e : n ≡ row_count a) where
        pub opened_types : length rows ≡ length before → rows_meet cells n rows ≡ false → RowsOpened a cells before rows false
        opened_types g h =
            let m : rows_meet cells (row_count a) rows ≡ false = ap (λ (k : ℕ). rows_meet cells k rows) (sym e) ∙ h in
            none_opened a cells before rows (is ∙ rw (passed, m)) g

        module _ (met : rows_meet cells n rows ≡ true) where
          m : rows_meet cells (row_count a) rows ≡ true
          m = ap (λ (k : ℕ). rows_meet cells k rows) (sym e) ∙ met

          pub opened_rules : length rows ≡ length before → (r : Bool) → r ≡ lawful s (working s n rows) → RowsOpened a cells before rows r
          opened_rules g true d =
              let l : lawful s (working s (row_count a) rows) ≡ true = ap (λ (k : ℕ). lawful s (working s k rows)) (sym e) ∙ sym d in
              record {
                good = λ _. record {
                  size = size;
                  store = is ∙ rw (passed, m, l) (ap Some store_here);
                  accepted = cells_accepted a cells x;
                  few = holds.few;
                  tidy = rw (ap packed.packed_tables x.there, front) holds.tidy;
                  ordered = j.ordered good;
                  read = front;
                };
                bad = λ q. absurd (clash true refl q);
                room = g;
              }
          opened_rules g false d =
              let l : lawful s (working s (row_count a) rows) ≡ false = ap (λ (k : ℕ). lawful s (working s k rows)) (sym e) ∙ sym d in
              none_opened a cells before rows (is ∙ rw (passed, m, l)) g
