-- What an arrival that is welcome does to rows, by its kind. Assumes nothing.
use mathlib.Core.Path.{◌≡◌, refl, sym, ap, ◌∙◌}
use mathlib.Core.Bool.{true, false, not, ◌&&◌}
use mathlib.Core.List.{List, [], ◌∷◌}
use Prim.Native.Nat.{ℕ, ◌+◌, ◌≤◌, ◌<◌}
use native.Mathlib.Omega.{arith}
use borrow.Author.Tests.{ltb-true}
use lib.Dec.{ltb}
use lib.ListN.{length, get_or}
use Rattle.catalog.specs.Accepted.{Accepted}
use Rattle.catalog.proofs.Laws.{few_tables, few_columns_lem}
use Rattle.model.specs.Octets.{value}
use Rattle.model.specs.Schema.{Schema, columns_of}
use Rattle.model.specs.Rows.{Row, key_of, has, has_id}
use Rattle.model.specs.Records.{act, known, allows, born, gone, column}
use Rattle.model.specs.Areas.{row_cells, row_from}
use Rattle.model.specs.Catalog.{packed_tables}
use Rattle.inner.specs.Working.{working, new_row}
use Rattle.model.proofs.Tests.{clash, and_l, and_r}
use Rattle.inner.proofs.NewRows.{new_row_read, new_row_tidy}
use Rattle.model.proofs.GoodOrder.{known_short, known_table}
use Rattle.record.specs.Reading.{id_in, atoms_in, arrival_record, column_counts, listed_record}
use Rattle.record.specs.declared.Born as record-born
use Rattle.record.specs.declared.Gone as record-gone
use Rattle.record.specs.declared.Column as record-column
use Rattle.record.specs.declared.Arrival.{Arrival}
use Rattle.record.specs.declared.Arrival.TheVariants as arrival
use Rattle.rows.specs.Post.{Added}
use Rattle.area.proofs.Schemas.{tables_count}
use Rattle.arrival.specs.Steps.{sound_record, fits_record, canonical_record, act_record, Welcome, Left}
use Rattle.arrival.proofs.Records.{columns_count, sound_is, listed_table, listed_column}

-- the same rows by another name
pub left_as : (s : Schema) (x y : List Row) (n : ℕ) (cells : List (List (List ℕ))) (l : ℕ) (exit : List (List (List ℕ))) → x ≡ y → Left s x n cells l exit → Left s y n cells l exit
left_as s x y n cells l exit e h = record { same = h.same ∙ e; few = h.few; tidy = h.tidy }

-- a new row put in
module _ (cells : List (List ℕ)) (held : Accepted cells) (t i : ℕ) (k : known (packed_tables cells) t i ≡ true) where
  abbrev s : Schema
  s = packed_tables cells

  pub known_here : t < get_or (get_or cells 0 []) 25 0
  known_here = omega (arith, known_table s t i k, tables_count cells 0 (get_or (get_or cells 0 []) 25 0))

  pub narrow : length (columns_of s t) ≤ 6
  narrow =
      let h = known_here in
      let f = few_tables _ (held) in
      omega (arith, columns_count cells held t h, few_columns_lem _ (held) t (omega arith))

  pub added_left : (n : ℕ) (rows exit : List (List (List ℕ))) (row : List (List ℕ)) → n < 32 → row ≡ row_cells (new_row t i (columns_of s t)) → Added n row rows exit → Left s (act s (born t i) (working s n rows)) n rows (n + 1) exit
  added_left n rows exit row h e a =
      let short = known_short s t i k in
      record {
        same = a.rows s ∙ ap (λ (r : Row). Rattle.model.specs.Rows.add r (working s n rows)) (ap (row_from s) e ∙ new_row_read s t i narrow short);
        few = omega arith;
        tidy = λ g z. a.tidy s z (rw e (new_row_tidy s t i narrow short));
      }

-- ── what is known of a welcome arrival ──
module _ (cells : List (List ℕ)) (held : Accepted cells) (a : Arrival) (bytes : List ℕ) (rows : List Row) (w : Welcome (packed_tables cells) rows (arrival_record a bytes)) where
  pub born_known : (r : record-born.Born) → a ≡ arrival.Born r → known (packed_tables cells) r.table (value (id_in bytes)) ≡ true
  unfolding arrival_record sound_record
  born_known r e = rw e at w.sound

  pub born_room : (r : record-born.Born) → a ≡ arrival.Born r → length rows < 32
  unfolding arrival_record fits_record
  born_room r e = ltb-true (length rows) 32 (and_r (not (has_id (value (id_in bytes)) rows)) (ltb (length rows) 32) (rw e at w.fits))

  pub gone_there : (r : record-gone.Gone) → a ≡ arrival.Gone r → has (key_of r.table (value (id_in bytes))) rows ≡ true
  unfolding arrival_record fits_record
  gone_there r e = rw e at w.fits

  pub gone_some : (r : record-gone.Gone) → a ≡ arrival.Gone r → 0 < length rows
  gone_some r e = go rows (gone_there r e)
    where
      go : (l : List Row) → has (key_of r.table (value (id_in bytes))) l ≡ true → 0 < length l
      go [] h = absurd (clash false h refl)
      go (x ∷ l) h = omega arith

  pub column_known : (r : record-column.Column) → a ≡ arrival.Column r → known (packed_tables cells) r.table (value (id_in bytes)) ≡ true
  unfolding arrival_record sound_record
  column_known r e =
      let h : (known (packed_tables cells) r.table (value (id_in bytes)) && allows (columns_of (packed_tables cells) r.table) r.column (record { count = r.count; atoms = atoms_in bytes })) ≡ true = rw e at w.sound in
      and_l (known (packed_tables cells) r.table (value (id_in bytes))) (allows (columns_of (packed_tables cells) r.table) r.column (record { count = r.count; atoms = atoms_in bytes })) h

  pub column_here : (r : record-column.Column) → a ≡ arrival.Column r → r.column < length (columns_of (packed_tables cells) r.table)
  column_here r e =
      let o = arrival_record a bytes in
      let h = and_l (listed_record (column_counts (packed_tables cells)) o) (canonical_record (packed_tables cells) o) (sym (sound_is (packed_tables cells) o) ∙ w.sound) in
      omega (arith, listed_column cells held a bytes r e h, columns_count cells held r.table (listed_table cells held a bytes r e h))

-- ── what each kind does ──
module _ (s : Schema) (a : Arrival) (bytes : List ℕ) (rows : List Row) (i : List ℕ) (p : i ≡ id_in bytes) where
  pub acts_born : (r : record-born.Born) → a ≡ arrival.Born r → act s (born r.table (value i)) rows ≡ act_record s (arrival_record a bytes) rows
  unfolding arrival_record act_record
  acts_born r e = rw e (ap (λ (l : List ℕ). act s (born r.table (value l)) rows) p)

  pub acts_gone : (r : record-gone.Gone) → a ≡ arrival.Gone r → act s (gone r.table (value i)) rows ≡ act_record s (arrival_record a bytes) rows
  unfolding arrival_record act_record
  acts_gone r e = rw e (ap (λ (l : List ℕ). act s (gone r.table (value l)) rows) p)

  pub acts_column : (r : record-column.Column) (c : ℕ) (atoms : List (List ℕ)) → a ≡ arrival.Column r → c ≡ r.column → atoms ≡ atoms_in bytes
      → act s (column r.table (value i) c (record { count = r.count; atoms = atoms })) rows ≡ act_record s (arrival_record a bytes) rows
  unfolding arrival_record act_record
  acts_column r c atoms e q x = rw e (λ j. act s (column r.table (value (p j)) (q j) (record { count = r.count; atoms = x j })) rows)
