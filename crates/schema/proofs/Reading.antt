-- A text that is a schema, and one that is none. Assumes nothing.
use Rattle.std.specs.Prelude.{Some, None}
use mathlib.Core.Path.{◌≡◌, refl, sym, ap, ◌∙◌}
use mathlib.Core.List.{List}
use mathlib.Core.Bool.{Bool, true, false}
use Prim.Native.Nat.{ℕ, ◌<◌, ◌≤◌}
use borrow.Author.Tests.{le-leb, lt-leb}
use lib.ListN.{length}
use Rattle.model.specs.Base.{is_some}
use Rattle.model.specs.Json.{Json, text_at}
use Rattle.model.specs.Nav.{is_read}
use Rattle.inner.specs.Positions.{tree_at, well_at}
use Rattle.model.specs.SchemaText.{schema_fits, database_of, schema_of, read_schema}
use Rattle.model.proofs.Tests.{split, clash}
use Rattle.json_reader.proofs.Whole.{text_well}
use Rattle.tables.specs.Tables.{FewColumns}
use Rattle.schema.specs.Schema.{Filled, EntriesRead}
use Rattle.schema.proofs.Members.{blanks, blank_tables, blank_columns}

some_schema : (j : Json) → is_some (schema_of j) ≡ schema_fits j
unfolding schema_of
some_schema j = split (schema_fits j) (λ e. rw (schema_of, e)) (λ e. rw (schema_of, e))

taken : (j : Json) → schema_fits j ≡ true → schema_of j ≡ Some (database_of j)
unfolding schema_of
taken j h = rw (schema_of, h)

module _ (s : List ℕ) where
  refused : read_schema s ≡ None → EntriesRead s false blanks
  unfolding FewColumns
  refused h =
      record {
        accepted = sym (ap is_some h);
        database = λ e. absurd (clash false e refl);
        size = refl;
        tables = blank_tables;
        columns = blank_columns;
      }

  pub read_long : 4096 < length s → EntriesRead s false blanks
  unfolding read_schema
  read_long h = refused (rw (read_schema, lt-leb (length s) 4096 h))

  module _ (short : length s ≤ 4096) where
    pub read_bad : is_read (text_at s).read ≡ false → EntriesRead s false blanks
    unfolding read_schema
    read_bad e = refused (rw (read_schema, le-leb (length s) 4096 short, e))

    module _ (e : is_read (text_at s).read ≡ true) where
      pub read_well : well_at s 0 ≡ true
      read_well = (text_well s e).0

      whole : read_schema s ≡ schema_of (tree_at s 0)
      unfolding read_schema
      whole = rw (read_schema, le-leb (length s) 4096 short, e) (ap schema_of (text_well s e).1)

      pub read_good : {r : Bool} {cells : List (List ℕ)} → length cells ≡ 29 → Filled (tree_at s 0) r cells → EntriesRead s r cells
      unfolding FewColumns
      read_good {r} {cells} l k =
          record {
            accepted = k.fits ∙ sym (ap is_some whole ∙ some_schema (tree_at s 0));
            database = λ h. whole ∙ taken (tree_at s 0) (sym k.fits ∙ h) ∙ ap Some (sym (k.database h));
            size = l;
            tables = k.tables;
            columns = k.columns;
          }
