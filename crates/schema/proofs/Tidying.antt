-- A schema's text read into entries, and the catalog that they make once they are written anew. Assumes nothing.
use Rattle.std.specs.Prelude.{Option, Some, None}
use mathlib.Core.Path.{◌≡◌, refl, sym, ap, subst, ◌∙◌}
use mathlib.Core.Bool.{Bool, true, false}
use mathlib.Core.List.{List}
use Prim.Native.Nat.{ℕ}
use lib.ListN.{length}
use Rattle.model.specs.Base.{is_some}
use Rattle.model.specs.Schema.{Database}
use Rattle.model.specs.SchemaText.{read_schema}
use Rattle.model.specs.Catalog.{database_from, catalog_of}
use Rattle.model.specs.Sane.{sane}
use Rattle.model.proofs.Tests.{clash}
use Rattle.model.proofs.SchemaLaws.{read_sane}
use Rattle.model.proofs.Catalogs.{catalog_length, catalog_read}
use Rattle.catalog.specs.Tidied.{Readable}
use Rattle.schema.specs.Schema.{EntriesRead, SchemaRead}
use Rattle.schema.proofs.Members.{blanks}

is_none : {A : Type 0} (o : Option A) → is_some o ≡ false → o ≡ None
is_none None h = refl
is_none (Some a) h = absurd (clash true refl h)

module _ (s : List ℕ) (cells : List (List ℕ)) (r : Bool) (x : EntriesRead s r cells) where
  pub read_refused : r ≡ false → SchemaRead s false blanks
  read_refused e = record {
    refused = λ _. is_none (read_schema s) (sym x.accepted ∙ e);
    blank = λ _. refl;
    database = λ q. absurd (clash false q refl);
    accepted = λ q. absurd (clash false q refl);
  }

  module _ (e : r ≡ true) where
    sound : sane (database_from cells) ≡ true
    sound = read_sane s (database_from cells) (x.database e)

    pub readable : Readable cells
    readable = record { size = x.size; sane = sound; wide = x.columns }

    module _ (after : List (List ℕ)) (t : after ≡ catalog_of (database_from cells)) where
      same : database_from after ≡ database_from cells
      same = ap database_from t ∙ catalog_read (database_from cells) sound

      pub read_tidied : SchemaRead s true after
      read_tidied = record {
        refused = λ q. absurd (clash true refl q);
        blank = λ q. absurd (clash true refl q);
        database = λ _. x.database e ∙ ap Some (sym same);
        accepted = λ _. record {
          size = ap length t ∙ catalog_length (database_from cells) sound;
          same = ap catalog_of same ∙ sym t;
          sane = subst (λ (d : Database). sane d ≡ true) (sym same) sound;
        };
      }
