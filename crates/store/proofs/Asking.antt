-- A request's refusals before it is run. Assumes nothing.
use Rattle.std.specs.Prelude.{Option, Some, None}
use mathlib.Core.Path.{◌≡◌, refl, sym, ap, ◌∙◌}
use mathlib.Core.Bool.{Bool, true, false}
use mathlib.Core.List.{List, []}
use Prim.Native.Nat.{ℕ}
use lib.ListN.{length, get_or}
use Rattle.model.specs.declared.Status.TheVariants.{Accepted, BadRequest, OtherDatabase, BadFreshIds}
use Rattle.model.specs.Octets.{eq_bytes}
use Rattle.model.specs.Base.{is_some}
use Rattle.model.specs.Json.{Json, null, bool, num, str, arr, obj}
use Rattle.inner.specs.Positions.{tree_at}
use Rattle.model.specs.Nav.{kind_of, is_text, text_in}
use Rattle.model.specs.Text.{is_word}
use Rattle.model.specs.Catalog.{entry_name, packed_tables, database_from}
use Rattle.model.specs.Rows.{Row}
use Rattle.inner.specs.Working.{working}
use Rattle.model.specs.Transact as model
use Rattle.model.specs.Transact.{read_request, fresh_ids, ids_good}
use Rattle.model.specs.Replies.{Reply, refused, freshly, named, reply_to}
use Rattle.model.proofs.Tests.{clash}
use Rattle.model.proofs.TextUtf8.{by_test}
use Rattle.model.proofs.RunKeeps.{request_good}
use Rattle.uuids.specs.Named.{operations_at}
use Rattle.request.specs.declared.Request.{Request}
use Rattle.request.specs.Reading.{RequestRead}
use Rattle.fresh.specs.Fresh.{fresh_good}
use Rattle.store.specs.Replying.{transact_on, concluded_of, reply_on, Asked}

is_none : {A : Type 0} (o : Option A) → is_some o ≡ false → o ≡ None
is_none None h = refl
is_none (Some a) h = absurd (clash true refl h)

word_is : (w : List ℕ) (j : Json) → is_text (kind_of j) ≡ true → is_word w j ≡ eq_bytes (text_in j) w
unfolding kind_of is_word text_in
word_is w null h = absurd (clash false h refl)
word_is w (bool b) h = absurd (clash false h refl)
word_is w (num t) h = absurd (clash false h refl)
word_is w (str t) h = refl
word_is w (arr xs) h = absurd (clash false h refl)
word_is w (obj ms) h = absurd (clash false h refl)

module _ (cells : List (List ℕ)) (n : ℕ) (before : List (List (List ℕ))) (request fresh ends : List ℕ) {q : Request} (read : RequestRead request ends q) where
  abbrev rows : List Row
  rows = working (packed_tables cells) n before

  bad : q.fits ≡ false → (number room : ℕ) → reply_on cells number n before request fresh room ≡ refused BadRequest rows
  unfolding reply_on
  bad h number room = ap (reply_to (database_from cells) number rows (fresh_ids fresh) room) (is_none (read_request request) (sym read.accepted ∙ h))

  pub asked_bad : q.fits ≡ false → Asked cells n before request fresh ends q.count (record { runs = false; status = BadRequest; ops = None })
  asked_bad h = record {
    refuses = λ t. refl;
    refused = λ t. bad h;
    concluded = λ t. absurd (clash false t refl);
    running = λ t. absurd (clash false t refl);
    few = λ t. absurd (clash false t refl);
    counted = λ t. absurd (clash false t refl);
    ids = λ t. absurd (clash false t refl);
    operations = λ t. absurd (clash false t refl);
  }

  module _ (h : q.fits ≡ true) where
    abbrev asks : model.Request
    asks = record { name = text_in (tree_at request q.name); operations = operations_at request q.ops }

    reads : (number room : ℕ) → reply_on cells number n before request fresh room ≡ named (database_from cells) number rows (fresh_ids fresh) room asks
    unfolding reply_on
    reads number room = ap (reply_to (database_from cells) number rows (fresh_ids fresh) room) (read.request h)

    same_name : {b : Bool} → is_word (entry_name (get_or cells 0 [])) (tree_at request q.name) ≡ b → eq_bytes (text_in (tree_at request q.name)) (entry_name (get_or cells 0 [])) ≡ b
    same_name e = sym (word_is (entry_name (get_or cells 0 [])) (tree_at request q.name) (read.named h)) ∙ e

    pub asked_other : is_word (entry_name (get_or cells 0 [])) (tree_at request q.name) ≡ false → Asked cells n before request fresh ends q.count (record { runs = false; status = OtherDatabase; ops = None })
    asked_other w = record {
      refuses = λ t. refl;
      refused = λ t number room. reads number room ∙ other number room;
      concluded = λ t. absurd (clash false t refl);
      running = λ t. absurd (clash false t refl);
      few = λ t. absurd (clash false t refl);
      counted = λ t. absurd (clash false t refl);
      ids = λ t. absurd (clash false t refl);
      operations = λ t. absurd (clash false t refl);
    }
      where
        other : (number room : ℕ) → named (database_from cells) number rows (fresh_ids fresh) room asks ≡ refused OtherDatabase rows
        other number room =
            by_test (λ (r : Reply). r ≡ refused OtherDatabase rows) (eq_bytes (text_in (tree_at request q.name)) (entry_name (get_or cells 0 [])))
            (λ t. absurd (clash _ t (same_name w))) (λ t. refl)

    module _ (w : is_word (entry_name (get_or cells 0 [])) (tree_at request q.name) ≡ true) where
      goes : (number room : ℕ) → reply_on cells number n before request fresh room ≡ freshly (packed_tables cells) number rows (fresh_ids fresh) room asks
      goes number room =
          reads number room
          ∙ by_test (λ (r : Reply). r ≡ freshly (packed_tables cells) number rows (fresh_ids fresh) room asks) (eq_bytes (text_in (tree_at request q.name)) (entry_name (get_or cells 0 [])))
          (λ t. refl) (λ t. absurd (clash _ (same_name w) t))

      stale : fresh_good fresh rows ≡ false → (number room : ℕ) → freshly (packed_tables cells) number rows (fresh_ids fresh) room asks ≡ refused BadFreshIds rows
      unfolding fresh_good
      stale g number room = by_test (λ (r : Reply). r ≡ refused BadFreshIds rows) (ids_good (fresh_ids fresh) rows) (λ t. absurd (clash _ t g)) (λ t. refl)

      pub asked_fresh : fresh_good fresh rows ≡ false → Asked cells n before request fresh ends q.count (record { runs = false; status = BadFreshIds; ops = None })
      asked_fresh g = record {
        refuses = λ t. refl;
        refused = λ t number room. goes number room ∙ stale g number room;
        concluded = λ t. absurd (clash false t refl);
        running = λ t. absurd (clash false t refl);
        few = λ t. absurd (clash false t refl);
        counted = λ t. absurd (clash false t refl);
        ids = λ t. absurd (clash false t refl);
        operations = λ t. absurd (clash false t refl);
      }

      runs : fresh_good fresh rows ≡ true → (number room : ℕ) → freshly (packed_tables cells) number rows (fresh_ids fresh) room asks ≡ concluded_of (packed_tables cells) number rows room (transact_on (packed_tables cells) request q.ops fresh rows)
      unfolding fresh_good concluded_of transact_on
      runs g number room =
          by_test (λ (r : Reply). r ≡ concluded_of (packed_tables cells) number rows room (transact_on (packed_tables cells) request q.ops fresh rows)) (ids_good (fresh_ids fresh) rows)
          (λ t. refl) (λ t. absurd (clash _ g t))

      ids_are : fresh_good fresh rows ≡ true → ids_good (fresh_ids fresh) rows ≡ true
      unfolding fresh_good
      ids_are g = g

      pub asked_runs : fresh_good fresh rows ≡ true → length fresh ≡ 256 → Asked cells n before request fresh ends q.count (record { runs = true; status = Accepted; ops = q.ops })
      asked_runs g l = record {
        refuses = λ t. absurd (clash true refl t);
        refused = λ t. absurd (clash true refl t);
        concluded = λ t number room. goes number room ∙ runs g number room;
        running = λ t. record { says = read.says h; fine = read.fine h; short = read.short h; ids = l };
        few = λ t. read.few h;
        counted = λ t. read.count h;
        ids = λ t. ids_are g;
        operations = λ t. (request_good request asks (read.request h)).operations;
      }
