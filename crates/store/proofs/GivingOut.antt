-- The records of a commit given out, or refused where their numbers pass the last one. Assumes nothing.
use mathlib.Core.Path.{◌≡◌, refl, ap, ◌∙◌}
use mathlib.Core.Bool.{true}
use mathlib.Core.List.{List, map}
use Prim.Native.Nat.{ℕ, ◌-◌, ◌≤◌, ◌<◌}
use native.Mathlib.Omega.{arith}
use lib.ListN.{length, replicate}
use Rattle.model.specs.declared.Status.{Status}
use Rattle.model.specs.declared.Status.TheVariants.{Accepted, NumbersSpent}
use Rattle.model.specs.Octets.{filled}
use Rattle.model.specs.Limits.{last_number}
use Rattle.model.specs.Base.{flat}
use Rattle.model.specs.Schema.{Schema}
use Rattle.model.specs.Records.{Change, diff, number_from, encode}
use Rattle.inner.specs.Working.{working}
use Rattle.area.specs.Layout.{row_count, rows_at}
use Rattle.area.specs.Writing.{number_in}
use Rattle.store.specs.declared.reply.Effect.{Effect}
use Rattle.store.specs.GoodOrder.{run_in}
use Rattle.store.specs.Replying.{Refused, no_effect, changes_from, GivenOut}

module _ (s : Schema) (a : List ℕ) (rows : List (List (List ℕ))) (count : ℕ) (records_in text_in : List ℕ) (n run number : ℕ) (e : n ≡ row_count a) (p : run ≡ run_in a) (q : number ≡ number_in a) (low : number ≤ last_number) where
  abbrev es : List Change
  es = changes_from s a rows count

  changes_are : diff s (working s n (rows_at n a)) (working s count rows) ≡ es
  unfolding changes_from
  changes_are = ap (λ (m : ℕ). diff s (working s m (rows_at m a)) (working s count rows)) e

  module _ (k : ℕ) (concluded : k ≡ length (diff s (working s n (rows_at n a)) (working s count rows))) where
    count_is : k ≡ length es
    count_is = concluded ∙ ap length changes_are

    pub out_spent : last_number - number < k → {mid recordsOut textOut : List ℕ} {x : Status} {r : Effect} → length mid ≡ length records_in → Refused NumbersSpent mid recordsOut text_in textOut x → r ≡ no_effect x
        → GivenOut s a rows count records_in recordsOut text_in textOut r
    out_spent h l x y =
        record {
          spent = λ t. (y ∙ ap no_effect x.is, x.records ∙ ap (λ (m : ℕ). replicate m 0) l, x.text);
          given = λ t. absurd (omega (arith, t, h, q, low, count_is));
        }

    pub out_given : k ≤ last_number - number → {recordsOut : List ℕ} → recordsOut ≡ filled (length records_in) (flat (map encode (number_from run number (diff s (working s n (rows_at n a)) (working s count rows)))))
        → GivenOut s a rows count records_in recordsOut text_in text_in (record { status = Accepted; commits = true; count = count; changes = k })
    out_given h b =
        record {
          spent = λ t. absurd (omega (arith, t, h, q, low, count_is));
          given = λ t. (
            (λ i. record { status = Accepted; commits = true; count = count; changes = count_is i }),
            b ∙ (λ i. filled (length records_in) (flat (map encode (number_from (p i) (q i) (changes_are i))))),
            refl,
          );
        }
