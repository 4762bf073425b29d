-- A whole transact, by where it ends. Assumes nothing.
use mathlib.Core.Path.{◌≡◌, refl, sym, ap, subst, ◌∙◌}
use mathlib.Core.Bool.{true, false}
use mathlib.Core.List.{List, map}
use Prim.Native.Nat.{ℕ, ◌+◌, ◌≤◌, ◌<◌}
use native.Mathlib.Omega.{arith}
use borrow.Author.Tests.{leb-true, leb-false}
use lib.Dec.{leb}
use lib.ListN.{length, replicate}
use Rattle.model.specs.declared.Status.{Status}
use Rattle.model.specs.declared.Status.TheVariants.{Accepted, AnswerTooLong, NumbersSpent}
use Rattle.model.specs.Octets.{filled}
use Rattle.model.specs.Limits.{last_number}
use Rattle.model.specs.Base.{flat}
use Rattle.model.specs.Schema.{Schema}
use Rattle.model.specs.Catalog.{packed_tables}
use Rattle.model.specs.Rows.{Row}
use Rattle.inner.specs.Working.{working}
use Rattle.model.specs.Records.{Change, diff, number_from, encode}
use Rattle.model.specs.Refusals.{is_refusal}
use Rattle.model.specs.Transact.{Transaction}
use Rattle.model.specs.Calls.{zeroed}
use Rattle.model.specs.Replies.{Reply, refused}
use Rattle.model.proofs.Tests.{split}
use Rattle.area.specs.Layout.{row_count}
use Rattle.area.specs.Writing.{number_in, store_in}
use Rattle.store.specs.declared.reply.Question.{Question}
use Rattle.store.specs.declared.reply.Outcome.{Outcome}
use Rattle.store.specs.declared.reply.Effect.{Effect}
use Rattle.store.specs.GoodOrder.{run_in, Held}
use Rattle.store.specs.Replying.{transact_on, concluded_of, reply_on, Asked, Ended, Refused, no_effect, changes_from, GivenOut, Concluded}
use Rattle.store.proofs.After.{fits}
use Rattle.store.proofs.Telling.{Replied, area_rows_lem, replied_refused, replied_long, replied_stays, replied_spent, replied_given}

module _ (cells : List (List ℕ)) (run number n : ℕ) (before : List (List (List ℕ))) (request fresh records_in text_in : List ℕ) (low : number ≤ last_number) where
  abbrev s : Schema
  s = packed_tables cells

  abbrev d : Reply
  d = reply_on cells number n before request fresh (length text_in)

  -- a refusal in the end
  module _ {why : Status} (says : d ≡ refused why (working s n before)) (true-refusal : is_refusal why ≡ true) {exit : List (List (List ℕ))} {recordsMid recordsOut textMid textOut : List ℕ} (sized : length recordsMid ≡ length records_in) (long : length textMid ≡ length text_in) (room : length exit ≡ length before) where
    reply_refuses : {x : Status} → Refused why recordsMid recordsOut textMid textOut x → {r : Effect} → r ≡ no_effect x → Replied s d run number n before exit records_in recordsOut text_in textOut r
    reply_refuses y h = replied_refused s d run number n before exit records_in text_in low recordsMid sized says true-refusal textMid (h ∙ ap no_effect y.is) y.records y.text long room

  reply_asked : {ends : List ℕ} {count : ℕ} {q : Question} → Asked cells n before request fresh ends count q → q.runs ≡ false → {recordsOut textOut : List ℕ} {x : Status} → Refused q.status records_in recordsOut text_in textOut x
      → {r : Effect} → r ≡ no_effect x → Replied s d run number n before before records_in recordsOut text_in textOut r
  reply_asked a h = reply_refuses (a.refused h number (length text_in)) (a.refuses h) refl refl refl

  module _ {ends : List ℕ} {count : ℕ} {q : Question} (a : Asked cells n before request fresh ends count q) (runs : q.runs ≡ true)
      {text : List ℕ} (blank : text ≡ replicate (length text_in) 0) {exit : List (List (List ℕ))} {textMid : List ℕ} {o : Outcome}
      (e : Ended s (transact_on s request q.ops fresh (working s n before)) n before exit text textMid o) (long : length textMid ≡ length text_in) where
    abbrev t : Transaction
    t = transact_on s request q.ops fresh (working s n before)

    concluded : d ≡ concluded_of s number (working s n before) (length text_in) t
    concluded = a.concluded runs number (length text_in)

    reply_long : length textMid < o.at → {recordsOut textOut : List ℕ} {x : Status} → Refused AnswerTooLong records_in recordsOut textMid textOut x
        → {r : Effect} → r ≡ no_effect x → Replied s d run number n before exit records_in recordsOut text_in textOut r
    reply_long h = reply_refuses (replied_long s d run number n before exit records_in text_in low records_in refl concluded blank e (omega (arith, h, long))) refl refl long e.room

    module _ (h : o.at ≤ length textMid) where
      short : o.at ≤ length text_in
      short = omega (arith, h, long)

      reply_stays : o.commits ≡ false → {recordsOut : List ℕ} → recordsOut ≡ replicate (length records_in) 0
          → Replied s d run number n before exit records_in recordsOut text_in textMid (record { status = Accepted; commits = false; count = o.count; changes = 0 })
      reply_stays c b = replied_stays s d run number n before exit records_in text_in low records_in refl concluded blank e short c b

      -- a commit, by the changes from the rows that the area has
      module _ (c : o.commits ≡ true) (es : List Change) (same : es ≡ diff s (working s n before) (working s o.count exit)) where
        reply_spent : last_number < number + length es → {recordsOut textOut : List ℕ} {r : Effect} → r ≡ no_effect NumbersSpent → recordsOut ≡ zeroed records_in → textOut ≡ zeroed textMid
            → Replied s d run number n before exit records_in recordsOut text_in textOut r
        reply_spent h x y z = replied_refused s d run number n before exit records_in text_in low records_in refl (replied_spent s d run number n before exit records_in text_in low records_in refl concluded blank e short c (ap length same) h) refl textMid x y z long e.room

        reply_given : number + length es ≤ last_number → {recordsOut : List ℕ} → recordsOut ≡ filled (length records_in) (flat (map encode (number_from run number es)))
            → Replied s d run number n before exit records_in recordsOut text_in textMid (record { status = Accepted; commits = true; count = o.count; changes = length es })
        reply_given h b =
            replied_given s d run number n before exit records_in text_in low records_in refl concluded blank e short c (ap length same) h
            (b ∙ ap (λ (l : List Change). filled (length records_in) (flat (map encode (number_from run number l)))) same)

-- ── by the area: how many rows the code says there are is what it says ──
module _ (a : List ℕ) (cells : List (List ℕ)) (before : List (List (List ℕ))) (k : Held a cells before) where
  low : number_in a ≤ last_number
  unfolding store_in
  low = omega (arith, (fits a cells before k).number)

  module _ (request fresh records_in text_in : List ℕ) (m : ℕ) (e : m ≡ row_count a) where
    abbrev At : ℕ → List (List (List ℕ)) → List ℕ → List ℕ → Effect → Type 0
    At n exit recordsOut textOut r = Replied (packed_tables cells) (reply_on cells (number_in a) n before request fresh (length text_in)) (run_in a) (number_in a) n before exit records_in recordsOut text_in textOut r

    counted : {exit : List (List (List ℕ))} {recordsOut textOut : List ℕ} {r : Effect} → At m exit recordsOut textOut r → At (row_count a) exit recordsOut textOut r
    counted {exit} {recordsOut} {textOut} {r} x = subst (λ (n : ℕ). At n exit recordsOut textOut r) e x

    pub refused_asked : {ends : List ℕ} {count : ℕ} {q : Question} → Asked cells m before request fresh ends count q → q.runs ≡ false → {recordsOut textOut : List ℕ} {x : Status} → Refused q.status records_in recordsOut text_in textOut x
        → {r : Effect} → r ≡ no_effect x → At (row_count a) before recordsOut textOut r
    refused_asked asked h x y = counted (reply_asked cells (run_in a) (number_in a) m before request fresh records_in text_in low asked h x y)

    module _ {ends : List ℕ} {count : ℕ} {q : Question} (asked : Asked cells m before request fresh ends count q) (runs : q.runs ≡ true)
        {text : List ℕ} (blank : text ≡ replicate (length text_in) 0) {exit : List (List (List ℕ))} {textMid : List ℕ} {o : Outcome}
        (ended : Ended (packed_tables cells) (transact_on (packed_tables cells) request q.ops fresh (working (packed_tables cells) m before)) m before exit text textMid o) (long : length textMid ≡ length text_in) where
      refused_long : length textMid < o.at → {recordsOut textOut : List ℕ} {x : Status} → Refused AnswerTooLong records_in recordsOut textMid textOut x → {r : Effect} → r ≡ no_effect x → At (row_count a) exit recordsOut textOut r
      refused_long h x y = counted (reply_long cells (run_in a) (number_in a) m before request fresh records_in text_in low asked runs blank ended long h x y)

      module _ (h : o.at ≤ length textMid) where
        stays_as : o.commits ≡ false → {recordsOut : List ℕ} → recordsOut ≡ replicate (length records_in) 0 → At (row_count a) exit recordsOut textMid (record { status = Accepted; commits = false; count = o.count; changes = 0 })
        stays_as c b = counted (reply_stays cells (run_in a) (number_in a) m before request fresh records_in text_in low asked runs blank ended long h c b)

        module _ (c : o.commits ≡ true) where
          abbrev es : List Change
          es = changes_from (packed_tables cells) a exit o.count

          same : es ≡ diff (packed_tables cells) (working (packed_tables cells) m before) (working (packed_tables cells) o.count exit)
          unfolding changes_from
          same = ap (λ (l : List Row). diff (packed_tables cells) l (working (packed_tables cells) o.count exit)) (area_rows_lem (packed_tables cells) (row_count a) before a k.read ∙ ap (λ (n : ℕ). working (packed_tables cells) n before) (sym e))

          commits_as : {recordsOut textOut : List ℕ} {r : Effect} → GivenOut (packed_tables cells) a exit o.count records_in recordsOut textMid textOut r → At (row_count a) exit recordsOut textOut r
          commits_as {recordsOut} {textOut} {r} g =
              counted (split (leb (number_in a + length es) last_number)
              (λ l.
              let x = g.given (leb-true _ _ l) in
              let y = reply_given cells (run_in a) (number_in a) m before request fresh records_in text_in low asked runs blank ended long h c es same (leb-true _ _ l) x.1 in
              rw (x.0, x.2) y)
              (λ l.
              let z = leb-false _ _ l in
              let x = g.spent z in
              reply_spent cells (run_in a) (number_in a) m before request fresh records_in text_in low asked runs blank ended long h c es same z x.0 x.1 x.2))

      -- by what was concluded
      pub concluded_as : {recordsOut textOut : List ℕ} {r : Effect} → Concluded (packed_tables cells) a exit o records_in recordsOut textMid textOut r → At (row_count a) exit recordsOut textOut r
      concluded_as x =
          split (leb o.at (length textMid))
          (λ l.
          let h = leb-true _ _ l in
          split o.commits (λ c. commits_as h c (x.given h c)) (λ c. let y = x.stays h c in rw (y.0, y.2) (stays_as h c y.1)))
          (λ l. let h = leb-false _ _ l in let y = x.long h in refused_long h (record { is = refl; records = y.1; text = y.2 }) y.0)
