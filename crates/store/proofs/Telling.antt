-- What is concluded in the end: refusals 7 and 10, and what is given where neither applies. Assumes nothing.
use mathlib.Core.Path.{◌≡◌, refl, sym, ap, subst, ◌∙◌}
use mathlib.Core.Bool.{true, false}
use mathlib.Core.List.{List, [], map}
use Prim.Native.Nat.{ℕ, ◌+◌, ◌≤◌, ◌<◌}
use native.Mathlib.Omega.{arith}
use borrow.Author.Tests.{le-leb, lt-leb}
use lib.Dec.{leb}
use lib.ListN.{length, take, drop, replicate, length-replicate}
use lib.Seq.{take_all}
use Rattle.model.specs.declared.Status.{Status}
use Rattle.model.specs.declared.Status.TheVariants.{Accepted, AnswerTooLong, NumbersSpent}
use Rattle.model.specs.Octets.{filled}
use Rattle.model.specs.Limits.{last_number, most_rows, rows_offset}
use Rattle.model.specs.Base.{flat}
use Rattle.model.specs.Schema.{Schema}
use Rattle.model.specs.Rows.{Row}
use Rattle.model.specs.Areas.{row_from}
use Rattle.inner.specs.Working.{working, key_in, Tidy, Ordered}
use Rattle.inner.proofs.Ordering.{keys_ordered}
use Rattle.area.specs.Layout.{rows_at}
use Rattle.area.proofs.Copies.{rows_length}
use Rattle.model.specs.Records.{Change, diff, number_from, encode}
use Rattle.model.specs.Refusals.{is_refusal}
use Rattle.model.specs.Transact.{Transaction}
use Rattle.model.specs.Calls.{zeroed}
use Rattle.model.specs.Replies.{Reply, refused, changes_of, numbered}
use Rattle.model.proofs.Tests.{clash}
use Rattle.model.proofs.TextUtf8.{by_test}
use Rattle.json_writer.specs.Put.{put_at}
use Rattle.json_writer.proofs.Putting.{put_zeros}
use Rattle.store.specs.declared.reply.Outcome.{Outcome}
use Rattle.store.specs.declared.reply.Effect.{Effect}
use Rattle.store.specs.Replying.{concluded_of, Ended, no_effect}

-- a buffer to which nothing was written
filled_none : (n : ℕ) → replicate n 0 ≡ filled n []
filled_none n = sym (take_all n (replicate n 0) (omega (arith, length-replicate {A = ℕ} n 0)))

-- ── the two refusals, and what is given else ──
module _ (s : Schema) (number : ℕ) (rows : List Row) (room : ℕ) (t : Transaction) where
  concluded_long : room < length t.text → concluded_of s number rows room t ≡ refused AnswerTooLong rows
  unfolding concluded_of
  concluded_long h = by_test (λ (r : Reply). r ≡ refused AnswerTooLong rows) (leb (length t.text) room) (λ e. absurd (clash _ e (lt-leb (length t.text) room h))) (λ e. refl)

  module _ (h : length t.text ≤ room) where
    concluded_fits : {es : List Change} → changes_of s rows t ≡ es → concluded_of s number rows room t ≡ numbered number rows t es
    unfolding concluded_of
    concluded_fits e =
        by_test (λ (r : Reply). r ≡ numbered number rows t (changes_of s rows t)) (leb (length t.text) room) (λ e. refl) (λ e. absurd (clash _ (le-leb (length t.text) room h) e))
        ∙ ap (numbered number rows t) e

    module _ (es : List Change) where
      enough : number + length es ≤ last_number → numbered number rows t es ≡ record { status = Accepted; rows = t.rows; changes = es; text = t.text }
      enough k =
          by_test (λ (r : Reply). r ≡ record { status = Accepted; rows = t.rows; changes = es; text = t.text }) (leb (number + length es) last_number) (λ e. refl)
          (λ e. absurd (clash _ (le-leb (number + length es) last_number k) e))

      spent : last_number < number + length es → numbered number rows t es ≡ refused NumbersSpent rows
      spent k = by_test (λ (r : Reply). r ≡ refused NumbersSpent rows) (leb (number + length es) last_number) (λ e. absurd (clash _ e (lt-leb (number + length es) last_number k))) (λ e. refl)

    concluded_stays : changes_of s rows t ≡ [] → number ≤ last_number → concluded_of s number rows room t ≡ record { status = Accepted; rows = t.rows; changes = []; text = t.text }
    concluded_stays c k =
        let z : number + 0 ≤ last_number = omega arith in
        concluded_fits c ∙ enough [] z

    module _ (c : t.commits ≡ true) where
      some_changes : changes_of s rows t ≡ diff s rows t.rows
      some_changes = by_test (λ (l : List Change). l ≡ diff s rows t.rows) t.commits (λ e. refl) (λ e. absurd (clash _ c e))

      concluded_given : number + length (diff s rows t.rows) ≤ last_number → concluded_of s number rows room t ≡ record { status = Accepted; rows = t.rows; changes = diff s rows t.rows; text = t.text }
      concluded_given k = concluded_fits some_changes ∙ enough (diff s rows t.rows) k

      concluded_spent : last_number < number + length (diff s rows t.rows) → concluded_of s number rows room t ≡ refused NumbersSpent rows
      concluded_spent k = concluded_fits some_changes ∙ spent (diff s rows t.rows) k

-- ── the rows that the area has are those that were read from it ──
pub area_rows_lem : (s : Schema) (n : ℕ) (rows : List (List (List ℕ))) (a : List ℕ) → take n rows ≡ rows_at n a → working s n (rows_at n a) ≡ working s n rows
unfolding working
area_rows_lem s n rows a e = ap (map (row_from s)) (take_all n (rows_at n a) (omega (arith, rows_length n (drop rows_offset a))) ∙ sym e)

pub area_ordered : (n : ℕ) (rows : List (List (List ℕ))) (a : List ℕ) → take n rows ≡ rows_at n a → Ordered n rows → Ordered n (rows_at n a)
area_ordered n rows a e o =
    let l = rows_length n (drop rows_offset a) in
    keys_ordered n n rows (rows_at n a) (omega (arith, l)) (ap (map key_in) (take_all n (rows_at n a) (omega (arith, l)) ∙ sym e)) o

-- ── the whole ──
-- a whole transact: the status; the rows, where it commits, and that they stay, where it does not; the record numbers that it gives out; and both buffers.
-- Where it does not commit the working rows are free, as many as before: the area has the store's rows
pub record Replied (s : Schema) (d : Reply) (run number n : ℕ) (before exit : List (List (List ℕ))) (records_in recordsOut text_in textOut : List ℕ) (r : Effect) : Type 0 where
  pub status : r.status ≡ d.status
  pub refuses : is_refusal r.status ≡ true → r.commits ≡ false
  pub rows : r.commits ≡ true → working s r.count exit ≡ d.rows
  pub stays : r.commits ≡ false → d.rows ≡ working s n before
  pub few : r.count ≤ most_rows
  pub long : r.commits ≡ true → r.count ≤ length exit
  pub tidy : r.commits ≡ true → Tidy s (take n before) → Tidy s (take r.count exit)
  pub room : length exit ≡ length before
  pub changes : r.changes ≡ length d.changes
  pub none : r.commits ≡ false → r.changes ≡ 0
  pub last : number + r.changes ≤ last_number
  pub records : recordsOut ≡ filled (length records_in) (flat (map encode (number_from run number d.changes)))
  pub text : textOut ≡ filled (length text_in) d.text
  pub blank : is_refusal r.status ≡ true → (recordsOut ≡ zeroed records_in) × (textOut ≡ zeroed text_in)

module _ (s : Schema) (d : Reply) (run number n : ℕ) (before exit : List (List (List ℕ))) (records_in text_in : List ℕ) (low : number ≤ last_number) (records : List ℕ) (same : length records ≡ length records_in) where
  pub replied_refused : {why : Status} → d ≡ refused why (working s n before) → is_refusal why ≡ true → (text : List ℕ) {recordsOut textOut : List ℕ} {r : Effect} → r ≡ no_effect why → recordsOut ≡ zeroed records → textOut ≡ zeroed text
      → length text ≡ length text_in → length exit ≡ length before → Replied s d run number n before exit records_in recordsOut text_in textOut r
  replied_refused {why} e h text {recordsOut} {textOut} {r} x y z l g =
      let b : recordsOut ≡ replicate (length records_in) 0 = y ∙ ap (λ (k : ℕ). replicate k 0) same in
      let c : textOut ≡ replicate (length text_in) 0 = z ∙ ap (λ (k : ℕ). replicate k 0) l in
      let no : r.commits ≡ false = ap (λ (r : Effect). r.commits) x in
      record {
        status = ap (λ (r : Effect). r.status) x ∙ sym (ap (λ (d : Reply). d.status) e);
        refuses = λ t. no;
        rows = λ t. absurd (clash r.commits t no);
        stays = λ t. ap (λ (d : Reply). d.rows) e;
        few = omega (arith, ap (λ (r : Effect). r.count) x);
        long = λ t. absurd (clash r.commits t no);
        tidy = λ t. absurd (clash r.commits t no);
        room = g;
        changes = ap (λ (r : Effect). r.changes) x ∙ sym (ap (λ (d : Reply). length d.changes) e);
        none = λ t. ap (λ (r : Effect). r.changes) x;
        last = omega (arith, low, ap (λ (r : Effect). r.changes) x);
        records = b ∙ filled_none (length records_in) ∙ ap (λ (d : Reply). filled (length records_in) (flat (map encode (number_from run number d.changes)))) (sym e);
        text = c ∙ filled_none (length text_in) ∙ ap (λ (d : Reply). filled (length text_in) d.text) (sym e);
        blank = λ t. (b, c);
      }

  module _ {t : Transaction} (concluded : d ≡ concluded_of s number (working s n before) (length text_in) t) {text textOut : List ℕ} (blank : text ≡ replicate (length text_in) 0) {o : Outcome} (e : Ended s t n before exit text textOut o) where
    pub replied_long : length text_in < o.at → d ≡ refused AnswerTooLong (working s n before)
    replied_long h = concluded ∙ concluded_long s number (working s n before) (length text_in) t (omega (arith, h, e.text.count))

    module _ (short : o.at ≤ length text_in) where
      fits : length t.text ≤ length text_in
      fits = omega (arith, short, e.text.count)

      text_is_lem : textOut ≡ filled (length text_in) t.text
      text_is_lem = e.text.out ∙ ap (λ (l : List ℕ). put_at l 0 t.text) blank ∙ put_zeros (length text_in) t.text

      pub replied_stays : o.commits ≡ false → {recordsOut : List ℕ} → recordsOut ≡ replicate (length records) 0
          → Replied s d run number n before exit records_in recordsOut text_in textOut (record { status = Accepted; commits = false; count = o.count; changes = 0 })
      replied_stays c b =
          let w = concluded ∙ concluded_stays s number (working s n before) (length text_in) t fits (e.none c) low in
          record {
            status = sym (ap (λ (d : Reply). d.status) w);
            refuses = λ x. refl;
            rows = λ x. absurd (clash false x refl);
            stays = λ x. ap (λ (d : Reply). d.rows) w ∙ e.stays c;
            few = e.few;
            long = λ x. absurd (clash false x refl);
            tidy = λ x. absurd (clash false x refl);
            room = e.room;
            changes = sym (ap (λ (d : Reply). length d.changes) w);
            none = λ x. refl;
            last = omega (arith, low);
            records = b ∙ ap (λ (k : ℕ). replicate k 0) same ∙ filled_none (length records_in) ∙ ap (λ (d : Reply). filled (length records_in) (flat (map encode (number_from run number d.changes)))) (sym w);
            text = text_is_lem ∙ ap (λ (d : Reply). filled (length text_in) d.text) (sym w);
            blank = λ x. absurd (clash false x refl);
          }

      module _ (c : o.commits ≡ true) {k : ℕ} (count : k ≡ length (diff s (working s n before) (working s o.count exit))) where
        rows_are : working s o.count exit ≡ t.rows
        rows_are = e.rows c

        count_is : k ≡ length (diff s (working s n before) t.rows)
        count_is = count ∙ ap (λ (l : List Row). length (diff s (working s n before) l)) rows_are

        pub replied_spent : 4294967295 < number + k → d ≡ refused NumbersSpent (working s n before)
        replied_spent h = concluded ∙ concluded_spent s number (working s n before) (length text_in) t fits (e.commits c) (subst (λ (k : ℕ). 4294967295 < number + k) count_is h)

        pub replied_given : number + k ≤ 4294967295 → {recordsOut : List ℕ}
            → recordsOut ≡ filled (length records) (flat (map encode (number_from run number (diff s (working s n before) (working s o.count exit)))))
            → Replied s d run number n before exit records_in recordsOut text_in textOut (record { status = Accepted; commits = true; count = o.count; changes = k })
        replied_given h b =
            let w = concluded ∙ concluded_given s number (working s n before) (length text_in) t fits (e.commits c) (subst (λ (k : ℕ). number + k ≤ 4294967295) count_is h) in
            record {
              status = sym (ap (λ (d : Reply). d.status) w);
              refuses = λ x. absurd (clash false x refl);
              rows = λ x. rows_are ∙ sym (ap (λ (d : Reply). d.rows) w);
              stays = λ x. absurd (clash true refl x);
              few = e.few;
              long = λ x. (e.ordered c).there;
              tidy = λ x. e.tidy c;
              room = e.room;
              changes = count_is ∙ sym (ap (λ (d : Reply). length d.changes) w);
              none = λ x. absurd (clash true refl x);
              last = h;
              records =
                  b
                  ∙ ap (λ (m : ℕ). filled m (flat (map encode (number_from run number (diff s (working s n before) (working s o.count exit)))))) same
                  ∙ ap (λ (l : List Row). filled (length records_in) (flat (map encode (number_from run number (diff s (working s n before) l))))) rows_are
                  ∙ ap (λ (d : Reply). filled (length records_in) (flat (map encode (number_from run number d.changes)))) (sym w);
              text = text_is_lem ∙ ap (λ (d : Reply). filled (length text_in) d.text) (sym w);
              blank = λ x. absurd (clash false x refl);
            }
