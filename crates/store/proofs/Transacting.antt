-- A store's transact, by where it ends: the lengths are wrong, the area is in disorder, it does not commit, it commits. Assumes nothing.
use mathlib.Core.Path.{◌≡◌, refl, sym, ap, ◌∙◌}
use mathlib.Core.Bool.{Bool, true, false, ◌&&◌}
use mathlib.Core.List.{List, [], ◌∷◌}
use Prim.Native.Nat.{ℕ, ◌+◌, ◌≤◌}
use native.Mathlib.Omega.{arith}
use borrow.Author.Tests.{eqb-true, leb-true}
use lib.Dec.{eqb, leb}
use lib.ListN.{length}
use Rattle.model.specs.Octets.{big, filled}
use Rattle.model.specs.Limits.{last_number, store_bytes, count_offset}
use Rattle.std.specs.Prelude.{if◌then◌else◌, Option, Some, None}
use Rattle.model.specs.Schema.{Schema}
use Rattle.model.specs.Rows.{Row}
use Rattle.model.specs.Records.{diff}
use Rattle.model.proofs.Order.{Sorted}
use Rattle.model.specs.Refusals.{number_of, is_refusal}
use Rattle.model.specs.Replies.{Reply}
use Rattle.model.specs.Catalog.{packed_tables, database_from}
use Rattle.inner.specs.Working.{working}
use Rattle.model.specs.Areas.{Store, encode_store, store_of}
use Rattle.model.specs.Calls.{lengths_good, Transacted, transact_refused, store_after, records_after, transact_replied, transact_on, store_transact}
use Rattle.model.specs.FirstRefusal.{transact_number}
use Rattle.model.specs.declared.Status.{Status}
use Rattle.model.specs.declared.Status.TheVariants.{Disordered, WrongLength}
use Rattle.model.proofs.Tests.{split, clash, parts}
use Rattle.model.proofs.Same.{diff_self}
use Rattle.model.proofs.Areas.{store_of_is}
use Rattle.model.proofs.Demand1.{transact_first}
use Rattle.model.proofs.ReplyLaws.{reply_rows, reply_call}
use Rattle.area.specs.Layout.{row_count}
use Rattle.area.specs.Writing.{number_in, store_in, placed, rows_part}
use Rattle.store.specs.GoodOrder.{run_in, Held}
use Rattle.store.proofs.After.{sound, reply_is, area_after_lem}
use Rattle.store.specs.declared.reply.Effect.{Effect}
use Rattle.store.specs.Replying.{reply_on, Refused}
use Rattle.store.proofs.Telling.{Replied}

pub and_true : (b : Bool) → b ≡ (b && true)
and_true true = refl
and_true false = refl

-- the right lengths, one by one, by what the code says of them
pub lengths : (area fresh records text : List ℕ) (b : Bool) → b ≡ lengths_good area fresh records text → b ≡ true → (length area ≡ store_bytes) × (length fresh ≡ 256) × (26249 ≤ length records)
lengths area fresh records text b e h =
    let p = parts (eqb (length area) store_bytes ∷ eqb (length fresh) 256 ∷ leb 26249 (length records) ∷ leb 64 (length text) ∷ []) (sym e ∙ h) in
    (eqb-true (length area) store_bytes p.0, eqb-true (length fresh) 256 p.1.0, leb-true 26249 (length records) p.1.1.0)

-- rows that stay are no change
idle : (b : Bool) (s : Schema) (rows meant : List Row) (r : Reply) → Sorted rows → r.rows ≡ (if b then meant else rows) → r.changes ≡ (if b then diff s rows meant else []) → r.rows ≡ rows → r.changes ≡ []
idle true s rows meant r o p q e = q ∙ ap (diff s rows) (sym p ∙ e) ∙ diff_self s rows o
idle false s rows meant r o p q e = q

module _ (area request fresh records text : List ℕ) where
  abbrev call : Transacted
  call = store_transact area request fresh records text

  -- an answer, an area and both buffers are those of the call, and the answer's number is that of the first refusal that applies
  abbrev Leaves : Status → List ℕ → List ℕ → List ℕ → Type 0
  Leaves r a x t = (number_of r ≡ transact_number area request fresh records text) × (call ≡ record { status = r; area = a; records = x; text = t })

  pub leaves : {r : Status} {a x t : List ℕ} → call ≡ record { status = r; area = a; records = x; text = t } → Leaves r a x t
  leaves e = (ap (λ (z : Transacted). number_of z.status) (sym e) ∙ transact_first area request fresh records text, e)

  refused_is : {why r : Status} {x t : List ℕ} → Refused why records x text t r → transact_refused why area records text ≡ record { status = r; area = area; records = x; text = t }
  refused_is y = λ i. record { status = sym y.is i; area = area; records = sym y.records i; text = sym y.text i }

  -- by the test of the lengths
  chosen : Bool → Transacted
  chosen b = elim b [ true ↦ transact_on area request fresh records text (store_of area) | false ↦ transact_refused WrongLength area records text ]

  by_lengths : (b : Bool) → lengths_good area fresh records text ≡ b → call ≡ chosen b
  unfolding store_transact chosen
  by_lengths b e = ap chosen e

  pub transact_length : (b : Bool) → b ≡ lengths_good area fresh records text → b ≡ false → {r : Status} {x t : List ℕ} → Refused WrongLength records x text t r → Leaves r area x t
  unfolding chosen
  transact_length b e h y = leaves (by_lengths false (sym e ∙ h) ∙ refused_is y)

  module _ (b : Bool) (said : b ≡ lengths_good area fresh records text) (good : b ≡ true) where
    by_store : (o : Option Store) → store_of area ≡ o → call ≡ transact_on area request fresh records text o
    unfolding chosen
    by_store o e = by_lengths true (sym said ∙ good) ∙ ap (transact_on area request fresh records text) e

    pub transact_disordered : store_of area ≡ None → {r : Status} {x t : List ℕ} → Refused Disordered records x text t r → Leaves r area x t
    transact_disordered h y = leaves (by_store None h ∙ refused_is y)

    module _ (cells : List (List ℕ)) (rows : List (List (List ℕ))) (k : Held area cells rows) where
      abbrev s : Schema
      s = packed_tables cells

      abbrev n : ℕ
      n = row_count area

      abbrev store : Store
      store = store_in (database_from cells) (run_in area) (number_in area) n rows

      abbrev d : Reply
      d = reply_on cells (number_in area) n rows request fresh (length text)

      by_reply : call ≡ transact_replied area records text store d
      unfolding reply_on
      by_reply = by_store (Some store) k.store ∙ ap (transact_replied area records text store) (reply_is area cells rows k request fresh (length text))

      -- what an accepted call leaves
      given : Transacted
      given = record { status = d.status; area = encode_store (store_after store d); records = filled (length records) (records_after store d); text = filled (length text) d.text }

      picked : Bool → Transacted
      picked b = elim b [ true ↦ transact_refused d.status area records text | false ↦ given ]

      by_answer : (b : Bool) → is_refusal d.status ≡ b → call ≡ picked b
      unfolding picked given
      by_answer b e = by_reply ∙ ap picked e

      sorted : Sorted (working s n rows)
      sorted = (sound area cells rows k).good.sorted

      unchanged : d.rows ≡ working s n rows → d.changes ≡ []
      unfolding reply_on
      unchanged e =
          let meant = reply_rows (database_from cells) request fresh (length text) (working s n rows) in
          let a = reply_call (database_from cells) (number_in area) (working s n rows) request fresh (length text) sorted in
          idle (leb (number_in area + length (diff s (working s n rows) meant)) last_number) s (working s n rows) meant d sorted a.after a.written e

      -- the store stays, and so does its area
      stays : d.rows ≡ working s n rows → area ≡ encode_store (store_after store d)
      unfolding store_in
      stays e =
          let z : number_in area ≡ number_in area + length d.changes = let u : length d.changes ≡ 0 = ap length (unchanged e) in omega (arith, u) in
          sym (store_of_is area store k.store).0 ∙ (λ i. encode_store (record { run = run_in area; number = z i; database = database_from cells; rows = sym e i }))

      module _ {exit : List (List (List ℕ))} {recordsOut textOut : List ℕ} {r : Effect} (w : Replied s d (run_in area) (number_in area) n rows exit records recordsOut text textOut r) where
        -- accepted: both buffers are as the reply left them
        accepted : is_refusal d.status ≡ false → {after : List ℕ} → after ≡ encode_store (store_after store d) → Leaves r.status after recordsOut textOut
        unfolding store_in picked given
        accepted f h = leaves (by_answer false f ∙ (λ i. record { status = sym w.status i; area = sym h i; records = sym w.records i; text = sym w.text i }))

        pub transact_stays : r.commits ≡ false → Leaves r.status area recordsOut textOut
        unfolding picked
        transact_stays c =
            split (is_refusal d.status)
            (λ f.
            let b = w.blank (ap is_refusal w.status ∙ f) in
            leaves (by_answer true f ∙ (λ i. record { status = sym w.status i; area = area; records = sym b.0 i; text = sym b.1 i })))
            (λ f. accepted f (stays (w.stays c)))

        pub transact_commits : r.commits ≡ true → (number : ℕ) → number ≡ number_in area → (middle after : List ℕ) → middle ≡ placed 4 4 (big 4 (number + r.changes)) area → after ≡ placed count_offset 20001 (rows_part r.count exit) middle → Leaves r.status after recordsOut textOut
        unfolding store_in
        transact_commits c number q middle after u v =
            let f : is_refusal d.status ≡ false = split (is_refusal d.status) (λ f. absurd (clash r.commits c (w.refuses (ap is_refusal w.status ∙ f)))) (λ f. f) in
            accepted f (
            v ∙ ap (placed count_offset 20001 (rows_part r.count exit)) u ∙ area_after_lem area cells rows k (number + r.changes) r.count exit (w.long c) (w.tidy c k.tidy)
            ∙ (λ i. encode_store (record { run = run_in area; number = q i + w.changes i; database = database_from cells; rows = w.rows c i })))
