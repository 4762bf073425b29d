-- What a mirror answers, by the tests that the code makes. Assumes nothing.
use Rattle.std.specs.Prelude.{Option, Some, None}
use mathlib.Core.Path.{◌≡◌, refl, sym, ap, ◌∙◌}
use mathlib.Core.Bool.{Bool, true, false, not, ◌&&◌, ◌||◌}
use mathlib.Core.List.{List}
use Prim.Native.Nat.{ℕ, suc, ◌+◌, ◌-◌, ◌≤◌, ◌<◌, max}
use native.Mathlib.Omega.{arith}
use borrow.Author.Tests.{eq-eqb, ne_eqb, le-leb, lt-leb, eqb-true, eqb-false, leb-true, leb-false, not-true, not-false}
use lib.Dec.{eqb, leb}
use Rattle.model.specs.Schema.{Schema}
use Rattle.model.specs.Rows.{Row}
use Rattle.model.specs.Records.{act, fits, sound, is_end, Record, numbered, mark, decode}
use Rattle.model.specs.Mirror.{Mirror, Step, on_read}
use Rattle.model.specs.declared.Status.{Status}
use Rattle.model.specs.declared.Status.TheVariants.{BadRecord, OtherRun, Repeat, Behind, Heard, Applied}
use Rattle.model.specs.Catalog.{packed_tables}
use Rattle.inner.specs.Working.{working}
use Rattle.model.proofs.Tests.{split, clash, and_l, and_r, or_l, or_r, or_true}
use Rattle.arrival.specs.Steps.{head_of, sound_record, fits_record, bad_record, act_record, mirror_of, hears_of, applies_of, is_next, heard_of, step_of, Welcome, Left, Stepped}
use Rattle.arrival.specs.declared.Head.{Head}
use Rattle.arrival.specs.declared.Numbers.{Numbers}

-- ── refusal 8, test by test ──
module _ (s : Schema) (n : ℕ) (rows : List Row) where
  pub bad_unsound : (o : Option Record) → sound_record s o ≡ false → bad_record s n rows o ≡ true
  unfolding sound_record bad_record
  bad_unsound None h = refl
  bad_unsound (Some (numbered u k e)) h = rw h
  bad_unsound (Some (mark u k)) h = absurd (clash true refl h)

  pub bad_mark : (o : Option Record) → (head_of o).marks ≡ true → bad_record s n rows o ≡ false
  unfolding head_of bad_record
  bad_mark None h = absurd (clash false h refl)
  bad_mark (Some (numbered u k e)) h = absurd (clash false h refl)
  bad_mark (Some (mark u k)) h = refl

  pub bad_zero : (o : Option Record) → (head_of o).marks ≡ false → (head_of o).number ≡ 0 → bad_record s n rows o ≡ true
  unfolding head_of bad_record
  bad_zero None h z = refl
  bad_zero (Some (numbered u k e)) h z = rw (eq-eqb k 0 z, or_true (not (sound s e)))
  bad_zero (Some (mark u k)) h z = absurd (clash true refl h)

  pub bad_later : (o : Option Record) → sound_record s o ≡ true → (head_of o).marks ≡ false → ((head_of o).number ≡ 0 → ⊥) → ((head_of o).number - 1 ≡ n → ⊥) → bad_record s n rows o ≡ false
  unfolding head_of sound_record bad_record
  bad_later None h m z l = absurd (clash false h refl)
  bad_later (Some (numbered u k e)) h m z l = let x : k ≡ suc n → ⊥ = λ p. l (omega arith) in rw (h, ne_eqb k 0 z, ne_eqb k (suc n) x)
  bad_later (Some (mark u k)) h m z l = absurd (clash true refl m)

  pub bad_next : (o : Option Record) → sound_record s o ≡ true → (head_of o).marks ≡ false → ((head_of o).number ≡ 0 → ⊥) → (head_of o).number - 1 ≡ n → bad_record s n rows o ≡ not (fits_record rows o)
  unfolding head_of sound_record bad_record fits_record
  bad_next None h m z l = absurd (clash false h refl)
  bad_next (Some (numbered u k e)) h m z l = let x : k ≡ suc n = omega arith in rw (h, ne_eqb k 0 z, eq-eqb k (suc n) x)
  bad_next (Some (mark u k)) h m z l = absurd (clash true refl m)

  -- the next record, not refused, is sound and fits
  pub welcome : (o : Option Record) → bad_record s n rows o ≡ false → (head_of o).marks ≡ false → (head_of o).number ≡ suc n → Welcome s rows o
  unfolding head_of sound_record bad_record fits_record
  welcome None h m l = absurd (clash true refl h)
  welcome (Some (numbered u k e)) h m l =
      let p = or_l (not (sound s e) || eqb k 0) (eqb k (suc n) && not (fits e rows)) h in
      let q : not (fits e rows) ≡ false = rw (eq-eqb k (suc n) l) at (or_r (not (sound s e) || eqb k 0) (eqb k (suc n) && not (fits e rows)) h) in
      record { sound = not-false (sound s e) (or_l (not (sound s e)) (eqb k 0) p); fits = not-false (fits e rows) q }
  welcome (Some (mark u k)) h m l = absurd (clash true refl m)

-- ── the answers ──
module _ (s : Schema) (run : ℕ) (m : Numbers) (rows : List Row) where
  abbrev was : Mirror
  was = mirror_of m rows

  abbrev Fine : Option Record → Type 0
  Fine o = bad_record s m.n rows o ≡ false

  pub refused : (o : Option Record) → bad_record s m.n rows o ≡ true → on_read s run was o ≡ record { status = BadRecord; next = was }
  unfolding bad_record
  refused None h = refl
  refused (Some (numbered u k e)) h = rw h
  refused (Some (mark u k)) h = absurd (clash false h refl)

  pub stranger : (o : Option Record) → Fine o → ((head_of o).run ≡ run → ⊥) → on_read s run was o ≡ record { status = OtherRun; next = was }
  unfolding head_of bad_record
  stranger None h x = absurd (clash true refl h)
  stranger (Some (numbered u k e)) h x = rw (h, ne_eqb u run x)
  stranger (Some (mark u k)) h x = rw (ne_eqb u run x)

  pub marked : (o : Option Record) → (head_of o).run ≡ run → (head_of o).marks ≡ true → on_read s run was o ≡ record { status = Heard; next = mirror_of (hears_of m (head_of o).number) rows }
  unfolding head_of hears_of
  marked None x y = absurd (clash false y refl)
  marked (Some (numbered u k e)) x y = absurd (clash false y refl)
  marked (Some (mark u k)) x y = rw (eq-eqb u run x)

  pub repeated : (o : Option Record) → Fine o → (head_of o).run ≡ run → (head_of o).marks ≡ false → (head_of o).number ≤ m.n → on_read s run was o ≡ record { status = Repeat; next = was }
  unfolding head_of bad_record
  repeated None h x y l = absurd (clash true refl h)
  repeated (Some (numbered u k e)) h x y l = rw (h, eq-eqb u run x, le-leb k m.n l)
  repeated (Some (mark u k)) h x y l = absurd (clash true refl y)

  pub ahead : (o : Option Record) → Fine o → (head_of o).run ≡ run → (head_of o).marks ≡ false → m.n < (head_of o).number → ((head_of o).number - 1 ≡ m.n → ⊥)
      → on_read s run was o ≡ record { status = Behind; next = mirror_of (hears_of m (head_of o).number) rows }
  unfolding head_of bad_record hears_of
  ahead None h x y l z = absurd (clash true refl h)
  ahead (Some (numbered u k e)) h x y l z = let w : k ≡ suc m.n → ⊥ = λ p. z (omega arith) in rw (h, eq-eqb u run x, lt-leb k m.n l, ne_eqb k (suc m.n) w)
  ahead (Some (mark u k)) h x y l z = absurd (clash true refl y)

  pub applied : (o : Option Record) → Fine o → (head_of o).run ≡ run → (head_of o).marks ≡ false → (head_of o).number ≡ suc m.n
      → on_read s run was o ≡ record { status = Applied; next = mirror_of (applies_of m (head_of o).number (head_of o).ends) (act_record s o rows) }
  unfolding head_of bad_record applies_of act_record
  applied None h x y l = absurd (clash true refl h)
  applied (Some (numbered u k e)) h x y l =
      rw (h, eq-eqb u run x, lt-leb k m.n (omega arith), eq-eqb k (suc m.n) l)
      (ap (λ (j : ℕ). record { status = Applied; next = record { rows = act s e rows; n = j; top = max m.top j; heard = true; whole = is_end e } }) (sym l))
  applied (Some (mark u k)) h x y l = absurd (clash true refl y)

  -- what is read of the bytes is what the model decodes
  pub record Outcome (bytes : List ℕ) (a : Status) (next : Mirror) : Type 0 where
    pub status : a ≡ (step_of s run was bytes).status
    pub mirror : next ≡ (step_of s run was bytes).next

  pub outcome : (o : Option Record) (bytes : List ℕ) (x : Step) → o ≡ decode bytes → on_read s run was o ≡ x → Outcome bytes x.status x.next
  unfolding step_of
  outcome o bytes x d e =
      let f : x ≡ on_read s run was (decode bytes) = sym e ∙ ap (on_read s run was) d in
      record { status = λ j. (f j).status; mirror = λ j. (f j).next }

-- ── an arrival, by the tests that the code makes of what the record carries ──
module _ (schema : List (List ℕ)) (run : ℕ) (m : Numbers) (bytes : List ℕ) (count : ℕ) (cells : List (List (List ℕ))) (few : count ≤ 32) (o : Option Record) (d : o ≡ decode bytes) where
  abbrev s : Schema
  s = packed_tables schema

  abbrev rows : List Row
  rows = working s count cells

  abbrev Came : List (List (List ℕ)) → Status → Numbers → ℕ → Type 0
  Came exit a k left = Stepped schema run m bytes count cells exit (record { status = a; numbers = k; count = left })

  moved : (exit : List (List (List ℕ))) (a : Status) (k : Numbers) (left : ℕ) (after : List Row) → Left s after count cells left exit → on_read s run (mirror_of m rows) o ≡ record { status = a; next = mirror_of k after } → Came exit a k left
  moved exit a k left after l e =
      let t = outcome s run m rows o bytes (record { status = a; next = mirror_of k after }) d e in
      record { status = t.status; next = ap (mirror_of k) l.same ∙ t.mirror; few = l.few; tidy = l.tidy }

  kept : (a : Status) (k : Numbers) → on_read s run (mirror_of m rows) o ≡ record { status = a; next = mirror_of k rows } → Came cells a k count
  kept a k e = moved cells a k count rows (record { same = refl; few = few; tidy = λ g z. z }) e

  pub step_bad : bad_record s m.n rows o ≡ true → Came cells BadRecord m count
  step_bad h = kept BadRecord m (refused s run m rows o h)

  module _ (h : Head) (e : h ≡ head_of o) (f : bad_record s m.n rows o ≡ false) where
    number : (head_of o).number ≡ h.number
    number = sym (ap (λ (y : Head). y.number) e)

    module _ (x : h.run ≡ run) where
      same_run : (head_of o).run ≡ run
      same_run = sym (ap (λ (y : Head). y.run) e) ∙ x

      heard_as_lem : (a : Status) → on_read s run (mirror_of m rows) o ≡ record { status = a; next = mirror_of (hears_of m (head_of o).number) rows } → Came cells a (hears_of m h.number) count
      heard_as_lem a p = kept a (hears_of m h.number) (p ∙ ap (λ (k : ℕ). record { status = a; next = mirror_of (hears_of m k) rows }) number)

    marks_as : {b : Bool} → h.marks ≡ b → (head_of o).marks ≡ b
    marks_as y = sym (ap (λ (z : Head). z.marks) e) ∙ y

    -- another record than the next
    pub step_heard : is_next run m h ≡ false → Stepped schema run m bytes count cells cells (heard_of run m h count)
    unfolding is_next heard_of
    step_heard n =
        split
        (eqb h.run run)
        (λ x.
        let r = eqb-true h.run run x in
        split
        h.marks
        (λ y. rw (heard_of, x, y) (heard_as_lem r Heard (marked s run m rows o (same_run r) (marks_as y))))
        (λ y.
        split
        (leb h.number m.n)
        (λ l. rw (heard_of, x, y, l) (kept Repeat m (repeated s run m rows o f (same_run r) (marks_as y) (omega (arith, number, leb-true h.number m.n l)))))
        (λ l.
        let z : h.number ≡ m.n + 1 → ⊥ = eqb-false h.number (m.n + 1) (rw (x, y) at n) in
        let k = leb-false h.number m.n l in
        rw (heard_of, x, y, l) (heard_as_lem r Behind (ahead s run m rows o f (same_run r) (marks_as y) (omega (arith, number, k)) (λ p. z (omega (arith, number, k, p))))))))
        (λ x. rw (heard_of, x) (kept OtherRun m (stranger s run m rows o f (λ p. eqb-false h.run run x (ap (λ (y : Head). y.run) e ∙ p)))))

    -- the next one
    module _ (n : is_next run m h ≡ true) where
      next : ((head_of o).run ≡ run) × ((head_of o).marks ≡ false) × ((head_of o).number ≡ suc m.n)
      unfolding is_next
      next =
          let a = and_l (eqb h.run run) _ n in
          let b = and_r (eqb h.run run) _ n in
          (same_run (eqb-true h.run run a), marks_as (not-true h.marks (and_l (not h.marks) _ b)), omega (arith, number, eqb-true h.number (m.n + 1) (and_r (not h.marks) _ b)))

      pub step_welcome : Welcome s rows o
      step_welcome = welcome s m.n rows o f next.1 next.2

      pub step_applied : (k : Numbers) → k ≡ applies_of m h.number h.ends → (left : ℕ) (exit : List (List (List ℕ))) → Left s (act_record s o rows) count cells left exit → Came exit Applied k left
      step_applied k q left exit w =
          moved exit Applied k left (act_record s o rows) w
          (applied s run m rows o f next.0 next.1 next.2
          ∙ ap (λ (z : Numbers). record { status = Applied; next = mirror_of z (act_record s o rows) }) (sym (q ∙ ap (λ (z : Head). applies_of m z.number z.ends) e)))
