-- A mirror and a list of arrivals, against a history's records. Assumes nothing.
use Rattle.std.specs.Prelude.{Option, Some, None}
use mathlib.Core.Path.{◌≡◌, refl}
use mathlib.Core.Bool.{true, false, not, ◌&&◌, ◌||◌}
use mathlib.Core.List.{List, [], ◌∷◌}
use Prim.Native.Nat.{ℕ, zero, suc, ◌≤◌, ◌<◌, max}
use native.Mathlib.Omega.{arith}
use borrow.Author.Tests.{leb-true, leb-false, eqb-true, eqb-false}
use lib.Dec.{eqb, leb, eqb-suc-zero}
use lib.ListN.{length, get_or, take}
use Rattle.model.specs.Schema.{Column, Schema, columns_of}
use Rattle.model.specs.Value.{Value, shaped, canonical_tests}
use Rattle.model.specs.Rows.{Row}
use Rattle.model.specs.Records.{Change, born, gone, column, end, acts, fits, known, allows, sound, Record, numbered, mark}
use Rattle.model.specs.Mirror.{Mirror, fresh, Step, hears, applies, bad, on_read, number_carried}
use Rattle.model.specs.Refusals.{is_refusal}
use Rattle.model.specs.declared.Status.TheVariants.{BadRecord, OtherRun, Repeat, Behind, Heard, Applied}
use Rattle.model.proofs.StateDemand.{ends_at}
use Rattle.model.proofs.Tests.{split, clash, parts, and_l, and_r, or_l, or_r}
use Rattle.model.proofs.Chain.{Chain}
use Rattle.model.proofs.GoodOrder.{known_short}
use Rattle.model.proofs.Bytes.{Fits}
use Rattle.model.proofs.Past.{chain_at, acts_next}

-- a sound record has its widths
allows_shaped : (cs : List Column) (c : ℕ) (v : Value) → allows cs c v ≡ true → shaped v ≡ true
allows_shaped [] c v h = absurd (clash false h refl)
allows_shaped (x ∷ cs) zero v h = (parts (canonical_tests x v) h).0
allows_shaped (x ∷ cs) (suc c) v h = allows_shaped cs c v h

pub sound_fits : (s : Schema) (e : Change) → sound s e ≡ true → Fits e
sound_fits s (born t i) h = known_short s t i h
sound_fits s (gone t i) h = known_short s t i h
sound_fits s (column t i c v) h = (known_short s t i (and_l (known s t i) (allows (columns_of s t) c v) h), allows_shaped (columns_of s t) c v (and_r (known s t i) (allows (columns_of s t) c v) h))
sound_fits s end h = tt

-- the mirror's choice, by its cases
pub data Said (s : Schema) (run : ℕ) (m : Mirror) : Option Record → Step → Type 0 where
  unread : Said s run m None (record { status = BadRecord; next = m })
  strange_mark : (u k : ℕ) → eqb u run ≡ false → Said s run m (Some (mark u k)) (record { status = OtherRun; next = m })
  marked : (u k : ℕ) → u ≡ run → Said s run m (Some (mark u k)) (record { status = Heard; next = hears m k })
  unfit : (u k : ℕ) (e : Change) → bad s m k e ≡ true → Said s run m (Some (numbered u k e)) (record { status = BadRecord; next = m })
  strange : (u k : ℕ) (e : Change) → eqb u run ≡ false → Said s run m (Some (numbered u k e)) (record { status = OtherRun; next = m })
  again : (u k : ℕ) (e : Change) → u ≡ run → 0 < k → k ≤ m.n → Said s run m (Some (numbered u k e)) (record { status = Repeat; next = m })
  next : (u k : ℕ) (e : Change) → bad s m k e ≡ false → u ≡ run → k ≡ suc m.n → Said s run m (Some (numbered u k e)) (record { status = Applied; next = applies s m e })
  early : (u k : ℕ) (e : Change) → u ≡ run → suc m.n < k → Said s run m (Some (numbered u k e)) (record { status = Behind; next = hears m k })

pub said : (s : Schema) (run : ℕ) (m : Mirror) (o : Option Record) → Said s run m o (on_read s run m o)
said s run m None = unread
said s run m (Some (mark u k)) = split (eqb u run) (λ p. rw p (marked u k (eqb-true u run p))) (λ p. rw p (strange_mark u k p))
said s run m (Some (numbered u k e)) = split (bad s m k e) (λ p. rw p (unfit u k e p))
    (λ p. split (eqb u run)
    (λ q. split (leb k m.n)
    (λ x.
    let z : k ≡ 0 → ⊥ = eqb-false k 0 (or_r (not (sound s e)) (eqb k 0) (or_l (not (sound s e) || eqb k 0) (eqb k (suc m.n) && not (fits e m.rows)) p)) in
    rw (p, q, x) (again u k e (eqb-true u run q) (omega arith) (leb-true k m.n x)))
    (λ x. split (eqb k (suc m.n))
    (λ y. rw (p, q, x, y) (next u k e p (eqb-true u run q) (eqb-true k (suc m.n) y)))
    (λ y. rw (p, q, x, y) (early u k e (eqb-true u run q) (omega (arith, leb-false k m.n x, eqb-false k (suc m.n) y))))))
    (λ q. rw (p, q) (strange u k e q)))

module _ {s : Schema} {run : ℕ} {m : Mirror} where
  pub refused_same : {o : Option Record} {x : Step} → Said s run m o x → is_refusal x.status ≡ true → x.next ≡ m
  refused_same unread h = refl
  refused_same (strange_mark u k p) h = refl
  refused_same (marked u k r) h = absurd (clash false h refl)
  refused_same (unfit u k e p) h = refl
  refused_same (strange u k e p) h = refl
  refused_same (again u k e r z p) h = refl
  refused_same (next u k e b r p) h = absurd (clash false h refl)
  refused_same (early u k e r p) h = absurd (clash false h refl)

-- what a history writes: a mark no higher than the records written, or a record under its number
abbrev pub Tells : ℕ → List Change → Record → Type 0
Tells run es (mark u k) = (u ≡ run) × (k ≤ length es)
Tells run es (numbered u k e) = (u ≡ run) × ((j : ℕ) × (j < length es) × (k ≡ suc j) × (e ≡ get_or es j end))

module _ (s : Schema) (run : ℕ) (es : List Change) (final : List Row) (chain : Chain s es [] final) where
  -- the mirror holds what the records up to its number make
  pub record Held (m : Mirror) : Type 0 where
    pub within : m.n ≤ length es
    pub made : m.rows ≡ acts s (take m.n es) []
    pub ends : m.whole ≡ ends_at es m.n
    pub topped : m.n ≤ m.top
    pub loud : 0 < m.n → m.heard ≡ true

  pub held_fresh : Held fresh
  held_fresh = record { within = omega arith; made = refl; ends = refl; topped = omega arith; loud = λ h. absurd (omega arith) }

  -- none of the history's is refused
  fit : (m : Mirror) → Held m → (j : ℕ) → j < length es → bad s m (suc j) (get_or es j end) ≡ false
  fit m h j l =
      let c = chain_at s es [] final chain j l in
      split (eqb (suc j) (suc m.n))
      (λ p.
      let e : m.n ≡ j = omega (arith, eqb-true (suc j) (suc m.n) p) in
      let f : fits (get_or es j end) m.rows ≡ true = rw (h.made, e) c.1 in
      rw (c.0, eqb-suc-zero j, p, f))
      (λ p. rw (c.0, eqb-suc-zero j, p))

  held_hears : {m : Mirror} (k : ℕ) → Held m → Held (hears m k)
  held_hears {m} k h = record { within = h.within; made = h.made; ends = h.ends; topped = omega (arith, h.topped); loud = λ _. refl }

  pub held_said : {m : Mirror} {l : Record} {x : Step} → Held m → Tells run es l → Said s run m (Some l) x → Held x.next × (is_refusal x.status ≡ false)
  held_said h t (strange_mark u k p) = absurd (eqb-false u run p t.0)
  held_said h t (marked u k r) = (held_hears k h, refl)
  held_said {m} h t (unfit u k e p) = absurd (clash (bad s m k e) p (rw (t.1.2, t.1.3) (fit m h t.1.0 t.1.1)))
  held_said h t (strange u k e p) = absurd (eqb-false u run p t.0)
  held_said h t (again u k e r z p) = (h, refl)
  held_said {m} h t (next u k e b r p) =
      let q : t.1.0 ≡ m.n = omega (arith, t.1.2) in
      let l : m.n < length es = rw q at t.1.1 in
      let e' : e ≡ get_or es m.n end = rw q at t.1.3 in (
        record {
          within = omega arith;
          made = rw (acts_next s es [] m.n l, ← e', ← h.made);
          ends = rw e';
          topped = omega arith;
          loud = λ _. refl;
        },
        refl,
      )
  held_said h t (early u k e r p) = (held_hears k h, refl)

  -- record n+1 moves n by one
  pub moves_said : {m : Mirror} {e : Change} {x : Step} → Held m → m.n < length es → e ≡ get_or es m.n end → Said s run m (Some (numbered run (suc m.n) e)) x → (x.status ≡ Applied) × (x.next.n ≡ suc m.n)
  moves_said {m} {e} h l q v = go v refl
    where
      go : {k : ℕ} {x : Step} → Said s run m (Some (numbered run k e)) x → k ≡ suc m.n → (x.status ≡ Applied) × (x.next.n ≡ suc m.n)
      go (unfit u k e p) z = absurd (clash (bad s m k e) p (rw (z, q) (fit m h m.n l)))
      go (strange u k e p) z = absurd (eqb-false u run p refl)
      go (again u k e r a b) z = absurd (omega arith)
      go (next u k e b r p) z = (refl, refl)
      go (early u k e r p) z = absurd (omega arith)

  -- what was heard
  pub heard_said : {m : Mirror} {o : Option Record} {x : Step} → Held m → Said s run m o x → is_refusal x.status ≡ false → (x.next.top ≡ max m.top (number_carried o)) × (x.next.heard ≡ true)
  heard_said h unread q = absurd (clash true refl q)
  heard_said h (strange_mark u k p) q = absurd (clash true refl q)
  heard_said h (marked u k r) q = (refl, refl)
  heard_said h (unfit u k e p) q = absurd (clash true refl q)
  heard_said h (strange u k e p) q = absurd (clash true refl q)
  heard_said {m} h (again u k e r z p) q = (omega (arith, h.topped), h.loud (omega arith))
  heard_said {m} h (next u k e b r p) q = (rw p, refl)
  heard_said h (early u k e r p) q = (refl, refl)
