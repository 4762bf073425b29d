-- A mirror in good order has rows only of the tables of its schema, with as many values as columns: a table or a column from 255 on tells nothing. Assumes nothing.
use Rattle.std.specs.Prelude.{Option, Some, None}
use mathlib.Core.Path.{◌≡◌, refl, sym, ◌∙◌, ap}
use mathlib.Core.Bool.{Bool, true, false}
use mathlib.Core.List.{List, [], ◌∷◌}
use Prim.Native.Nat.{ℕ, zero, suc, ◌+◌, ◌*◌, ◌≤◌, ◌<◌, min}
use native.Mathlib.Omega.{arith}
use borrow.Author.Tests.{ltb-true, ltb-false, ne_eqb}
use lib.Arith.{digits_lt}
use lib.Dec.{eqb, ltb}
use lib.ListN.{length, replicate}
use Rattle.model.specs.Octets.{value}
use Rattle.model.specs.Base.{nth}
use Rattle.model.specs.Schema.{Schema, columns_of}
use Rattle.model.specs.Value.{Value}
use Rattle.model.specs.Rows.{Row, key_of, key, find, has}
use Rattle.model.proofs.Order.{Fine, AllFine}
use Rattle.model.specs.Mirror.{Mirror, column_bytes, value_answer, row_answer, column_answer}
use Rattle.model.specs.Areas.{MirrorState, mirror_of}
use Rattle.model.specs.Limits.{mirror_bytes}
use Rattle.model.specs.Calls.{asked, no_presence, presence_of, mirror_has_row, Contents, no_contents, contents_of, mirror_column}
use Rattle.model.specs.declared.Status.{Status}
use Rattle.model.specs.declared.Status.TheVariants.{Accepted, Disordered, WrongLength}
use Rattle.model.proofs.Tests.{split}
use Rattle.model.proofs.GoodOrder.{known_table}
use Rattle.model.proofs.Accepted.{Kept, narrow, sane_kept}
use Rattle.model.proofs.Lengths.{narrow_at, typed_length}
use Rattle.model.proofs.Areas.{mirror_of_is}
use Rattle.model.proofs.States.{mirror_parts}

-- ── a table that the schema lacks ──
digits_above : (n t u i j : ℕ) → j < n → u < t → t * n + i ≡ u * n + j → ⊥
digits_above n t u i j h g e = omega (arith, digits_lt {q = u} {m = t} {r = j} {c = n} g h, e)

module _ (s : Schema) (t i : ℕ) (l : length s ≤ t) where
  key_beyond : (r : Row) → Fine s r → eqb (key_of t i) (key r) ≡ false
  unfolding key_of
  key_beyond r f =
      ne_eqb (key_of t i) (key r) (λ e. digits_above 340282366920938463463374607431768211456 t r.table i r.id f.short (omega (arith, l, known_table s r.table r.id f.here)) e)

  has_beyond : (rows : List Row) → AllFine s rows → has (key_of t i) rows ≡ false
  has_beyond [] f = refl
  has_beyond (r ∷ rs) f = rw (key_beyond r f.0) (has_beyond rs f.1)

  find_beyond : (rows : List Row) → AllFine s rows → find (key_of t i) rows ≡ None
  find_beyond [] f = refl
  find_beyond (r ∷ rs) f = rw (key_beyond r f.0) (find_beyond rs f.1)

-- ── a column that the table lacks ──
nth_beyond : (vs : List Value) (c : ℕ) → length vs ≤ c → nth vs c ≡ None
nth_beyond [] c l = refl
nth_beyond (v ∷ vs) zero l = absurd (omega (arith, l))
nth_beyond (v ∷ vs) (suc c) l = nth_beyond vs c (omega (arith, l))

column_beyond : (s : Schema) (k c : ℕ) → narrow s ≡ true → 6 ≤ c → (rows : List Row) → AllFine s rows → row_answer (find k rows) c ≡ replicate column_bytes 0
column_beyond s k c n l [] f = refl
column_beyond s k c n l (r ∷ rs) f =
    split
    (eqb k (key r))
    (λ e. rw e (ap value_answer (nth_beyond r.columns c (omega (arith, l, narrow_at s r.table n, typed_length (columns_of s r.table) r.columns f.0.typed)))))
    (λ e. rw e (column_beyond s k c n l rs f.1))

-- ── numbers from 255 on are all alike ──
alike : {A : Type 0} (f : ℕ → A) (a : A) → ((t : ℕ) → 255 ≤ t → f t ≡ a) → (t : ℕ) → f t ≡ f (min t 255)
alike f a h t =
    split
    (ltb t 255)
    (λ e. let q : t ≡ min t 255 = omega (arith, ltb-true t 255 e) in ap f q)
    (λ e. let q : 255 ≤ min t 255 = omega (arith, ltb-false t 255 e) in h t (omega (arith, ltb-false t 255 e)) ∙ sym (h (min t 255) q))

module _ (a : List ℕ) (m : MirrorState) (e : mirror_of a ≡ Some m) where
  fine : AllFine m.database.tables m.mirror.rows
  fine = (mirror_parts m (mirror_of_is a m e).1).rows.fine

  kept : Kept m.database.tables
  kept = sane_kept m.database (mirror_parts m (mirror_of_is a m e).1).accepted

  has_alike : (t i : ℕ) → has (key_of t i) m.mirror.rows ≡ has (key_of (min t 255) i) m.mirror.rows
  has_alike t i =
      alike (λ (u : ℕ). has (key_of u i) m.mirror.rows) false
      (λ u l. has_beyond m.database.tables u i (omega (arith, l, kept.few)) m.mirror.rows fine) t

  column_alike : (t i c : ℕ) → column_answer m.mirror t i c ≡ column_answer m.mirror (min t 255) i (min c 255)
  column_alike t i c =
      alike (λ (u : ℕ). row_answer (find (key_of u i) m.mirror.rows) c) (replicate column_bytes 0)
      (λ u l. ap (λ (o : Option Row). row_answer o c) (find_beyond m.database.tables u i (omega (arith, l, kept.few)) m.mirror.rows fine)) t
      ∙ alike (λ (d : ℕ). row_answer (find (key_of (min t 255) i) m.mirror.rows) d) (replicate column_bytes 0)
      (λ d l. column_beyond m.database.tables (key_of (min t 255) i) d kept.narrow (omega (arith, l)) m.mirror.rows fine) c

-- ── questions ──
module _ {A : Type 0} (refuse : Status → A) where
  chosen : (Mirror → A) → Option MirrorState → A
  chosen f o = elim o [ None ↦ refuse Disordered | Some m ↦ f m.mirror ]

  chosen_same : (a : List ℕ) (f g : Mirror → A) → ((m : MirrorState) → mirror_of a ≡ Some m → f m.mirror ≡ g m.mirror) → (o : Option MirrorState) → mirror_of a ≡ o → chosen f o ≡ chosen g o
  unfolding chosen
  chosen_same a f g h None e = refl
  chosen_same a f g h (Some m) e = h m e

  asked_is : (a : List ℕ) (f : Mirror → A) → asked a refuse f ≡ elim (eqb (length a) mirror_bytes) [ true ↦ chosen f (mirror_of a) | false ↦ refuse WrongLength ]
  unfolding chosen
  asked_is a f = refl

  -- two questions of which every mirror in good order tells the same
  asked_same : (a : List ℕ) (f g : Mirror → A) → ((m : MirrorState) → mirror_of a ≡ Some m → f m.mirror ≡ g m.mirror) → asked a refuse f ≡ asked a refuse g
  asked_same a f g h = asked_is a f ∙ ap (λ (x : A). elim (eqb (length a) mirror_bytes) [ true ↦ x | false ↦ refuse WrongLength ]) (chosen_same a f g h (mirror_of a) refl) ∙ sym (asked_is a g)

pub row_small : (a : List ℕ) (t : ℕ) (id : List ℕ) → mirror_has_row a t id ≡ mirror_has_row a (min t 255) id
unfolding mirror_has_row
row_small a t id =
    asked_same no_presence a (presence_of t id) (presence_of (min t 255) id) (λ m e. ap (λ (b : Bool). record { status = Accepted; there = b }) (has_alike a m e t (value id)))

pub column_small : (a : List ℕ) (t : ℕ) (id : List ℕ) (c : ℕ) (out : List ℕ) → mirror_column a t id c out ≡ mirror_column a (min t 255) id (min c 255) out
unfolding mirror_column
column_small a t id c out =
    ap (λ (x : Contents). elim (eqb (length out) column_bytes) [ true ↦ x | false ↦ no_contents out WrongLength ])
    (asked_same (no_contents out) a (contents_of t id c) (contents_of (min t 255) id (min c 255)) (λ m e. ap (λ (l : List ℕ). record { status = Accepted; out = l }) (column_alike a m e t (value id) c)))

-- by a table and a column that are 255 where they are above
pub column_by : (a : List ℕ) (t : ℕ) (id : List ℕ) (c : ℕ) (out : List ℕ) (u d : ℕ) (x : Contents) → u ≡ min t 255 → d ≡ min c 255 → mirror_column a u id d out ≡ x → mirror_column a t id c out ≡ x
column_by a t id c out u d x e f h = column_small a t id c out ∙ (λ j. mirror_column a (sym e j) id (sym f j) out) ∙ h
