-- Records that each fit the rows they meet, from rows to rows. Assumes nothing.
use Rattle.std.specs.Prelude.{Some, None}
use mathlib.Core.Path.{◌≡◌, refl}
use mathlib.Core.Bool.{Bool, true, false}
use mathlib.Core.List.{List, [], ◌∷◌, ◌++◌, map}
use Prim.Native.Nat.{ℕ, zero, suc, ◌≤◌, ◌<◌}
use native.Mathlib.Omega.{arith}
use borrow.Author.Tests.{lt-ltb}
use lib.Dec.{eqb}
use lib.ListN.{length, length-append}
use lib.Seq.{append_snoc, set_at}
use Rattle.model.specs.Base.{keep}
use Rattle.model.specs.Schema.{Column, Schema, columns_of}
use Rattle.model.specs.Value.{Value, same_value, initial}
use Rattle.model.specs.Rows.{Row, key_of, key, find, has, has_id, initials}
use Rattle.model.specs.Records.{Change, act, fits, known, allows, sound, gones, writes, row_writes, walk, never}
use Rattle.model.proofs.Order.{Above, Sorted, Distinct, Typed, AllFine}
use Rattle.model.proofs.Tests.{split, or_l, or_r, eqb_flip, value_same}
use Rattle.model.proofs.Seams.{Below, remove_at, change_at, has_at, add_at, below_at, sorted_drop, sorted_rest}

abbrev pub Chain : Schema → List Change → List Row → List Row → Type 0
Chain s [] b a = b ≡ a
Chain s (e ∷ es) b a = (sound s e ≡ true) × (fits e b ≡ true) × Chain s es (act s e b) a

pub chain_append : (s : Schema) (es fs : List Change) (b m a : List Row) → Chain s es b m → Chain s fs m a → Chain s (es ++ fs) b a
chain_append s [] fs b m a h k = rw h k
chain_append s (e ∷ es) fs b m a h k = (h.0, h.1, chain_append s es fs (act s e b) m a h.2 k)

-- the gone rows, one after another
abbrev pub kept : List Row → List Row → List Row
kept after rows = keep (λ (r : Row). has (key r) after) rows

pub gone_chain : (s : Schema) (after d rest : List Row) → Sorted (d ++ rest) → AllFine s rest → Chain s (gones after rest) (d ++ rest) (d ++ kept after rest)
gone_chain s after d [] o f = refl
gone_chain s after d (r ∷ rest) o f = split (has (key r) after)
    (λ e. rw e (rw (append_snoc d r rest, append_snoc d r (kept after rest)) at (gone_chain s after (d ++ r ∷ []) rest (rw (append_snoc d r rest) o) f.1)))
    (λ e. rw e (f.0.here, has_at d r rest, rw (remove_at d r rest (below_at d r rest o)) (gone_chain s after d rest (sorted_drop d r rest o) f.1)))

-- one row's columns, one after another
typed_at : (cs : List Column) (us : List Value) (v : Value) (vs : List Value) (n : ℕ) → length us ≡ n → Typed cs (us ++ v ∷ vs) → allows cs n v ≡ true
typed_at [] [] v vs n e h = absurd h
typed_at [] (u ∷ us) v vs n e h = absurd h
typed_at (c ∷ cs) [] v vs zero e h = h.0
typed_at (c ∷ cs) [] v vs (suc n) e h = absurd (omega arith)
typed_at (c ∷ cs) (u ∷ us) v vs zero e h = absurd (omega arith)
typed_at (c ∷ cs) (u ∷ us) v vs (suc n) e h = typed_at cs us v vs n (omega arith) h.1

abbrev pub Alike : List Value → List Value → Type 0
Alike [] [] = Unit
Alike [] (w ∷ ws) = ⊥
Alike (v ∷ vs) [] = ⊥
Alike (v ∷ vs) (w ∷ ws) = Alike vs ws

abbrev row_of : ℕ → ℕ → List Value → Row
row_of t i vs = record { table = t; id = i; columns = vs }

module _ (s : Schema) (skip : Value → Value → Bool) (means : (v w : Value) → skip v w ≡ true → v ≡ w) (t i : ℕ) (k : known s t i ≡ true) (d p : List Row) (o : Below d (key_of t i)) where
  pub writes_chain : (c : ℕ) (us vs ws : List Value) → length us ≡ c → Alike vs ws → Typed (columns_of s t) (us ++ ws)
      → Chain s (writes skip t i c vs ws) (d ++ row_of t i (us ++ vs) ∷ p) (d ++ row_of t i (us ++ ws) ∷ p)
  writes_chain c us [] [] e l h = refl
  writes_chain c us [] (w ∷ ws) e l h = absurd l
  writes_chain c us (v ∷ vs) [] e l h = absurd l
  writes_chain c us (v ∷ vs) (w ∷ ws) e l h =
      let ih : Chain s (writes skip t i (suc c) vs ws) (d ++ row_of t i (us ++ w ∷ vs) ∷ p) (d ++ row_of t i (us ++ w ∷ ws) ∷ p) =
      rw (append_snoc us w vs, append_snoc us w ws) at (writes_chain (suc c) (us ++ w ∷ []) vs ws (simp length-append (omega arith)) l (rw (append_snoc us w ws) h)) in
      split (skip v w) (λ q. rw (q, means v w q) ih)
      (λ q. rw q (
        rw (k, typed_at (columns_of s t) us w ws c e h),
        has_at d (row_of t i (us ++ v ∷ vs)) p,
        rw (change_at d (row_of t i (us ++ v ∷ vs)) p c w o, set_at us v vs w c e) ih,
      ))

-- a row's values and those of another row of its table, or of a new one, are as many
pub typed_alike : (cs : List Column) (vs ws : List Value) → Typed cs vs → Typed cs ws → Alike vs ws
typed_alike [] [] [] h k = tt
typed_alike [] [] (w ∷ ws) h k = k
typed_alike [] (v ∷ vs) ws h k = absurd h
typed_alike (c ∷ cs) [] ws h k = absurd h
typed_alike (c ∷ cs) (v ∷ vs) [] h k = k
typed_alike (c ∷ cs) (v ∷ vs) (w ∷ ws) h k = typed_alike cs vs ws h.1 k.1

initial_alike : (cs : List Column) (ws : List Value) → Typed cs ws → Alike (map initial cs) ws
initial_alike [] [] k = tt
initial_alike [] (w ∷ ws) k = k
initial_alike (c ∷ cs) [] k = k
initial_alike (c ∷ cs) (w ∷ ws) k = initial_alike cs ws k.1

-- the walk. Pend before p rest: of the rows `rest` that are still to be written, p are those that stand, as they were before
pub data Pend (before : List Row) : List Row → List Row → Type 0 where
  done : Pend before [] []
  same : {x r : Row} {p rest : List Row} → find (key r) before ≡ Some x → x.table ≡ r.table → x.id ≡ r.id → Alike x.columns r.columns → Pend before p rest → Pend before (x ∷ p) (r ∷ rest)
  new : {r : Row} {p rest : List Row} → find (key r) before ≡ None → Pend before p rest → Pend before p (r ∷ rest)

module _ {before : List Row} where
  pend_above : {p rest : List Row} (k : ℕ) → Pend before p rest → Above k rest → Above k p
  pend_above k done a = tt
  pend_above k (same e t i l h) a = (rw (t, i) a.0, pend_above k h a.1)
  pend_above k (new e h) a = pend_above k h a.1

  pend_length : {p rest : List Row} → Pend before p rest → length p ≤ length rest
  pend_length done = omega arith
  pend_length (same e t i l h) = let z = pend_length h in omega arith
  pend_length (new e h) = let z = pend_length h in omega arith

  pend_ids : {p rest : List Row} (i : ℕ) → Pend before p rest → has_id i rest ≡ false → has_id i p ≡ false
  pend_ids i done a = refl
  pend_ids i (same {r = r} {rest = rest} e t j l h) a = rw (j, or_l (eqb i r.id) (has_id i rest) a, pend_ids i h (or_r (eqb i r.id) (has_id i rest) a))
  pend_ids i (new {r = r} {rest = rest} e h) a = pend_ids i h (or_r (eqb i r.id) (has_id i rest) a)

ids_append : (i : ℕ) (d p : List Row) → has_id i d ≡ false → has_id i p ≡ false → has_id i (d ++ p) ≡ false
ids_append i [] p h k = k
ids_append i (x ∷ d) p h k = rw (or_l (eqb i x.id) (has_id i d) h, ids_append i d p (or_r (eqb i x.id) (has_id i d) h) k)

ids_seam : (i : ℕ) (d : List Row) (r : Row) (p : List Row) → has_id i (d ++ r ∷ p) ≡ false → eqb i r.id ≡ false
ids_seam i [] r p h = or_l (eqb i r.id) (has_id i p) h
ids_seam i (x ∷ d) r p h = ids_seam i d r p (or_r (eqb i x.id) (has_id i (d ++ r ∷ p)) h)

distinct_before : (d : List Row) (r : Row) (p : List Row) → Distinct (d ++ r ∷ p) → has_id r.id d ≡ false
distinct_before [] r p h = refl
distinct_before (x ∷ d) r p h = rw (eqb_flip x.id r.id (ids_seam x.id d r p h.0), distinct_before d r p h.1)

distinct_after : (d : List Row) (r : Row) (p : List Row) → Distinct (d ++ r ∷ p) → has_id r.id p ≡ false
distinct_after [] r p h = h.0
distinct_after (x ∷ d) r p h = distinct_after d r p h.1

pub walk_chain : (s : Schema) (before d : List Row) {p rest : List Row} → Pend before p rest → Sorted (d ++ rest) → Distinct (d ++ rest) → AllFine s rest → length (d ++ rest) ≤ 32
    → Chain s (walk s before rest) (d ++ p) (d ++ rest)
walk_chain s before d done o u g m = refl
walk_chain s before d (same {x = x} {r = r} {p = p} {rest = rest} e t i l h) o u g m =
    let ih : Chain s (walk s before rest) ((d ++ r ∷ []) ++ p) ((d ++ r ∷ []) ++ rest) = walk_chain s before (d ++ r ∷ []) h (rw (append_snoc d r rest) o) (rw (append_snoc d r rest) u) g.1 (rw (append_snoc d r rest) m) in
    rw e (chain_append s (row_writes s (Some x) r) (walk s before rest) (d ++ x ∷ p) (d ++ r ∷ p) (d ++ r ∷ rest)
    (rw (row_is) (writes_chain s same_value value_same r.table r.id g.0.here d p (below_at d r rest o) 0 [] x.columns r.columns refl l g.0.typed))
    (rw (append_snoc d r p, append_snoc d r rest) at ih))
  where
    row_is : x ≡ row_of r.table r.id x.columns
    row_is = λ j. record { table = t j; id = i j; columns = x.columns }
walk_chain s before d (new {r = r} {p = p} {rest = rest} e h) o u g m =
    let ih : Chain s (walk s before rest) ((d ++ r ∷ []) ++ p) ((d ++ r ∷ []) ++ rest) = walk_chain s before (d ++ r ∷ []) h (rw (append_snoc d r rest) o) (rw (append_snoc d r rest) u) g.1 (rw (append_snoc d r rest) m) in
    let b : Below d (key r) = below_at d r rest o in
    let a : Above (key r) p = pend_above (key r) h (sorted_rest d (r ∷ rest) o).0 in
    let n : has_id r.id (d ++ p) ≡ false = ids_append r.id d p (distinct_before d r rest u) (pend_ids r.id h (distinct_after d r rest u)) in
    let z = pend_length h in
    let few : length (d ++ p) < 32 = simp length-append (omega (arith, simp length-append at m)) in
    rw e (
      g.0.here,
      rw (n, lt-ltb (length (d ++ p)) 32 few),
      rw (add_at d (row_of r.table r.id (initials s r.table)) p b a)
          (chain_append s (writes never r.table r.id 0 (initials s r.table) r.columns) (walk s before rest) (d ++ row_of r.table r.id (initials s r.table) ∷ p) (d ++ r ∷ p) (d ++ r ∷ rest)
          (writes_chain s never (λ v w q. cc) r.table r.id g.0.here d p b 0 [] (initials s r.table) r.columns refl (initial_alike (columns_of s r.table) r.columns g.0.typed) g.0.typed)
          (rw (append_snoc d r p, append_snoc d r rest) at ih)),
    )
