-- A commit's records have their widths and their lengths, and are never more than the least records buffer holds. Assumes nothing.
use Rattle.std.specs.Prelude.{Option, Some, None}
use mathlib.Core.Path.{◌≡◌, refl, ap}
use mathlib.Core.Bool.{Bool, true}
use mathlib.Core.List.{List, [], ◌∷◌, ◌++◌, map}
use Prim.Native.Nat.{ℕ, zero, suc, ◌+◌, ◌*◌, ◌^◌, ◌≤◌, ◌<◌}
use native.Mathlib.Omega.{arith}
use borrow.Author.Tests.{leb-true}
use lib.Dec.{leb}
use lib.ListN.{length, replicate, length-append}
use Rattle.model.specs.Limits.{most_columns, last_number, least_records}
use Rattle.model.specs.Base.{flat}
use Rattle.model.specs.Schema.{Column, Schema, columns_of}
use Rattle.model.specs.Value.{Value, same_value}
use Rattle.model.specs.Rows.{Row, key, find, has, initials}
use Rattle.model.specs.Records.{Change, born, gone, column, end, gones, writes, never, row_writes, walk, closed, diff, numbered, number_from, encode, act, pieces}
use Rattle.model.proofs.Order.{Typed, AllFine, Good}
use Rattle.model.proofs.Tests.{split, and_l, and_r}
use Rattle.model.proofs.Accepted.{narrow}
use Rattle.model.proofs.Bytes.{length_value, Fits, AllWide, pieces_of}
use Rattle.model.proofs.Chain.{Chain}
use Rattle.model.proofs.Heart.{heart}
use Rattle.model.proofs.Arrivals.{sound_fits}

-- records that fit one after another have their widths
abbrev pub AllFit : List Change → Type 0
AllFit [] = Unit
AllFit (e ∷ es) = Fits e × AllFit es

pub chain_fit : (s : Schema) (es : List Change) (b a : List Row) → Chain s es b a → AllFit es
chain_fit s [] b a h = tt
chain_fit s (e ∷ es) b a h = (sound_fits s e h.0, chain_fit s es (act s e b) a h.2)

pub fit_wide : (run k : ℕ) (es : List Change) → run < 256 ^ 4 → k + length es ≤ last_number → AllFit es → AllWide (number_from run k es)
fit_wide run k [] u h f = tt
fit_wide run k (e ∷ es) u h f = ((u, omega arith, f.0), fit_wide run (suc k) es u (omega arith) f.1)

-- the bytes of a change, and of changes
abbrev size : Change → ℕ
size (born t i) = 26
size (gone t i) = 26
size (column t i c v) = 128
size end = 9

abbrev sizes : List Change → ℕ
sizes [] = 0
sizes (e ∷ es) = size e + sizes es

encode_size : (u n : ℕ) (e : Change) → Fits e → length (encode (numbered u n e)) ≡ size e
encode_size u n (born t i) f = refl
encode_size u n (gone t i) f = refl
encode_size u n (column t i c v) f = omega (arith, length_value v f.1)
encode_size u n end f = refl

commit_size : (run k : ℕ) (es : List Change) → AllFit es → length (flat (map encode (number_from run k es))) ≡ sizes es
commit_size run k [] f = refl
commit_size run k (e ∷ es) f = simp length-append (omega (arith, encode_size run (suc k) e f.0, commit_size run (suc k) es f.1))

-- how many bytes each part of a commit has at most
sizes_append : (es fs : List Change) → sizes (es ++ fs) ≡ sizes es + sizes fs
sizes_append [] fs = omega arith
sizes_append (e ∷ es) fs = omega (arith, sizes_append es fs)

gones_size : (after rows : List Row) → sizes (gones after rows) ≤ 26 * length rows
gones_size after [] = omega arith
gones_size after (r ∷ rs) = let z = gones_size after rs in split (has (key r) after) (λ e. rw e (omega arith)) (λ e. rw e (omega arith))

writes_size : (skip : Value → Value → Bool) (t i c : ℕ) (vs ws : List Value) → sizes (writes skip t i c vs ws) ≤ 128 * length ws
writes_size skip t i c [] [] = omega arith
writes_size skip t i c [] (w ∷ ws) = omega arith
writes_size skip t i c (v ∷ vs) [] = omega arith
writes_size skip t i c (v ∷ vs) (w ∷ ws) = let z = writes_size skip t i (suc c) vs ws in split (skip v w) (λ e. rw e (omega arith)) (λ e. rw e (omega arith))

row_size : (s : Schema) (o : Option Row) (r : Row) → sizes (row_writes s o r) ≤ 26 + 128 * length r.columns
row_size s None r = omega (arith, writes_size never r.table r.id 0 (initials s r.table) r.columns)
row_size s (Some p) r = omega (arith, writes_size same_value r.table r.id 0 p.columns r.columns)

pub narrow_at : (s : Schema) (t : ℕ) → narrow s ≡ true → length (columns_of s t) ≤ 6
narrow_at [] t h = omega arith
narrow_at (x ∷ s) zero h = leb-true (length x.columns) most_columns (and_l (leb (length x.columns) most_columns) (narrow s) h)
narrow_at (x ∷ s) (suc t) h = narrow_at s t (and_r (leb (length x.columns) most_columns) (narrow s) h)

pub typed_length : (cs : List Column) (vs : List Value) → Typed cs vs → length vs ≡ length cs
typed_length [] [] h = refl
typed_length [] (v ∷ vs) h = absurd h
typed_length (c ∷ cs) [] h = absurd h
typed_length (c ∷ cs) (v ∷ vs) h = ap suc (typed_length cs vs h.1)

walk_size : (s : Schema) (before rows : List Row) → narrow s ≡ true → AllFine s rows → sizes (walk s before rows) ≤ 794 * length rows
walk_size s before [] n f = omega arith
walk_size s before (r ∷ rs) n f =
    let w = walk_size s before rs n f.1 in
    let o = row_size s (find (key r) before) r in
    let l = typed_length (columns_of s r.table) r.columns f.0.typed in
    rw (sizes_append (row_writes s (find (key r) before) r) (walk s before rs)) (omega (arith, narrow_at s r.table n))

closed_size : (es : List Change) → sizes (closed es) ≤ sizes es + 9
closed_size [] = omega arith
closed_size (e ∷ es) = omega (arith, sizes_append es (end ∷ []))

module _ (s : Schema) (run k : ℕ) (before after : List Row) (g : Good s before) (h : Good s after) where
  fit : AllFit (diff s before after)
  fit = chain_fit s (diff s before after) before after (heart s before after g h)

  -- refusal 2, "records under 26,249 bytes": all that a commit may write
  pub commit_length : narrow s ≡ true → length (flat (map encode (number_from run k (diff s before after)))) ≤ least_records
  commit_length n =
      let c = closed_size (gones after before ++ walk s before after) in
      let a = sizes_append (gones after before) (walk s before after) in
      rw (commit_size run k (diff s before after) fit) (omega (arith, gones_size after before, walk_size s before after n h.fine, g.few, h.few))

  pub commit_wide : run < 256 ^ 4 → k + length (diff s before after) ≤ last_number → AllWide (number_from run k (diff s before after))
  commit_wide u l = fit_wide run k (diff s before after) u l fit

  -- a records buffer after a commit is cut into just the commit's records
  pub commit_pieces : run < 256 ^ 4 → k + length (diff s before after) ≤ last_number → (z : ℕ)
      → pieces (flat (map encode (number_from run k (diff s before after))) ++ replicate z 0) ≡ map encode (number_from run k (diff s before after))
  commit_pieces u l z = pieces_of (number_from run k (diff s before after)) z (commit_wide u l)
