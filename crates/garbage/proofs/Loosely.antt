-- The first loose row, by its place and its key. Assumes nothing.
use Rattle.std.specs.Prelude.{Some, None}
use mathlib.Core.Path.{◌≡◌, refl, sym, ap, ◌∙◌}
use mathlib.Core.Bool.{Bool, true, false}
use mathlib.Core.List.{List, []}
use Prim.Native.Nat.{ℕ, zero, suc, ◌+◌, ◌-◌, ◌≤◌, ◌<◌}
use native.Mathlib.Omega.{arith}
use lib.ListN.{length, get_or, drop}
use Rattle.model.specs.Schema.{Schema}
use Rattle.model.specs.Rows.{Row, remove}
use Rattle.model.specs.Commit.{loose, first_loose, collect}
use Rattle.model.specs.Areas.{row_from}
use Rattle.inner.specs.Working.{working, key_in, Ordered}
use Rattle.inner.proofs.Working.{row_key, working_on, working_end, working_length}
use Rattle.inner.proofs.Places.{place_at}
use Rattle.inner.proofs.Ordering.{own_place}
use Rattle.garbage.specs.Loose.{LooseAt, Collected}
use Rattle.rows.specs.Post.{Removed}

-- ── loose rows, one after another ──
module _ (s : Schema) (cells : List (List (List ℕ))) (n : ℕ) (h : n ≤ length cells) (i : ℕ) where
  abbrev pub rows : List Row
  rows = working s n cells

  abbrev pub loose_here : Bool
  loose_here = loose s rows (row_from s (get_or cells i []))

  pub loose_on : i < n → loose_here ≡ false → first_loose s rows (drop i rows) ≡ first_loose s rows (drop (i + 1) rows)
  loose_on l e = rw (working_on s cells n h i l, e, first_loose)

  pub loose_here_lem : i < n → loose_here ≡ true → first_loose s rows (drop i rows) ≡ Some (key_in (get_or cells i []))
  loose_here_lem l e = rw (working_on s cells n h i l, e, first_loose) (ap Some (row_key s (get_or cells i [])))

  pub loose_end : n ≤ i → first_loose s rows (drop i rows) ≡ None
  loose_end l = rw (working_end s cells n h i l)

-- ── collection ──
module _ (s : Schema) (rows : List Row) where
  pub collect_stop : (n : ℕ) → first_loose s rows rows ≡ None → collect s n rows ≡ rows
  collect_stop zero e = refl
  collect_stop (suc n) e = rw (e, collect)

  pub collect_one : (n k : ℕ) → 0 < n → first_loose s rows rows ≡ Some k → collect s n rows ≡ collect s (n - 1) (remove k rows)
  collect_one zero k h e = absurd (omega arith)
  collect_one (suc n) k h e = let m : suc n - 1 ≡ n = omega arith in rw (m, e, collect)

  pub loose_nothing : first_loose s rows rows ≡ None → LooseAt s rows None
  unfolding LooseAt
  loose_nothing e = e

-- ── in cells ──
module _ (s : Schema) (n : ℕ) (entry : List (List (List ℕ))) (o : Ordered n entry) where
  -- a row lies where its key is found, since rows are in order
  pub loose_found : (i : ℕ) → i < n → first_loose s (working s n entry) (working s n entry) ≡ Some (key_in (get_or entry i [])) → LooseAt s (working s n entry) (Some i)
  unfolding LooseAt
  loose_found i h e = (key_in (get_or entry i []), e, own_place n entry o s i h)

  pub collected_stop : LooseAt s (working s n entry) None → Collected s n n entry entry
  unfolding LooseAt
  collected_stop e = record { few = omega arith; rows = sym (collect_stop s (working s n entry) n e); tidy = λ t. t; ordered = o }

  module _ (i : ℕ) (f : LooseAt s (working s n entry) (Some i)) where
    pub loose_within : i < n
    unfolding LooseAt
    loose_within = omega (arith, (place_at f.0 (working s n entry) i f.2).within, working_length s entry n o.there)

    pub collected_on : (m : ℕ) (mid exit : List (List (List ℕ))) → 0 < n → Removed n i entry mid → Collected s (n - 1) m mid exit → Collected s n m entry exit
    unfolding LooseAt
    collected_on m mid exit h r k = record {
      few = omega (arith, k.few);
      rows = k.rows ∙ ap (collect s (n - 1)) (r.key s f.0 f.2) ∙ sym (collect_one s (working s n entry) n f.0 h f.1);
      tidy = λ t. k.tidy (r.tidy s t);
      ordered = k.ordered;
    }
