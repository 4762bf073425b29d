-- Fresh ids, one by one. Assumes nothing.
use mathlib.Core.Path.{◌≡◌, refl, sym, ap, ◌∙◌}
use mathlib.Core.List.{List, [], ◌∷◌}
use mathlib.Core.Bool.{Bool, true, false, not, ◌&&◌}
use Prim.Native.Nat.{ℕ, zero, suc, ◌+◌, ◌*◌, ◌≤◌, ◌<◌}
use native.Mathlib.Omega.{arith}
use lib.Dec.{eqb}
use lib.ListN.{length, get_or, take, drop, replicate, length-take, length-drop, drop_of_length-le}
use lib.Seq.{drop-cons, drop-drop}
use Rattle.model.specs.Octets.{value}
use Rattle.model.specs.Base.{any}
use Rattle.model.specs.Rows.{Row, has_id}
use Rattle.model.specs.Transact.{ids_from, fresh_ids, ids_good}
use Rattle.fresh.specs.Fresh.{fresh_from, fresh_at, FreshId, id_good, fresh_good}

ids_length : (n : ℕ) (b : List ℕ) → length (ids_from n b) ≡ n
ids_length zero b = refl
ids_length (suc n) b = ap suc (ids_length n (drop 16 b))

ids_at : (n k : ℕ) (b : List ℕ) → k < n → value (take 16 (drop (16 * k) b)) ≡ get_or (ids_from n b) k 0
ids_at zero k b h = absurd (omega arith)
ids_at (suc n) zero b h = refl
ids_at (suc n) (suc k) b h =
    let z : 16 + 16 * k ≡ 16 * suc k = omega arith in
    ap (λ l. value (take 16 l)) (sym (drop-drop (16 * k) 16 b ∙ ap (λ n. drop n b) z)) ∙ ids_at n k (drop 16 b) (omega arith)

pub fresh_id : (fresh id : List ℕ) (k : ℕ) → k < 16 → 256 ≤ length fresh → id ≡ take 16 (drop (16 * k) fresh) → FreshId fresh k id
unfolding fresh_at
fresh_id fresh id k h n e =
    record {
      size = ap length e ∙ omega (arith, length-take 16 (drop (16 * k) fresh), length-drop (16 * k) fresh);
      is = ap value e ∙ ids_at 16 k fresh h;
    }

pub blank_value : value (replicate 16 0) ≡ 0
blank_value = refl

module _ (fresh : List ℕ) where
  pub fresh_turn : (k : ℕ) → k < 16 → fresh_from k fresh ≡ fresh_at fresh k ∷ fresh_from (k + 1) fresh
  unfolding fresh_from fresh_at
  fresh_turn k h =
      let n = ids_length 16 fresh in
      let e : suc k ≡ k + 1 = omega arith in
      drop-cons (fresh_ids fresh) k 0 (omega arith) ∙ ap (λ j. get_or (fresh_ids fresh) k 0 ∷ drop j (fresh_ids fresh)) e

  pub fresh_end : (k : ℕ) → 16 ≤ k → fresh_from k fresh ≡ []
  unfolding fresh_from
  fresh_end k h = drop_of_length-le (fresh_ids fresh) {i = k} (omega (arith, ids_length 16 fresh))

  -- an id among those from k on
  pub among_here : (i k : ℕ) → k < 16 → eqb i (fresh_at fresh k) ≡ true → true ≡ any (eqb i) (fresh_from k fresh)
  among_here i k h e = sym (rw (fresh_turn k h, e))

  pub among_on : (i k : ℕ) → k < 16 → eqb i (fresh_at fresh k) ≡ false → any (eqb i) (fresh_from k fresh) ≡ any (eqb i) (fresh_from (k + 1) fresh)
  among_on i k h e = rw (fresh_turn k h, e)

  pub among_end : (i k : ℕ) → 16 ≤ k → false ≡ any (eqb i) (fresh_from k fresh)
  among_end i k h = sym (rw (fresh_end k h))

  -- ids that may be given
  module _ (rows : List Row) where
    abbrev pub good_from : ℕ → Bool
    good_from k = ids_good (fresh_from k fresh) rows

    pub good_first : fresh_good fresh rows ≡ good_from 0
    unfolding fresh_good fresh_from
    good_first = refl

    turn : (k : ℕ) → k < 16 → good_from k ≡ (id_good (fresh_from k fresh) rows && good_from (k + 1))
    unfolding id_good
    turn k h = rw (fresh_turn k h) (reassoc (not (eqb (fresh_at fresh k) 0)) (not (has_id (fresh_at fresh k) rows)) (not (any (eqb (fresh_at fresh k)) (fresh_from (k + 1) fresh))) (good_from (k + 1)))
      where
        reassoc : (a b c d : Bool) → (a && b && c && d) ≡ ((a && b && c) && d)
        reassoc true true c d = refl
        reassoc true false c d = refl
        reassoc false b c d = refl

    pub good_on : (k : ℕ) → k < 16 → id_good (fresh_from k fresh) rows ≡ true → good_from k ≡ good_from (k + 1)
    good_on k h e = turn k h ∙ rw e

    pub good_not : (k : ℕ) → k < 16 → id_good (fresh_from k fresh) rows ≡ false → good_from k ≡ false
    good_not k h e = turn k h ∙ rw e

    pub good_end : (k : ℕ) → 16 ≤ k → good_from k ≡ true
    good_end k h = rw (fresh_end k h)

    pub good_is : (k : ℕ) → k < 16 → (not (eqb (fresh_at fresh k) 0) && not (has_id (fresh_at fresh k) rows) && not (any (eqb (fresh_at fresh k)) (fresh_from (k + 1) fresh))) ≡ id_good (fresh_from k fresh) rows
    unfolding id_good
    good_is k h = rw (fresh_turn k h)
