-- The tests of a table's entry, of the database's and of one that is not in use are that the entry keeps the rules and has no other bytes. Assumes nothing.
use Rattle.std.specs.Prelude.{Option, Some, None}
use mathlib.Core.Path.{◌≡◌, refl, sym, ap, ◌∙◌}
use mathlib.Core.Bool.{true, false}
use mathlib.Core.List.{List, [], ◌∷◌, ◌++◌, map, append_assoc, append-nil}
use Prim.Native.Nat.{ℕ, zero, suc, ◌+◌, ◌-◌, ◌*◌, ◌≤◌}
use native.Mathlib.Omega.{arith}
use borrow.Author.Tests.{eq-eqb, eqb-true, leb-true, le-leb}
use lib.Dec.{eqb, leb, ltb}
use lib.ListN.{length, get_or, take, drop, replicate, take-append-drop, length-append, length-replicate, length-drop}
use lib.Seq.{take_at, drop_at}
use Rattle.model.specs.Octets.{big, value, part, eq_bytes}
use Rattle.model.specs.Base.{all, is_some, flat}
use Rattle.model.specs.Sane.{max_rows_sane, index_sane, sane_index}
use Rattle.model.specs.Catalog.{entry_name, name_bytes, bit, number_or0, index_bytes, indexes_from, max_rows_from}
use Rattle.model.proofs.Tests.{and_l, and_r, parts, whole, bytes_same, clash}
use Rattle.model.proofs.Octets.{octet, value_big_fits}
use Rattle.model.proofs.Catalogs.{id_short, name_length, byte_past, drop_past}
use Rattle.catalog.specs.Judging.{is_zero, name_fine, rows_fine, slot_fine, index_fine, head_test, head_bytes, head_tests, is_head, database_test, database_tests, is_database}
use Rattle.catalog.proofs.Names.{zeros_are, zeros_all, name_to, name_from}
use Rattle.catalog.proofs.Columns.{both, same_bytes, bit_is, bit_few, one_more, eight_more, last_is, part_back}

-- ── maxRows ──
abbrev rows_of : ℕ → ℕ → Option ℕ
rows_of limited most = elim (eqb limited 1) [ true ↦ Some most | false ↦ None ]

record Rows (limited most : ℕ) : Type 0 where
  flag : bit (is_some (rows_of limited most)) ≡ limited
  number : number_or0 (rows_of limited most) ≡ most
  kept : max_rows_sane (rows_of limited most) ≡ true

rows_to : (limited most : ℕ) → rows_fine limited most ≡ true → Rows limited most
unfolding rows_fine
rows_to zero most h = record { flag = refl; number = sym (eqb-true most 0 h); kept = refl }
rows_to (suc zero) most h = record { flag = refl; number = refl; kept = h }
rows_to (suc (suc limited)) most h = absurd (omega (arith, leb-true (suc (suc limited)) 1 (and_l (leb (suc (suc limited)) 1) _ h)))

rows_by : (limited most : ℕ) → limited ≤ 1 → Rows limited most → rows_fine limited most ≡ true
unfolding rows_fine
rows_by zero most l r = eq-eqb most 0 (sym r.number)
rows_by (suc zero) most l r = r.kept
rows_by (suc (suc limited)) most l r = absurd (omega arith)

rows_from : (limited most : ℕ) → Rows limited most → rows_fine limited most ≡ true
rows_from limited most r = rows_by limited most (omega (arith, bit_few (is_some (rows_of limited most)), r.flag)) r

-- ── one index ──
module _ (w : ℕ) where
  index_to : (n a b c : ℕ) (r : List ℕ) → index_fine true w n a b c ≡ true → (sane_index w (take n (a ∷ b ∷ c ∷ r)) ≡ true) × (index_bytes (take n (a ∷ b ∷ c ∷ r)) ≡ n ∷ a ∷ b ∷ c ∷ [])
  unfolding index_fine slot_fine sane_index
  index_to zero a b c r h = absurd (clash false h refl)
  index_to (suc zero) a b c r h =
      let g = and_r (ltb a w) _ h in
      let zb = sym (eqb-true b 0 (and_l (eqb b 0) (eqb c 0) g)) in
      let zc = sym (eqb-true c 0 (and_r (eqb b 0) (eqb c 0) g)) in
      (rw (and_l (ltb a w) _ h), λ j. 1 ∷ a ∷ zb j ∷ zc j ∷ [])
  index_to (suc (suc zero)) a b c r h =
      let g = and_r (ltb a w) _ h in
      let zc = sym (eqb-true c 0 (and_r (ltb b w) (eqb c 0) g)) in
      (rw (and_l (ltb a w) _ h, and_l (ltb b w) (eqb c 0) g), λ j. 2 ∷ a ∷ b ∷ zc j ∷ [])
  index_to (suc (suc (suc zero))) a b c r h =
      let g = and_r (ltb a w) _ h in
      (rw (and_l (ltb a w) _ h, and_l (ltb b w) (ltb c w) g, and_r (ltb b w) (ltb c w) g), refl)
  index_to (suc (suc (suc (suc n)))) a b c r h =
      let m = suc (suc (suc (suc n))) in
      absurd (omega (arith, leb-true m 3 (and_l (leb m 3) _ (and_r (leb 1 m) _ h))))

  index_from_lem : (n a b c : ℕ) (r : List ℕ) → sane_index w (take n (a ∷ b ∷ c ∷ r)) ≡ true → index_bytes (take n (a ∷ b ∷ c ∷ r)) ≡ n ∷ a ∷ b ∷ c ∷ [] → index_fine true w n a b c ≡ true
  unfolding index_fine slot_fine sane_index
  index_from_lem zero a b c r h e = absurd (clash false h refl)
  index_from_lem (suc zero) a b c r h e =
      let p = (parts (index_sane w (a ∷ [])) h).1.1.0 in
      rw (and_l (ltb a w) true p, eq-eqb b 0 (sym (ap (λ (l : List ℕ). get_or l 2 0) e)), eq-eqb c 0 (sym (ap (λ (l : List ℕ). get_or l 3 0) e)))
  index_from_lem (suc (suc zero)) a b c r h e =
      let p = (parts (index_sane w (a ∷ b ∷ [])) h).1.1.0 in
      rw (and_l (ltb a w) _ p, and_l (ltb b w) true (and_r (ltb a w) _ p), eq-eqb c 0 (sym (ap (λ (l : List ℕ). get_or l 3 0) e)))
  index_from_lem (suc (suc (suc zero))) a b c r h e =
      let p = (parts (index_sane w (a ∷ b ∷ c ∷ [])) h).1.1.0 in
      let q = and_r (ltb a w) _ p in
      rw (and_l (ltb a w) _ p, and_l (ltb b w) _ q, and_l (ltb c w) true (and_r (ltb b w) _ q))
  index_from_lem (suc (suc (suc (suc n)))) a b c r h e =
      let m = suc (suc (suc (suc n))) in
      let l = take m (a ∷ b ∷ c ∷ r) in
      absurd (omega (arith, leb-true (length l) 3 (parts (index_sane w l) h).1.0, ap (λ (x : List ℕ). get_or x 0 0) e))

  none_to : (n a b c : ℕ) → index_fine false w n a b c ≡ true → ◌≡◌ {A = List ℕ} (0 ∷ 0 ∷ 0 ∷ 0 ∷ []) (n ∷ a ∷ b ∷ c ∷ [])
  unfolding index_fine
  none_to n a b c h =
      let g = and_r (eqb n 0) _ h in
      let f = and_r (eqb a 0) _ g in
      let zn = sym (eqb-true n 0 (and_l (eqb n 0) _ h)) in
      let za = sym (eqb-true a 0 (and_l (eqb a 0) _ g)) in
      let zb = sym (eqb-true b 0 (and_l (eqb b 0) (eqb c 0) f)) in
      let zc = sym (eqb-true c 0 (and_r (eqb b 0) (eqb c 0) f)) in
      λ j. zn j ∷ za j ∷ zb j ∷ zc j ∷ []

  none_from : (n a b c : ℕ) (r : List ℕ) → 0 ∷ 0 ∷ 0 ∷ 0 ∷ r ≡ n ∷ a ∷ b ∷ c ∷ r → index_fine false w n a b c ≡ true
  unfolding index_fine
  none_from n a b c r e =
      let z : (i : ℕ) → get_or (0 ∷ 0 ∷ 0 ∷ 0 ∷ r) i 0 ≡ get_or (n ∷ a ∷ b ∷ c ∷ r) i 0 = (λ i. ap (λ (l : List ℕ). get_or l i 0) e) in
      rw (eq-eqb n 0 (sym (z 0)), eq-eqb a 0 (sym (z 1)), eq-eqb b 0 (sym (z 2)), eq-eqb c 0 (sym (z 3)))

-- ── two indexes ──
abbrev slots : List (List ℕ) → List ℕ
slots ls = flat (map index_bytes ls) ++ replicate (4 * (2 - length ls)) 0

index_four : (l : List ℕ) → length l ≤ 3 → length (index_bytes l) ≡ 4
index_four l h = simp (length-append, length-replicate) (omega arith)

short_of : (w : ℕ) (l : List ℕ) → sane_index w l ≡ true → length l ≤ 3
unfolding sane_index
short_of w l h = leb-true (length l) 3 (parts (index_sane w l) h).1.0

module _ (w a0 a1 a2 a3 b0 b1 b2 b3 : ℕ) (r s : List ℕ) where
  abbrev first : List ℕ
  first = take a0 (a1 ∷ a2 ∷ a3 ∷ r)

  abbrev second : List ℕ
  second = take b0 (b1 ∷ b2 ∷ b3 ∷ s)

  abbrev two : ℕ → List (List ℕ)
  two k = take k (first ∷ second ∷ [])

  two_to : (k : ℕ) → k ≤ 2 → index_fine (ltb 0 k) w a0 a1 a2 a3 ≡ true → index_fine (ltb 1 k) w b0 b1 b2 b3 ≡ true
      → (length (two k) ≡ k) × (all (sane_index w) (two k) ≡ true) × (slots (two k) ≡ a0 ∷ a1 ∷ a2 ∷ a3 ∷ b0 ∷ b1 ∷ b2 ∷ b3 ∷ [])
  two_to zero l h g =
      let x = none_to w a0 a1 a2 a3 h in
      let y = none_to w b0 b1 b2 b3 g in
      (refl, refl, λ j. x j ++ y j)
  two_to (suc zero) l h g =
      let x = index_to w a0 a1 a2 a3 r h in
      let y = none_to w b0 b1 b2 b3 g in
      (refl, rw x.0, λ j. (x.1 j ++ []) ++ y j)
  two_to (suc (suc zero)) l h g =
      let x = index_to w a0 a1 a2 a3 r h in
      let y = index_to w b0 b1 b2 b3 s g in
      (refl, rw (x.0, y.0), λ j. (x.1 j ++ (y.1 j ++ [])) ++ [])
  two_to (suc (suc (suc k))) l h g = absurd (omega arith)

  two_from : (k : ℕ) (t : List ℕ) → k ≤ 2 → all (sane_index w) (two k) ≡ true → slots (two k) ++ (0 ∷ 0 ∷ 0 ∷ []) ≡ a0 ∷ a1 ∷ a2 ∷ a3 ∷ b0 ∷ b1 ∷ b2 ∷ b3 ∷ t
      → (index_fine (ltb 0 k) w a0 a1 a2 a3 ≡ true) × (index_fine (ltb 1 k) w b0 b1 b2 b3 ≡ true) × (t ≡ 0 ∷ 0 ∷ 0 ∷ [])
  two_from zero t l h e = (
    none_from w a0 a1 a2 a3 [] (ap (take 4) e),
    none_from w b0 b1 b2 b3 [] (ap (λ (x : List ℕ). take 4 (drop 4 x)) e),
    sym (ap (drop 8) e),
  )
  two_from (suc zero) t l h e =
      let q = and_l (sane_index w first) true h in
      let x = index_bytes first in
      let n = index_four first (short_of w first q) in
      let z : List ℕ = 0 ∷ 0 ∷ 0 ∷ 0 ∷ [] in
      let y : List ℕ = 0 ∷ 0 ∷ 0 ∷ [] in
      let f : x ++ (z ++ y) ≡ a0 ∷ a1 ∷ a2 ∷ a3 ∷ b0 ∷ b1 ∷ b2 ∷ b3 ∷ t = sym (ap (λ (m : List ℕ). (m ++ z) ++ y) (append-nil x) ∙ append_assoc x z y) ∙ e in
      let d : z ++ y ≡ b0 ∷ b1 ∷ b2 ∷ b3 ∷ t = sym (drop_at x (z ++ y) 4 n) ∙ ap (drop 4) f in (
        index_from_lem w a0 a1 a2 a3 r q (sym (take_at x (z ++ y) 4 n) ∙ ap (take 4) f),
        none_from w b0 b1 b2 b3 [] (ap (take 4) d),
        sym (ap (drop 4) d),
      )
  two_from (suc (suc zero)) t l h e =
      let q = and_l (sane_index w first) _ h in
      let p = and_l (sane_index w second) true (and_r (sane_index w first) _ h) in
      let x = index_bytes first in
      let u = index_bytes second in
      let n = index_four first (short_of w first q) in
      let m = index_four second (short_of w second p) in
      let y : List ℕ = 0 ∷ 0 ∷ 0 ∷ [] in
      let f : x ++ (u ++ y) ≡ a0 ∷ a1 ∷ a2 ∷ a3 ∷ b0 ∷ b1 ∷ b2 ∷ b3 ∷ t =
      sym (ap (λ (v : List ℕ). v ++ y) (append-nil (x ++ (u ++ [])) ∙ ap (λ (v : List ℕ). x ++ v) (append-nil u)) ∙ append_assoc x u y) ∙ e in
      let d : u ++ y ≡ b0 ∷ b1 ∷ b2 ∷ b3 ∷ t = sym (drop_at x (u ++ y) 4 n) ∙ ap (drop 4) f in (
        index_from_lem w a0 a1 a2 a3 r q (sym (take_at x (u ++ y) 4 n) ∙ ap (take 4) f),
        index_from_lem w b0 b1 b2 b3 s p (sym (take_at u y 4 m) ∙ ap (take 4) d),
        sym (sym (drop_at u y 4 m) ∙ ap (drop 4) d),
      )
  two_from (suc (suc (suc k))) t l h e = absurd (omega arith)

-- ── a table's entry ──
module _ (e : List ℕ) (size : length e ≡ 48) where
  three_more : (i : ℕ) → i + 3 ≤ 48 → drop i e ≡ get_or e i 0 ∷ get_or e (suc i) 0 ∷ get_or e (suc (suc i)) 0 ∷ drop (suc (suc (suc i))) e
  three_more i h =
      one_more e size i (omega arith)
      ∙ ap (λ (l : List ℕ). get_or e i 0 ∷ l) (one_more e size (suc i) (omega arith) ∙ ap (λ (l : List ℕ). get_or e (suc i) 0 ∷ l) (one_more e size (suc (suc i)) (omega arith)))

  tail_is : drop 45 e ≡ get_or e 45 0 ∷ get_or e 46 0 ∷ get_or e 47 0 ∷ []
  tail_is = one_more e size 45 (omega arith) ∙ ap (λ (l : List ℕ). get_or e 45 0 ∷ l) (one_more e size 46 (omega arith) ∙ ap (λ (l : List ℕ). get_or e 46 0 ∷ l) (last_is e size))

  slots_are : drop 37 e ≡ get_or e 37 0 ∷ get_or e 38 0 ∷ get_or e 39 0 ∷ get_or e 40 0 ∷ get_or e 41 0 ∷ get_or e 42 0 ∷ get_or e 43 0 ∷ get_or e 44 0 ∷ drop 45 e
  slots_are =
      one_more e size 37 (omega arith)
      ∙ ap (λ (l : List ℕ). get_or e 37 0 ∷ l) (three_more 38 (omega arith)
      ∙ ap (λ (l : List ℕ). get_or e 38 0 ∷ get_or e 39 0 ∷ get_or e 40 0 ∷ l) (one_more e size 41 (omega arith)
      ∙ ap (λ (l : List ℕ). get_or e 41 0 ∷ l) (three_more 42 (omega arith))))

  head_are : drop 25 e ≡ get_or e 25 0 ∷ get_or e 26 0 ∷ get_or e 27 0 ∷ part 28 8 e ++ (get_or e 36 0 ∷ drop 37 e)
  head_are = three_more 25 (omega arith) ∙ ap (λ (l : List ℕ). get_or e 25 0 ∷ get_or e 26 0 ∷ get_or e 27 0 ∷ l) (eight_more e size 28 ∙ ap (λ (l : List ℕ). part 28 8 e ++ l) (one_more e size 36 (omega arith)))

  abbrev pair : List (List ℕ)
  pair = two (get_or e 25 0) (get_or e 37 0) (get_or e 38 0) (get_or e 39 0) (get_or e 40 0) (get_or e 41 0) (get_or e 42 0) (get_or e 43 0) (get_or e 44 0) (drop 41 e) (drop 45 e) (get_or e 36 0)

  pair_is : indexes_from e ≡ pair
  pair_is =
      let x = three_more 38 (omega arith) in
      let y = three_more 42 (omega arith) in
      λ j. take (get_or e 36 0) (take (get_or e 37 0) (x j) ∷ take (get_or e 41 0) (y j) ∷ [])

  module _ (oct : all octet e ≡ true) where
    head_to : head_test e ≡ true → is_head e ≡ true
    unfolding head_test is_head
    head_to h =
        let w = get_or e 25 0 in
        let k = get_or e 36 0 in
        let v = value (part 28 8 e) in
        let i1 = index_fine (ltb 0 k) w (get_or e 37 0) (get_or e 38 0) (get_or e 39 0) (get_or e 40 0) in
        let i2 = index_fine (ltb 1 k) w (get_or e 41 0) (get_or e 42 0) (get_or e 43 0) (get_or e 44 0) in
        let h1 = and_r (name_fine e) _ h in
        let h2 = and_r (leb w 6) _ h1 in
        let h3 = and_r (leb (get_or e 26 0) 1) _ h2 in
        let h4 = and_r (rows_fine (get_or e 27 0) v) _ h3 in
        let h5 = and_r (leb k 2) _ h4 in
        let h6 = and_r i1 _ h5 in
        let h7 = and_r i2 _ h6 in
        let h8 = and_r (eqb (get_or e 45 0) 0) _ h7 in
        let nm = name_to e size (and_l (name_fine e) _ h) in
        let root = bit_is (get_or e 26 0) (leb-true (get_or e 26 0) 1 (and_l (leb (get_or e 26 0) 1) _ h2)) in
        let rows = rows_to (get_or e 27 0) v (and_l (rows_fine (get_or e 27 0) v) _ h3) in
        let kl = leb-true k 2 (and_l (leb k 2) _ h4) in
        let t = two_to w (get_or e 37 0) (get_or e 38 0) (get_or e 39 0) (get_or e 40 0) (get_or e 41 0) (get_or e 42 0) (get_or e 43 0) (get_or e 44 0) (drop 41 e) (drop 45 e) k kl (and_l i1 _ h5) (and_l i2 _ h6) in
        let z5 = sym (eqb-true (get_or e 45 0) 0 (and_l (eqb (get_or e 45 0) 0) _ h7)) in
        let z6 = sym (eqb-true (get_or e 46 0) 0 (and_l (eqb (get_or e 46 0) 0) _ h8)) in
        let z7 = sym (eqb-true (get_or e 47 0) 0 (and_r (eqb (get_or e 46 0) 0) _ h8)) in
        let n : length (indexes_from e) ≡ k = ap length pair_is ∙ t.0 in
        let sl : slots (indexes_from e) ≡ get_or e 37 0 ∷ get_or e 38 0 ∷ get_or e 39 0 ∷ get_or e 40 0 ∷ get_or e 41 0 ∷ get_or e 42 0 ∷ get_or e 43 0 ∷ get_or e 44 0 ∷ [] = ap slots pair_is ∙ t.2 in
        let v8 : big 8 (number_or0 (max_rows_from e)) ≡ part 28 8 e = ap (big 8) rows.number ∙ part_back e size oct 28 (omega arith) in
        let same : head_bytes e ≡ e =
        (λ j. nm.1 j ++ (w ∷ root j ∷ rows.flag j ∷ v8 j ++ (n j ∷ sl j ++ (z5 j ∷ z6 j ∷ z7 j ∷ []))))
        ∙ ap (λ (l : List ℕ). take 25 e ++ (w ∷ get_or e 26 0 ∷ get_or e 27 0 ∷ part 28 8 e ++ (k ∷ l))) (sym (slots_are ∙ ap (λ (l : List ℕ). get_or e 37 0 ∷ get_or e 38 0 ∷ get_or e 39 0 ∷ get_or e 40 0 ∷ get_or e 41 0 ∷ get_or e 42 0 ∷ get_or e 43 0 ∷ get_or e 44 0 ∷ l) tail_is))
        ∙ ap (λ (l : List ℕ). take 25 e ++ l) (sym head_are) ∙ take-append-drop 25 e in
        whole (head_tests e)
        (nm.0, (and_l (leb w 6) _ h1, (le-leb (length (indexes_from e)) 2 (omega (arith, n)), (ap (all (sane_index w)) pair_is ∙ t.1, (rows.kept, (same_bytes same, tt))))))

    head_from : is_head e ≡ true → head_test e ≡ true
    unfolding head_test is_head
    head_from h =
        let w = get_or e 25 0 in
        let k = get_or e 36 0 in
        let v = value (part 28 8 e) in
        let p = parts (head_tests e) h in
        let short = id_short (entry_name e) p.0 in
        let same : head_bytes e ≡ e = bytes_same (head_bytes e) e p.1.1.1.1.1.0 in
        let rest : List ℕ = w ∷ bit (eqb (get_or e 26 0) 1) ∷ bit (is_some (max_rows_from e)) ∷ big 8 (number_or0 (max_rows_from e)) ++ (length (indexes_from e) ∷ slots (indexes_from e) ++ (0 ∷ 0 ∷ 0 ∷ [])) in
        let b : (i : ℕ) → get_or rest i 0 ≡ get_or e (25 + i) 0 = (λ i. sym (byte_past (entry_name e) short rest i) ∙ ap (λ (l : List ℕ). get_or l (25 + i) 0) same) in
        let d : (i : ℕ) → drop i rest ≡ drop (25 + i) e = (λ i. sym (drop_past (name_bytes (entry_name e)) rest 25 i (name_length (entry_name e) short)) ∙ ap (drop (25 + i)) same) in
        let nm = name_from e size p.0 (sym (take_at (name_bytes (entry_name e)) rest 25 (name_length (entry_name e) short)) ∙ ap (take 25) same) in
        let root = le-leb (get_or e 26 0) 1 (omega (arith, bit_few (eqb (get_or e 26 0) 1), b 1)) in
        let v8 : big 8 (number_or0 (max_rows_from e)) ≡ part 28 8 e = ap (take 8) (d 3) in
        let kl : k ≤ 2 = omega (arith, leb-true (length (indexes_from e)) 2 p.1.1.0, b 11) in
        let t = two_from w (get_or e 37 0) (get_or e 38 0) (get_or e 39 0) (get_or e 40 0) (get_or e 41 0) (get_or e 42 0) (get_or e 43 0) (get_or e 44 0) (drop 41 e) (drop 45 e) k (drop 45 e) kl (ap (all (sane_index w)) (sym pair_is) ∙ p.1.1.1.0) (ap (λ (ls : List (List ℕ)). slots ls ++ (0 ∷ 0 ∷ 0 ∷ [])) (sym pair_is) ∙ d 12 ∙ slots_are) in
        let z : (i : ℕ) → get_or (get_or e 45 0 ∷ get_or e 46 0 ∷ get_or e 47 0 ∷ []) i 0 ≡ get_or (0 ∷ 0 ∷ 0 ∷ []) i 0 = (λ i. ap (λ (l : List ℕ). get_or l i 0) (sym tail_is ∙ t.2)) in
        let rows = rows_from (get_or e 27 0) v (record { flag = b 2; number = rows_number (max_rows_from e) p.1.1.1.1.0 v8; kept = p.1.1.1.1.0 }) in
        rw (nm, p.1.0, root, rows, le-leb k 2 kl, t.0, t.1, eq-eqb (get_or e 45 0) 0 (z 0), eq-eqb (get_or e 46 0) 0 (z 1), eq-eqb (get_or e 47 0) 0 (z 2))
      where
        rows_number : (m : Option ℕ) → max_rows_sane m ≡ true → big 8 (number_or0 m) ≡ part 28 8 e → number_or0 m ≡ value (part 28 8 e)
        rows_number None h q = sym (ap value (sym q))
        rows_number (Some x) h q = sym (value_big_fits 8 x (omega (arith, leb-true x 9223372036854775807 (and_r (leb 1 x) _ h)))) ∙ ap value q

    pub head_is : head_test e ≡ is_head e
    head_is = both (head_test e) (is_head e) head_to head_from

  -- ── the database's entry ──
  database_to : database_test e ≡ true → is_database e ≡ true
  unfolding database_test is_database
  database_to h =
      let n = get_or e 25 0 in
      let h1 = and_r (name_fine e) _ h in
      let nm = name_to e size (and_l (name_fine e) _ h) in
      let z : drop 26 e ≡ replicate 22 0 = zeros_are (drop 26 e) (and_r (leb n 4) _ h1) ∙ (let l : length (drop 26 e) ≡ 22 = omega (arith, length-drop 26 e) in ap (λ (m : ℕ). replicate m 0) l) in
      let same : name_bytes (entry_name e) ++ n ∷ replicate 22 0 ≡ e =
      (λ j. nm.1 j ++ n ∷ sym z j) ∙ ap (λ (l : List ℕ). take 25 e ++ l) (sym (one_more e size 25 (omega arith))) ∙ take-append-drop 25 e in
      whole (database_tests e) (nm.0, (and_l (leb n 4) _ h1, (same_bytes same, tt)))

  database_from_lem : is_database e ≡ true → database_test e ≡ true
  unfolding database_test is_database
  database_from_lem h =
      let n = get_or e 25 0 in
      let p = parts (database_tests e) h in
      let rest : List ℕ = n ∷ replicate 22 0 in
      let short = id_short (entry_name e) p.0 in
      let same : name_bytes (entry_name e) ++ rest ≡ e = bytes_same (name_bytes (entry_name e) ++ rest) e p.1.1.0 in
      let nm = name_from e size p.0 (sym (take_at (name_bytes (entry_name e)) rest 25 (name_length (entry_name e) short)) ∙ ap (take 25) same) in
      let z : replicate 22 0 ≡ drop 26 e = sym (drop_past (name_bytes (entry_name e)) rest 25 1 (name_length (entry_name e) short)) ∙ ap (drop 26) same in
      rw (nm, p.1.0) (ap (all is_zero) (sym z) ∙ zeros_all 22)

  pub database_is : database_test e ≡ is_database e
  database_is = both (database_test e) (is_database e) database_to database_from_lem

  -- ── an entry that is not in use ──
  pub blank_is : all is_zero e ≡ eq_bytes (replicate 48 0) e
  blank_is =
      both (all is_zero e) (eq_bytes (replicate 48 0) e)
      (λ h. same_bytes (sym (zeros_are e h ∙ ap (λ (m : ℕ). replicate m 0) size)))
      (λ h. ap (all is_zero) (sym (bytes_same (replicate 48 0) e h)) ∙ zeros_all 48)
