-- A table's entry written anew: its head, and each index in its slot. Assumes nothing.
use Rattle.std.specs.Prelude.{Some, None}
use mathlib.Core.Path.{◌≡◌, refl, sym, ap, ◌∙◌}
use mathlib.Core.Bool.{Bool, true, false}
use mathlib.Core.List.{List, [], ◌∷◌, ◌++◌, map, append_assoc, append-nil}
use Prim.Native.Nat.{ℕ, zero, suc, ◌+◌, ◌-◌, ◌*◌, ◌≤◌}
use native.Mathlib.Omega.{arith}
use borrow.Author.Tests.{leb-true, lt-ltb}
use lib.Dec.{leb, ltb}
use lib.ListN.{length, get_or, take, drop, replicate, length-append, length-replicate, length-take, length-drop}
use lib.Seq.{sets, sets-eq, take_at}
use Rattle.model.specs.Octets.{big, value, part}
use Rattle.model.specs.Base.{all, is_some, flat}
use Rattle.model.specs.Catalog.{entry_name, name_bytes, bit, is_set, number_or0, index_bytes, index_from, indexes_from, max_rows_from}
use Rattle.model.proofs.Tests.{and_l, and_r}
use Rattle.model.proofs.Catalogs.{name_length, drop_past}
use Rattle.catalog.specs.Writing.{head_bytes}
use Rattle.catalog.specs.Slots.{kept_where, slot_bytes}
use Rattle.catalog.specs.Tidied.{table_tidied}
use Rattle.catalog.proofs.Columns.{one_more}

-- ── one slot ──
four_are : (n a b c : ℕ) (r : List ℕ) → n ≤ 3 → n ∷ kept_where (ltb 0 n) a ∷ kept_where (ltb 1 n) b ∷ kept_where (ltb 2 n) c ∷ [] ≡ index_bytes (take n (a ∷ b ∷ c ∷ r))
unfolding kept_where
four_are zero a b c r h = refl
four_are (suc zero) a b c r h = refl
four_are (suc (suc zero)) a b c r h = refl
four_are (suc (suc (suc zero))) a b c r h = refl
four_are (suc (suc (suc (suc n)))) a b c r h = absurd (omega arith)

three_more : (e : List ℕ) → length e ≡ 48 → (at : ℕ) → at + 4 ≤ 48 → drop (at + 1) e ≡ get_or e (at + 1) 0 ∷ get_or e (at + 2) 0 ∷ get_or e (at + 3) 0 ∷ drop (at + 4) e
three_more e size at h =
    let two : suc (at + 1) ≡ at + 2 = omega arith in
    let three : suc (at + 2) ≡ at + 3 = omega arith in
    let four : suc (at + 3) ≡ at + 4 = omega arith in
    let x = one_more e size (at + 1) (omega arith) ∙ ap (λ (i : ℕ). get_or e (at + 1) 0 ∷ drop i e) two in
    let y = one_more e size (at + 2) (omega arith) ∙ ap (λ (i : ℕ). get_or e (at + 2) 0 ∷ drop i e) three in
    let z = one_more e size (at + 3) (omega arith) ∙ ap (λ (i : ℕ). get_or e (at + 3) 0 ∷ drop i e) four in
    x ∙ ap (λ (l : List ℕ). get_or e (at + 1) 0 ∷ l) (y ∙ ap (λ (l : List ℕ). get_or e (at + 2) 0 ∷ l) z)

pub slot_are : (used : Bool) (e : List ℕ) → length e ≡ 48 → (at : ℕ) → at + 4 ≤ 48 → (n : ℕ) → n ≡ kept_where used (get_or e at 0) → n ≤ 3
    → n ∷ kept_where (ltb 0 n) (get_or e (at + 1) 0) ∷ kept_where (ltb 1 n) (get_or e (at + 2) 0) ∷ kept_where (ltb 2 n) (get_or e (at + 3) 0) ∷ [] ≡ slot_bytes used e at
unfolding kept_where slot_bytes
slot_are true e size at room n q h =
    four_are n (get_or e (at + 1) 0) (get_or e (at + 2) 0) (get_or e (at + 3) 0) (drop (at + 4) e) h
    ∙ (λ j. index_bytes (take (q j) (sym (three_more e size at room) j)))
slot_are false e size at room n q h = four_are n (get_or e (at + 1) 0) (get_or e (at + 2) 0) (get_or e (at + 3) 0) [] h ∙ ap (λ (i : ℕ). index_bytes (take i (get_or e (at + 1) 0 ∷ get_or e (at + 2) 0 ∷ get_or e (at + 3) 0 ∷ []))) q

slot_length : (used : Bool) (e : List ℕ) (at : ℕ) → kept_where used (get_or e at 0) ≤ 3 → length (slot_bytes used e at) ≡ 4
unfolding kept_where slot_bytes
slot_length true e at h =
    let l = index_from e at in
    let s : length l ≤ 3 = omega (arith, length-take (get_or e at 0) (drop (at + 1) e)) in
    index_four l s
  where
    index_four : (l : List ℕ) → length l ≤ 3 → length (index_bytes l) ≡ 4
    index_four l h = simp (length-append, length-replicate) (omega arith)
slot_length false e at h = refl

-- ── the two slots ──
index_short : (e : List ℕ) → length e ≡ 48 → (at : ℕ) → at + 5 ≤ 48 → length (index_from e at) ≤ 3 → get_or e at 0 ≤ 3
index_short e size at room h = omega (arith, length-take (get_or e at 0) (drop (at + 1) e), length-drop (at + 1) e)

module _ (e : List ℕ) (size : length e ≡ 48) where
  first_fits : (k : ℕ) → all (λ (l : List ℕ). leb (length l) 3) (take k (index_from e 37 ∷ index_from e 41 ∷ [])) ≡ true → kept_where (ltb 0 k) (get_or e 37 0) ≤ 3
  unfolding kept_where
  first_fits zero h = omega arith
  first_fits (suc k) h = rw (lt-ltb 0 (suc k) (omega arith)) (index_short e size 37 (omega arith) (leb-true (length (index_from e 37)) 3 (and_l (leb (length (index_from e 37)) 3) _ h)))

  second_fits : (k : ℕ) → all (λ (l : List ℕ). leb (length l) 3) (take k (index_from e 37 ∷ index_from e 41 ∷ [])) ≡ true → kept_where (ltb 1 k) (get_or e 41 0) ≤ 3
  unfolding kept_where
  second_fits zero h = omega arith
  second_fits (suc zero) h = omega arith
  second_fits (suc (suc k)) h = rw (lt-ltb 1 (suc (suc k)) (omega arith)) (index_short e size 41 (omega arith) (leb-true (length (index_from e 41)) 3 (and_l (leb (length (index_from e 41)) 3) _ (and_r (leb (length (index_from e 37)) 3) _ h))))

  pub fit_first : all (λ (l : List ℕ). leb (length l) 3) (indexes_from e) ≡ true → kept_where (ltb 0 (get_or e 36 0)) (get_or e 37 0) ≤ 3
  fit_first = first_fits (get_or e 36 0)

  pub fit_second : all (λ (l : List ℕ). leb (length l) 3) (indexes_from e) ≡ true → kept_where (ltb 1 (get_or e 36 0)) (get_or e 41 0) ≤ 3
  fit_second = second_fits (get_or e 36 0)

slots_are : (e : List ℕ) (k : ℕ) → flat (map index_bytes (take k (index_from e 37 ∷ index_from e 41 ∷ []))) ++ replicate (4 * (2 - length (take k (index_from e 37 ∷ index_from e 41 ∷ [])))) 0 ≡ slot_bytes (ltb 0 k) e 37 ++ slot_bytes (ltb 1 k) e 41
unfolding slot_bytes
slots_are e zero = refl
slots_are e (suc zero) = ap (λ (l : List ℕ). l ++ replicate 4 0) (append-nil (index_bytes (index_from e 37)))
slots_are e (suc (suc zero)) =
    append-nil (index_bytes (index_from e 37) ++ (index_bytes (index_from e 41) ++ [])) ∙ ap (λ (l : List ℕ). index_bytes (index_from e 37) ++ l) (append-nil (index_bytes (index_from e 41)))
slots_are e (suc (suc (suc k))) =
    rw (lt-ltb 0 (suc (suc (suc k))) (omega arith), lt-ltb 1 (suc (suc (suc k))) (omega arith))
    (append-nil (index_bytes (index_from e 37) ++ (index_bytes (index_from e 41) ++ [])) ∙ ap (λ (l : List ℕ). index_bytes (index_from e 37) ++ l) (append-nil (index_bytes (index_from e 41))))

-- ── the whole ──
flag_is : (b : Bool) (v : ℕ) → bit b ≡ bit (is_some {A = ℕ} (elim b [ true ↦ Some v | false ↦ None ]))
flag_is true v = refl
flag_is false v = refl

module _ (e : List ℕ) (short : get_or e 0 0 ≤ 24) where
  abbrev head_of : List ℕ
  head_of = head_bytes (get_or e 25 0) (is_set e 26) (is_set e 27) (number_or0 (max_rows_from e))

  abbrev front : List ℕ
  front = name_bytes (entry_name e) ++ head_of

  name_short : length (entry_name e) ≤ 24
  name_short = omega (arith, length-take (get_or e 0 0) (drop 1 e))

  front_length : length front ≡ 36
  unfolding head_bytes
  front_length = length-append (name_bytes (entry_name e)) head_of ∙ ap (λ (k : ℕ). k + 11) (name_length (entry_name e) name_short)

  -- the head, written behind the name
  pub headed : (out : List ℕ) (w : ℕ) (root limited : Bool) (most : ℕ) → out ≡ name_bytes (entry_name e) ++ replicate 23 0 → w ≡ get_or e 25 0 → root ≡ is_set e 26 → limited ≡ is_set e 27 → most ≡ number_or0 (max_rows_from e)
      → (take 25 out ++ head_bytes w root limited most) ++ drop 36 out ≡ front ++ replicate 12 0
  headed out w root limited most q qw qr ql qm =
      let n = name_bytes (entry_name e) in
      let l = name_length (entry_name e) name_short in
      let t : take 25 out ≡ n = ap (take 25) q ∙ take_at n (replicate 23 0) 25 l in
      let d : drop 36 out ≡ replicate 12 0 = ap (drop 36) q ∙ drop_past n (replicate 23 0) 25 11 l in
      λ j. (t j ++ head_bytes (qw j) (qr j) (ql j) (qm j)) ++ d j

  -- and the indexes behind the head
  written : length e ≡ 48 → all (λ (l : List ℕ). leb (length l) 3) (indexes_from e) ≡ true
      → sets (front ++ replicate 12 0) 36 (length (indexes_from e) ∷ (slot_bytes (ltb 0 (get_or e 36 0)) e 37 ++ slot_bytes (ltb 1 (get_or e 36 0)) e 41)) ≡ table_tidied e
  unfolding table_tidied head_bytes
  written size few =
      let k = get_or e 36 0 in
      let a = slot_bytes (ltb 0 k) e 37 in
      let b = slot_bytes (ltb 1 k) e 41 in
      let vs : List ℕ = length (indexes_from e) ∷ (a ++ b) in
      let z : List ℕ = replicate 12 0 in
      let nine : length vs ≡ 9 = omega (arith, length-append a b, slot_length (ltb 0 k) e 37 (fit_first e size few), slot_length (ltb 1 k) e 41 (fit_second e size few)) in
      let all_of : length (front ++ z) ≡ 48 = length-append front z ∙ ap (λ (i : ℕ). i + 12) front_length in
      let d : drop (36 + length vs) (front ++ z) ≡ replicate 3 0 = ap (λ (i : ℕ). drop (36 + i) (front ++ z)) nine ∙ drop_past front z 36 9 front_length in
      let flag = flag_is (is_set e 27) (value (part 28 8 e)) in
      sets-eq vs (front ++ z) 36 (omega (arith, nine, all_of))
      ∙ (λ j. (take_at front z 36 front_length j ++ vs) ++ d j)
      ∙ append_assoc front vs (replicate 3 0)
      ∙ append_assoc (name_bytes (entry_name e)) head_of (vs ++ replicate 3 0)
      ∙ (λ j. name_bytes (entry_name e) ++ (get_or e 25 0 ∷ bit (is_set e 26) ∷ flag j ∷ big 8 (number_or0 (max_rows_from e)) ++ (length (indexes_from e) ∷ sym (slots_are e k) j ++ replicate 3 0)))

  pub tidied : length e ≡ 48 → all (λ (l : List ℕ). leb (length l) 3) (indexes_from e) ≡ true → (out : List ℕ) (n : ℕ) (a b : List ℕ) → out ≡ front ++ replicate 12 0 → n ≡ length (indexes_from e)
      → a ≡ slot_bytes (ltb 0 (get_or e 36 0)) e 37 → b ≡ slot_bytes (ltb 1 (get_or e 36 0)) e 41 → sets out 36 (n ∷ (a ++ b)) ≡ table_tidied e
  tidied size few out n a b q qn qa qb = (λ j. sets (q j) 36 (qn j ∷ (qa j ++ qb j))) ∙ written size few
