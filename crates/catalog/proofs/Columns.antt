-- The test of a column's entry is that the entry keeps the rules and has no other bytes. Assumes nothing.
use mathlib.Core.Path.{◌≡◌, refl, sym, ap, ◌∙◌}
use mathlib.Core.Bool.{Bool, true, false, ◌&&◌, ◌||◌}
use mathlib.Core.List.{List, [], ◌∷◌, ◌++◌}
use Prim.Native.Nat.{ℕ, zero, suc, ◌+◌, ◌^◌, ◌≤◌, ◌<◌}
use native.Mathlib.Omega.{arith}
use borrow.Author.Tests.{eq-eqb, eqb-true, leb-true, le-leb}
use lib.Dec.{eqb, leb, ltb}
use lib.Signed.{le_z}
use lib.ListN.{length, get_or, take, drop, take-append-drop, drop_of_length-le, length-drop}
use lib.Seq.{drop-cons, drop-drop, take_at, length-take-le}
use Rattle.model.specs.Octets.{big, value, twos, part, eq_bytes}
use Rattle.model.specs.Base.{all}
use Rattle.model.specs.Schema.{Base, integer, boolean, text, uuid, Refers, plain, strong, weak}
use Rattle.model.specs.SchemaText.{base_number, least, greatest}
use Rattle.model.specs.Value.{from_twos}
use Rattle.model.specs.Sane.{refers_below, refers_as, limits_as, column_sane, sane_column}
use Rattle.model.specs.Catalog.{base_numbered, refers_from, how_refers, target, bit, entry_name, name_bytes, column_from, column_entry}
use Rattle.model.proofs.Tests.{and_l, and_r, parts, whole, bytes_same, bytes_self}
use Rattle.model.proofs.Lists.{all_take, all_drop}
use Rattle.model.proofs.Octets.{octet, big_value, part_lt}
use Rattle.model.proofs.Signed.{from_twos_fits}
use Rattle.model.proofs.Catalogs.{id_short, name_length, byte_past}
use Rattle.catalog.specs.Judging.{name_fine, refers_fine, counts_fine, limits_fine, column_test, is_column}
use Rattle.catalog.proofs.Twos.{twos_back, least_is, greatest_is}
use Rattle.catalog.proofs.Names.{name_to, name_from}

-- two tests that go together
pub both : (a b : Bool) → (a ≡ true → b ≡ true) → (b ≡ true → a ≡ true) → a ≡ b
both true b f g = sym (f refl)
both false true f g = g refl
both false false f g = refl

pub same_bytes : {x y : List ℕ} → x ≡ y → eq_bytes x y ≡ true
same_bytes {x} {y} p = ap (λ (z : List ℕ). eq_bytes z y) p ∙ bytes_self y

-- ── the base type ──
base_is : (k : ℕ) → k ≤ 3 → base_number (base_numbered k) ≡ k
unfolding base_numbered base_number
base_is zero h = refl
base_is (suc zero) h = refl
base_is (suc (suc zero)) h = refl
base_is (suc (suc (suc zero))) h = refl
base_is (suc (suc (suc (suc k)))) h = absurd (omega arith)

base_few : (b : Base) → base_number b ≤ 3
unfolding base_number
base_few integer = omega arith
base_few boolean = omega arith
base_few text = omega arith
base_few uuid = omega arith

-- ── how it refers ──
record Refs (n k how t : ℕ) : Type 0 where
  how_is : how_refers (refers_from how t) ≡ how
  target_is : target (refers_from how t) ≡ t
  below : refers_below n (refers_from how t) ≡ true
  as_is : refers_as (base_numbered k) (refers_from how t) ≡ true

uuid_is : (k : ℕ) → k ≤ 3 → eqb k 3 ≡ true → eqb (base_number (base_numbered k)) (base_number uuid) ≡ true
unfolding base_number
uuid_is k l h = ap (λ (x : ℕ). eqb x 3) (base_is k l) ∙ h

uuid_from_lem : (k : ℕ) → k ≤ 3 → eqb (base_number (base_numbered k)) (base_number uuid) ≡ true → eqb k 3 ≡ true
unfolding base_number
uuid_from_lem k l h = ap (λ (x : ℕ). eqb x 3) (sym (base_is k l)) ∙ h

refers_to : (n k how t : ℕ) → k ≤ 3 → refers_fine n k how t ≡ true → Refs n k how t
unfolding refers_fine refers_from
refers_to n k zero t l h = record { how_is = refl; target_is = sym (eqb-true t 0 h); below = refl; as_is = refl }
refers_to n k (suc zero) t l h = record { how_is = refl; target_is = refl; below = and_l (ltb t n) (eqb k 3) h; as_is = uuid_is k l (and_r (ltb t n) (eqb k 3) h) }
refers_to n k (suc (suc zero)) t l h = record { how_is = refl; target_is = refl; below = and_l (ltb t n) (eqb k 3) h; as_is = uuid_is k l (and_r (ltb t n) (eqb k 3) h) }
refers_to n k (suc (suc (suc how))) t l h = absurd (omega (arith, leb-true (suc (suc (suc how))) 2 (and_l (leb (suc (suc (suc how))) 2) _ h)))

how_few : (r : Refers) → how_refers r ≤ 2
how_few plain = omega arith
how_few (strong t) = omega arith
how_few (weak t) = omega arith

refers_by : (n k how t : ℕ) → k ≤ 3 → how ≤ 2 → Refs n k how t → refers_fine n k how t ≡ true
unfolding refers_fine refers_from
refers_by n k zero t l m r = eq-eqb t 0 (sym r.target_is)
refers_by n k (suc zero) t l m r = rw r.below (uuid_from_lem k l r.as_is)
refers_by n k (suc (suc zero)) t l m r = rw r.below (uuid_from_lem k l r.as_is)
refers_by n k (suc (suc (suc how))) t l m r = absurd (omega arith)

refers_from_lem : (n k how t : ℕ) → k ≤ 3 → Refs n k how t → refers_fine n k how t ≡ true
refers_from_lem n k how t l r = refers_by n k how t l (omega (arith, how_few (refers_from how t), r.how_is)) r

-- ── the limits ──
limits_to : (k low high : ℕ) → k ≤ 3 → ((eqb k 0 || eqb k 2) || (eqb low 9223372036854775808 && eqb high 9223372036854775807)) ≡ true → limits_as (base_numbered k) (from_twos low) (from_twos high) ≡ true
unfolding base_numbered base_number
limits_to zero low high l h = refl
limits_to (suc zero) low high l h =
    let a = eqb-true low 9223372036854775808 (and_l (eqb low 9223372036854775808) _ h) in
    let b = eqb-true high 9223372036854775807 (and_r (eqb low 9223372036854775808) _ h) in
    rw (a, b)
limits_to (suc (suc zero)) low high l h = refl
limits_to (suc (suc (suc zero))) low high l h =
    let a = eqb-true low 9223372036854775808 (and_l (eqb low 9223372036854775808) _ h) in
    let b = eqb-true high 9223372036854775807 (and_r (eqb low 9223372036854775808) _ h) in
    rw (a, b)
limits_to (suc (suc (suc (suc k)))) low high l h = absurd (omega arith)

ends_are : (low high : ℕ) → low < 256 ^ 8 → high < 256 ^ 8 → (le_z (from_twos low) least && le_z greatest (from_twos high)) ≡ true → (eqb low 9223372036854775808 && eqb high 9223372036854775807) ≡ true
ends_are low high f g h =
    let a = eq-eqb low 9223372036854775808 (least_is low f (and_l (le_z (from_twos low) least) _ h)) in
    let b = eq-eqb high 9223372036854775807 (greatest_is high g (and_r (le_z (from_twos low) least) _ h)) in
    rw (a, b)

limits_from : (k low high : ℕ) → low < 256 ^ 8 → high < 256 ^ 8 → k ≤ 3 → limits_as (base_numbered k) (from_twos low) (from_twos high) ≡ true → ((eqb k 0 || eqb k 2) || (eqb low 9223372036854775808 && eqb high 9223372036854775807)) ≡ true
unfolding base_numbered base_number
limits_from zero low high f g l h = refl
limits_from (suc zero) low high f g l h = ends_are low high f g h
limits_from (suc (suc zero)) low high f g l h = refl
limits_from (suc (suc (suc zero))) low high f g l h = ends_are low high f g h
limits_from (suc (suc (suc (suc k)))) low high f g l h = absurd (omega arith)

-- ── whether it may be changed ──
pub bit_is : (m : ℕ) → m ≤ 1 → bit (eqb m 1) ≡ m
bit_is zero h = refl
bit_is (suc zero) h = refl
bit_is (suc (suc m)) h = absurd (omega arith)

pub bit_few : (b : Bool) → bit b ≤ 1
bit_few true = omega arith
bit_few false = omega arith

-- ── the entry ──
module _ (e : List ℕ) (size : length e ≡ 48) where
  pub one_more : (i : ℕ) → i < 48 → drop i e ≡ get_or e i 0 ∷ drop (suc i) e
  one_more i h = drop-cons e i 0 (omega arith)

  -- eight bytes and the rest
  pub eight_more : (i : ℕ) → drop i e ≡ part i 8 e ++ drop (i + 8) e
  eight_more i = sym (take-append-drop 8 (drop i e)) ∙ ap (λ (l : List ℕ). part i 8 e ++ l) (drop-drop 8 i e)

  pub no_more : drop 48 e ≡ []
  no_more = let h : length e ≤ 48 = omega arith in drop_of_length-le e h

  pub last_is : drop 47 e ≡ get_or e 47 0 ∷ []
  last_is = one_more 47 (omega arith) ∙ ap (λ (l : List ℕ). get_or e 47 0 ∷ l) no_more

  limits_are : drop 31 e ≡ part 31 8 e ++ (part 39 8 e ++ (get_or e 47 0 ∷ []))
  limits_are = eight_more 31 ∙ ap (λ (l : List ℕ). part 31 8 e ++ l) (eight_more 39 ∙ ap (λ (l : List ℕ). part 39 8 e ++ l) last_is)

  bytes_are : drop 25 e ≡ get_or e 25 0 ∷ get_or e 26 0 ∷ get_or e 27 0 ∷ get_or e 28 0 ∷ get_or e 29 0 ∷ get_or e 30 0 ∷ part 31 8 e ++ (part 39 8 e ++ (get_or e 47 0 ∷ []))
  bytes_are =
      one_more 25 (omega arith)
      ∙ ap (λ (l : List ℕ). get_or e 25 0 ∷ l) (one_more 26 (omega arith)
      ∙ ap (λ (l : List ℕ). get_or e 26 0 ∷ l) (one_more 27 (omega arith)
      ∙ ap (λ (l : List ℕ). get_or e 27 0 ∷ l) (one_more 28 (omega arith)
      ∙ ap (λ (l : List ℕ). get_or e 28 0 ∷ l) (one_more 29 (omega arith)
      ∙ ap (λ (l : List ℕ). get_or e 29 0 ∷ l) (one_more 30 (omega arith)
      ∙ ap (λ (l : List ℕ). get_or e 30 0 ∷ l) limits_are)))))

  module _ (oct : all octet e ≡ true) where
    pub part_back : (i : ℕ) → i + 8 ≤ 48 → big 8 (value (part i 8 e)) ≡ part i 8 e
    part_back i h = big_value 8 (part i 8 e) (length-take-le 8 (drop i e) (omega (arith, length-drop i e))) (all_take octet 8 (drop i e) (all_drop octet i e oct))

    twos_part : (i : ℕ) → i + 8 ≤ 48 → big 8 (twos 64 (from_twos (value (part i 8 e)))) ≡ part i 8 e
    twos_part i h = ap (big 8) (twos_back (value (part i 8 e)) (part_lt i 8 e oct)) ∙ part_back i h

    module _ (n : ℕ) where
      column_to : column_test n e ≡ true → is_column n e ≡ true
      unfolding column_test is_column sane_column counts_fine limits_fine
      column_to h =
          let k = get_or e 25 0 in
          let low = value (part 31 8 e) in
          let high = value (part 39 8 e) in
          let h1 = and_r (name_fine e) _ h in
          let h2 = and_r (leb k 3) _ h1 in
          let h3 = and_r (refers_fine n k (get_or e 26 0) (get_or e 27 0)) _ h2 in
          let h4 = and_r (counts_fine (get_or e 28 0) (get_or e 29 0)) _ h3 in
          let h5 = and_r (limits_fine k low high) _ h4 in
          let nm = name_to e size (and_l (name_fine e) _ h) in
          let kl = leb-true k 3 (and_l (leb k 3) _ h1) in
          let r = refers_to n k (get_or e 26 0) (get_or e 27 0) kl (and_l (refers_fine n k (get_or e 26 0) (get_or e 27 0)) _ h2) in
          let cs = and_l (counts_fine (get_or e 28 0) (get_or e 29 0)) _ h3 in
          let c1 = and_r (leb (get_or e 28 0) 1) _ cs in
          let c2 = and_r (leb 1 (get_or e 29 0)) _ c1 in
          let ls = and_l (limits_fine k low high) _ h4 in
          let m = bit_is (get_or e 30 0) (leb-true (get_or e 30 0) 1 (and_l (leb (get_or e 30 0) 1) _ h5)) in
          let z = sym (eqb-true (get_or e 47 0) 0 (and_r (leb (get_or e 30 0) 1) _ h5)) in
          let same : column_entry (column_from e) ≡ e =
          (λ j. nm.1 j ++ (base_is k kl j ∷ r.how_is j ∷ r.target_is j ∷ get_or e 28 0 ∷ get_or e 29 0 ∷ m j ∷ twos_part 31 (omega arith) j ++ (twos_part 39 (omega arith) j ++ z j ∷ [])))
          ∙ ap (λ (l : List ℕ). take 25 e ++ l) (sym bytes_are) ∙ take-append-drop 25 e in
          let kept : sane_column n (column_from e) ≡ true =
          whole (column_sane n (column_from e))
          (nm.0, (and_l (leb (get_or e 28 0) 1) _ cs, (and_l (leb 1 (get_or e 29 0)) _ c1, (and_l (leb (get_or e 29 0) 4) _ c2, (and_r (leb (get_or e 29 0) 4) _ c2, (and_l (le_z (from_twos low) (from_twos high)) _ ls, (r.below, (r.as_is, (from_twos_fits low (part_lt 31 8 e oct), (from_twos_fits high (part_lt 39 8 e oct), (limits_to k low high kl (and_r (le_z (from_twos low) (from_twos high)) _ ls), tt))))))))))) in
          rw (kept, same_bytes same)

      column_from_lem : is_column n e ≡ true → column_test n e ≡ true
      unfolding column_test is_column sane_column counts_fine limits_fine
      column_from_lem h =
          let k = get_or e 25 0 in
          let low = value (part 31 8 e) in
          let high = value (part 39 8 e) in
          let c = column_from e in
          let p = parts (column_sane n c) (and_l (sane_column n c) _ h) in
          let same : column_entry c ≡ e = bytes_same (column_entry c) e (and_r (sane_column n c) _ h) in
          let short = id_short (entry_name e) p.0 in
          let rest : List ℕ = base_number (base_numbered k) ∷ how_refers (refers_from (get_or e 26 0) (get_or e 27 0)) ∷ target (refers_from (get_or e 26 0) (get_or e 27 0)) ∷ get_or e 28 0 ∷ get_or e 29 0 ∷ bit (eqb (get_or e 30 0) 1) ∷ big 8 (twos 64 (from_twos low)) ++ (big 8 (twos 64 (from_twos high)) ++ 0 ∷ []) in
          let b : (i : ℕ) → get_or rest i 0 ≡ get_or e (25 + i) 0 = (λ i. sym (byte_past (entry_name e) short rest i) ∙ ap (λ (l : List ℕ). get_or l (25 + i) 0) same) in
          let kl : k ≤ 3 = omega (arith, base_few (base_numbered k), b 0) in
          let nm = name_from e size p.0 (sym (take_at (name_bytes (entry_name e)) rest 25 (name_length (entry_name e) short)) ∙ ap (take 25) same) in
          let rf = refers_from_lem n k (get_or e 26 0) (get_or e 27 0) kl (record { how_is = b 1; target_is = b 2; below = p.1.1.1.1.1.1.0; as_is = p.1.1.1.1.1.1.1.0 }) in
          let mu = le-leb (get_or e 30 0) 1 (omega (arith, bit_few (eqb (get_or e 30 0) 1), b 5)) in
          let z = eq-eqb (get_or e 47 0) 0 (sym (b 22)) in
          let li = limits_from k low high (part_lt 31 8 e oct) (part_lt 39 8 e oct) kl p.1.1.1.1.1.1.1.1.1.1.0 in
          rw (nm, le-leb k 3 kl, rf, p.1.0, p.1.1.0, p.1.1.1.0, p.1.1.1.1.0, p.1.1.1.1.1.0, li, mu, z)

      pub column_is : column_test n e ≡ is_column n e
      column_is = both (column_test n e) (is_column n e) column_to column_from_lem
