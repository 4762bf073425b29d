-- The columns of an index as numbers, one after another. Assumes nothing.
use Rattle.std.specs.Prelude.{Option, Some, None}
use mathlib.Core.Path.{◌≡◌, refl, sym, ap, ◌∙◌}
use mathlib.Core.List.{List, [], ◌∷◌, ◌++◌, map, append-nil}
use mathlib.Core.Bool.{Bool, true, ◌&&◌}
use Prim.Native.Nat.{ℕ, suc, ◌+◌, ◌<◌, ◌≤◌}
use native.Mathlib.Numerals.{add-one}
use native.Mathlib.Omega.{arith}
use borrow.Author.Tests.{leb-true}
use lib.Dec.{leb}
use lib.ListN.{length, take, drop, set, length-set, length-drop}
use lib.Seq.{get_or-set_same, drop-set-lt, drop-set-add, take-suc-set, append_snoc}
use Rattle.model.specs.Octets.{eq_bytes}
use Rattle.model.specs.Base.{all, place_of}
use Rattle.model.specs.Json.{Json, Named}
use Rattle.inner.specs.Positions.{tree_at, well_at, first_of, next_item, items_from, items_fine}
use Rattle.model.specs.Nav.{kind_of, is_text, items_in, text_in}
use Rattle.model.specs.Members.{has_member}
use Rattle.model.specs.Value.{text_of}
use Rattle.model.specs.Catalog.{entry_name}
use Rattle.model.specs.SchemaText.{names, is_id, is_indexed, index_tests, index_fits, indexes_tests, indexes_fit, place_or, index_of, is_lasting}
use Rattle.model.proofs.Tests.{split, and_l, and_r, parts}
use Rattle.names.specs.Names.{name_cell, short_cell}
use Rattle.catalog.specs.Entries.{entry_named}
use Rattle.nav.proofs.FirstByte.{items_in_lem}
use Rattle.nav.proofs.Walk.{walk_end, walk_rest, walk_fine}
use Rattle.indexes.specs.Indexes.{is_short, short_index, short_indexes, Index}
use Rattle.indexes.proofs.Shorts.{string_text, cell_short, id_short, has_id_lem}

place_small : (w : List ℕ) (xs : List (List ℕ)) (k : ℕ) → place_of w xs ≡ Some k → k < length xs
place_small w [] k h = absurd (let z : ◌≡◌ {A = ℕ} 0 1 = cc in omega arith)
place_small w (x ∷ xs) k h =
    split
    (eq_bytes w x)
    (λ e. let q : Some 0 ≡ Some k = rw (place_of, e) at h in let z : 0 ≡ k = cc in omega arith)
    (λ e. go (place_of w xs) (place_small w xs) refl (rw (place_of, e) at h))
  where
    go : (o : Option ℕ) → ((i : ℕ) → place_of w xs ≡ Some i → i < length xs) → place_of w xs ≡ o → elim o [ None ↦ None | Some i ↦ Some (suc i) ] ≡ Some k → k < suc (length xs)
    go None ih p q = absurd (let z : ◌≡◌ {A = ℕ} 0 1 = cc in omega arith)
    go (Some i) ih p q = let z : suc i ≡ k = cc in omega (arith, ih i p)

length_names : (cells : List (List ℕ)) → length (map entry_name cells) ≡ length cells
length_names [] = refl
length_names (c ∷ cells) = ap suc (length_names cells)

-- a name looked up in cells
module _ (cells : List (List ℕ)) (j : Json) (short : is_short j ≡ true) {name : List ℕ} (q : name ≡ text_of (name_cell j)) where
  name_is : name ≡ text_in j
  unfolding is_short name_cell
  name_is =
      let t = and_l (is_text (kind_of j)) _ short in
      q ∙ ap (λ (w : List ℕ). text_of (short_cell w)) (string_text j t) ∙ cell_short (text_in j) (and_r (is_text (kind_of j)) _ short)

  module _ {f : Option ℕ} (e : f ≡ entry_named cells name) where
    found_is : f ≡ (place_of (text_in j) (map entry_name cells))
    unfolding entry_named
    found_is = e ∙ ap (λ (w : List ℕ). (place_of w (map entry_name cells))) name_is

    pub number_at : {k : ℕ} → f ≡ Some k → (k ≡ place_or (text_in j) (map entry_name cells)) × (k < length cells)
    number_at {k} h = go (place_of (text_in j) (map entry_name cells)) refl
      where
        go : (o : Option ℕ) → place_of (text_in j) (map entry_name cells) ≡ o → (k ≡ place_or (text_in j) (map entry_name cells)) × (k < length cells)
        go None p = absurd (let m : Some k ≡ None = sym h ∙ found_is ∙ p in let z : ◌≡◌ {A = ℕ} 0 1 = cc in omega arith)
        go (Some i) p =
            let m : Some k ≡ Some i = sym h ∙ found_is ∙ p in
            let z : k ≡ i = cc in
            (rw (place_or, p) z, omega (arith, place_small (text_in j) (map entry_name cells) i p, length_names cells))

    pub number_none : f ≡ None → 0 ≡ place_or (text_in j) (map entry_name cells)
    number_none h = go (place_of (text_in j) (map entry_name cells)) refl
      where
        go : (o : Option ℕ) → place_of (text_in j) (map entry_name cells) ≡ o → 0 ≡ place_or (text_in j) (map entry_name cells)
        go None p = rw (place_or, p)
        go (Some i) p = absurd (let m : None ≡ Some i = sym h ∙ found_is ∙ p in let z : ◌≡◌ {A = ℕ} 0 1 = cc in omega arith)

-- what is written of an index when the walk stands at g
pub record Filled (s : List ℕ) (ns : List (List ℕ)) (j : Json) (q : List ℕ) (n : ℕ) (g : Option ℕ) : Type 0 where
  pub size : length q ≡ 4
  pub few : n + length (items_from s g) ≤ 3
  pub holds : index_of ns j ≡ take n (drop 1 q) ++ map (λ (x : Json). place_or (text_in x) ns) (items_from s g)
  pub short : all is_short (items_from s g) ≡ true
  pub fine : items_fine s g ≡ true

module _ (s : List ℕ) (ns : List (List ℕ)) where
  pub filled_start : (at : ℕ) → well_at s at ≡ true → short_index (tree_at s at) ≡ true → {g : Option ℕ} → g ≡ first_of s 91 93 at → Filled s ns (tree_at s at) (0 ∷ 0 ∷ 0 ∷ 0 ∷ []) 0 g
  unfolding short_index
  filled_start at w h {g} e =
      let q = items_in_lem s at w in
      let z : items_in (tree_at s at) ≡ items_from s g = q.0 ∙ ap (items_from s) (sym e) in
      let l = leb-true (length (items_in (tree_at s at))) 3 (and_l (leb (length (items_in (tree_at s at))) 3) _ h) in
      record {
        size = refl;
        few = omega (arith, l, ap length z);
        holds = ap (map (λ (x : Json). place_or (text_in x) ns)) z;
        short = ap (all is_short) (sym z) ∙ and_r (leb (length (items_in (tree_at s at))) 3) _ h;
        fine = rw e q.1;
      }

  module _ {j : Json} {q : List ℕ} {n : ℕ} {g : Option ℕ} (so : Filled s ns j q n g) where
    pub filled_end : g ≡ None → Index (set q 0 n) (index_of ns j)
    filled_end e =
        let a = get_or-set_same q 0 n 0 (omega (arith, so.size)) in
        let d = drop-set-lt 1 q 0 n (omega arith) in
        record {
          size = length-set q 0 n ∙ so.size;
          few = omega (arith, so.few, a);
          holds = rw (a, d) (sym (so.holds ∙ ap (λ l. take n (drop 1 q) ++ map (λ (x : Json). place_or (text_in x) ns) l) (walk_end s e) ∙ append-nil (take n (drop 1 q))));
        }

    module _ {i : ℕ} (h : g ≡ Some i) where
      pub filled_more : n + 1 ≤ 3
      filled_more = omega (arith, so.few, ap length (walk_rest s h))

      shorts : (is_short (tree_at s i) && all is_short (items_from s (next_item s i))) ≡ true
      shorts = ap (all is_short) (sym (walk_rest s h)) ∙ so.short

      pub filled_short : is_short (tree_at s i) ≡ true
      filled_short = and_l (is_short (tree_at s i)) _ shorts

      pub filled_on : {k : ℕ} {t : Option ℕ} → k ≡ place_or (text_in (tree_at s i)) ns → t ≡ next_item s i → Filled s ns j (set q (n + 1) k) (n + 1) t
      filled_on {k} {t} ek et =
          let f : Json → ℕ = λ (x : Json). place_or (text_in x) ns in
          let o : n + 1 ≡ 1 + n = omega arith in
          let d : drop 1 (set q (n + 1) k) ≡ set (drop 1 q) n k = rw o (drop-set-add 1 q n k) in
          let m : take (n + 1) (drop 1 (set q (n + 1) k)) ≡ take n (drop 1 q) ++ (k ∷ []) =
          rw (d, add-one n) (take-suc-set (drop 1 q) n k (omega (arith, so.size, length-drop 1 q, filled_more))) in
          rw et (record {
            size = length-set q (n + 1) k ∙ so.size;
            few = omega (arith, so.few, ap length (walk_rest s h));
            holds = so.holds ∙ ap (λ l. take n (drop 1 q) ++ map f l) (walk_rest s h) ∙ rw (m, ← ek) (sym (append_snoc (take n (drop 1 q)) k (map f (items_from s (next_item s i)))));
            short = and_r (is_short (tree_at s i)) _ shorts;
            fine = (walk_fine s h so.fine).1;
          })

-- ── indexes that fit are few and short ──
all_on : (p r : Json → Bool) (xs : List Json) → ((j : Json) → p j ≡ true → r j ≡ true) → all p xs ≡ true → all r xs ≡ true
all_on p r [] f h = refl
all_on p r (x ∷ xs) f h = rw (f x (and_l (p x) _ h), all_on p r xs f (and_r (p x) _ h))

module _ (columns : List Named) (ids : all is_id (names columns) ≡ true) where
  indexed_short : (j : Json) → is_indexed columns j ≡ true → is_short j ≡ true
  unfolding is_indexed is_short
  indexed_short j h =
      let t = and_l (is_text (kind_of j)) _ h in
      let k = and_l (has_member (text_in j) columns) (is_lasting _) (and_r (is_text (kind_of j)) _ h) in
      rw (t, id_short (text_in j) (has_id_lem (text_in j) columns ids k))

  index_short : (j : Json) → index_fits columns j ≡ true → short_index j ≡ true
  unfolding index_fits short_index
  index_short j h =
      let t = parts (index_tests columns j) h in
      rw (t.1.1.0, all_on (is_indexed columns) is_short (items_in j) indexed_short t.1.1.1.0)

  pub fits_short : (j : Json) → indexes_fit columns j ≡ true → short_indexes j ≡ true
  unfolding indexes_fit short_indexes
  fits_short j h =
      let t = parts (indexes_tests columns j) h in
      rw (t.1.0, all_on (index_fits columns) short_index (items_in j) index_short t.1.1.0)
