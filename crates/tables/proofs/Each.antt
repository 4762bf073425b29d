-- Tables read into a schema's cells one after another, from the last to the first. Assumes nothing.
use mathlib.Core.Path.{◌≡◌, refl, sym, ap, ◌∙◌}
use mathlib.Core.List.{List, [], ◌∷◌, ◌++◌, map}
use mathlib.Core.Bool.{Bool, true, false, ◌&&◌}
use Prim.Native.Nat.{ℕ, zero, suc, ◌+◌, ◌-◌, ◌*◌, ◌<◌, ◌≤◌}
use native.Mathlib.Omega.{arith}
use borrow.Author.Tests.{eqb-true, eqb-false}
use lib.Dec.{eqb}
use lib.ListN.{length, get_or, set, take, drop, length-append, length-set, length-drop, get_or-append, drop_of_length-le}
use lib.Seq.{length-take-le, drop-cons, get_or-set_same, get_or-set_other, get_or-take, drop-set-lt, drop-append-add, drop-drop, drop_at}
use Rattle.model.specs.Base.{all}
use Rattle.model.specs.Scan.{end_or}
use Rattle.model.specs.Json.{Named, key_at}
use Rattle.inner.specs.Positions.{tree_at, well_at}
use Rattle.model.specs.Schema.{Table}
use Rattle.model.specs.Catalog.{entry_name, table_from, tables_from}
use Rattle.model.specs.SchemaText.{table_fits, table_of}
use Rattle.model.proofs.Tests.{split, clash}
use Rattle.nav.proofs.Rest.{member_is, member_well}
use Rattle.columns.specs.Parts.{member_of}
use Rattle.tables.specs.declared.Read.{Read}
use Rattle.tables.specs.Tables.{NameOnly, table_with, TableRead, Heads, FewColumns, place_fits, place_table, EachRead}

-- the element of a list of images
pub get_map : {A B : Type 0} (f : A → B) (l : List A) (k : ℕ) (d : A) (e : B) → k < length l → get_or (map f l) k e ≡ f (get_or l k d)
get_map f [] k d e h = absurd (omega arith)
get_map f (x ∷ l) zero d e h = refl
get_map f (x ∷ l) (suc k) d e h = get_map f l k d e (omega arith)

-- a test that fails from a place on fails
later_fails : {A : Type 0} (p : A → Bool) (k : ℕ) (l : List A) → all p (drop k l) ≡ false → all p l ≡ false
later_fails p zero l h = h
later_fails p (suc k) [] h = h
later_fails p (suc k) (x ∷ l) h = split (p x) (λ e. rw e (later_fails p k l h)) (λ e. rw e)

-- tables by their cells
pub table_with_lem : (cells : List (List ℕ)) (t : ℕ) → table_from cells t ≡ table_with (get_or cells (1 + t) []) (drop (5 + 6 * t) cells)
unfolding table_from table_with
table_with_lem cells t = let z : 5 + 6 * t + 0 ≡ 5 + 6 * t = omega arith in rw z

pub tables_same : (a b : List (List ℕ)) (t k : ℕ) → ((i : ℕ) → t ≤ i → i < t + k → table_from a i ≡ table_from b i) → tables_from a t k ≡ tables_from b t k
tables_same a b t zero h = refl
tables_same a b t (suc k) h =
    let x = h t (omega arith) (omega arith) in
    let y = tables_same a b (suc t) k (λ i l m. h i (omega arith) (omega arith)) in
    λ i. x i ∷ y i

-- ── the cells after table k is there ──
module _ (cells ys : List (List ℕ)) (k : ℕ) (small : k < 4) (size : length cells ≡ 29) where
  abbrev start : ℕ
  start = 5 + 6 * k

  abbrev mid : List (List ℕ)
  mid = take (5 + 6 * k) cells ++ ys

  front_size : length (take start cells) ≡ start
  front_size = length-take-le start cells (omega arith)

  mid_first : (i : ℕ) → i < 5 → get_or mid i [] ≡ get_or cells i []
  mid_first i h = get_or-append (take start cells) ys [] i (omega (arith, front_size)) ∙ get_or-take start cells i [] (omega arith)

  module _ (long : length ys ≡ length (drop (5 + 6 * k) cells)) (rest : drop 6 ys ≡ drop 6 (drop (5 + 6 * k) cells)) (c : List ℕ) where
    abbrev new : List (List ℕ)
    new = set mid (1 + k) c

    mid_size : length mid ≡ 29
    mid_size = omega (arith, length-append (take start cells) ys, front_size, long, length-drop start cells)

    new_size : length new ≡ 29
    new_size = length-set mid (1 + k) c ∙ mid_size

    new_first : (i : ℕ) → i < 5 → (i ≡ 1 + k → ⊥) → get_or new i [] ≡ get_or cells i []
    new_first i h f = get_or-set_other mid (1 + k) i c [] f ∙ mid_first i h

    new_cell : get_or new (1 + k) [] ≡ c
    new_cell = get_or-set_same mid (1 + k) c [] (omega (arith, mid_size))

    new_here : drop (5 + 6 * k) new ≡ ys
    new_here = drop-set-lt start mid (1 + k) c (omega arith) ∙ drop_at (take start cells) ys start front_size

    new_later : (t : ℕ) → k < t → drop (5 + 6 * t) new ≡ drop (5 + 6 * t) cells
    new_later t h =
        let e : 5 + 6 * t ≡ start + (6 + 6 * (t - suc k)) = omega arith in
        drop-set-lt (5 + 6 * t) mid (1 + k) c (omega arith)
        ∙ ap (λ (x : ℕ). drop x mid) e
        ∙ ap (λ (x : ℕ). drop (x + (6 + 6 * (t - suc k))) mid) (sym front_size)
        ∙ drop-append-add (take start cells) ys (6 + 6 * (t - suc k))
        ∙ sym (drop-drop (6 * (t - suc k)) 6 ys)
        ∙ ap (drop (6 * (t - suc k))) rest
        ∙ drop-drop (6 * (t - suc k)) 6 (drop start cells)
        ∙ drop-drop (6 + 6 * (t - suc k)) start cells
        ∙ ap (λ (x : ℕ). drop x cells) (sym e)

    new_same : (t : ℕ) → k < t → t < 4 → table_from new t ≡ table_from cells t
    new_same t h l =
        table_with_lem new t
        ∙ (λ i. table_with (new_first (1 + t) (omega arith) (λ q. omega arith) i) (new_later t h i))
        ∙ sym (table_with_lem cells t)

    new_table : table_from new k ≡ table_with c ys
    new_table = table_with_lem new k ∙ (λ i. table_with (new_cell i) (new_here i))

-- ── the tables from i on are there ──
pub record Sofar (s places : List ℕ) (heads before cells : List (List ℕ)) (i : ℕ) : Type 0 where
  pub few : i ≤ length heads
  pub size : length cells ≡ 29
  pub fits : all (place_fits s (map entry_name heads)) (drop i (take (length heads) places)) ≡ true
  pub tables : tables_from cells i (length heads - i) ≡ map (place_table s (map entry_name heads)) (drop i (take (length heads) places))
  pub first : get_or cells 0 [] ≡ get_or before 0 []
  pub columns : FewColumns before → FewColumns cells

module _ (s places : List ℕ) (heads before : List (List ℕ)) (h : Heads s places heads) where
  abbrev ps : List ℕ
  ps = take (length heads) places

  abbrev ns : List (List ℕ)
  ns = map entry_name heads

  ps_size : length ps ≡ length heads
  ps_size = length-take-le (length heads) places h.fit

  pub each_start : length before ≡ 29 → Sofar s places heads before before (length heads)
  each_start l =
      let none : drop (length heads) ps ≡ [] = drop_of_length-le ps {i = length heads} (omega (arith, ps_size)) in
      let z : length heads - length heads ≡ 0 = omega arith in
      record {
        few = omega arith;
        size = l;
        fits = rw none;
        tables = rw (none, z);
        first = refl;
        columns = λ f. f;
      }

  module _ {cells : List (List ℕ)} {i : ℕ} (so : Sofar s places heads before cells i) where
    pub each_end : i ≤ 0 → EachRead s places heads true before cells
    each_end l =
        let z : i ≡ 0 = omega arith in
        let y : length heads - 0 ≡ length heads = omega arith in
        record {
          fits = sym (rw z at so.fits);
          tables = λ e. rw (z, y) at so.tables;
          first = so.first;
          columns = so.columns;
        }

    module _ (pos : 0 < i) where
      abbrev k : ℕ
      k = i - 1

      abbrev p : ℕ
      p = get_or places (i - 1) 0

      below : i - 1 < length heads
      below = (let z = so.few in omega arith)

      four : i - 1 < 4
      four = (let z = so.few in let y = h.few in omega arith)

      suc_is : suc (i - 1) ≡ i
      suc_is = omega arith

      next : drop (i - 1) ps ≡ get_or places (i - 1) 0 ∷ drop i ps
      next =
          drop-cons ps (i - 1) 0 (omega (arith, ps_size, below))
          ∙ (λ j. get_or-take (length heads) places (i - 1) 0 below j ∷ drop (suc_is j) ps)

      pub here_fits : i - 1 < length places
      here_fits = (let z = h.fit in omega (arith, below))

      pub here_few : i - 1 < length heads
      here_few = below

      pub here_only : NameOnly (get_or heads (i - 1) [])
      here_only = h.only (i - 1) below

      word : entry_name (get_or heads (i - 1) []) ≡ (member_of s p).name
      word =
          sym (get_map entry_name heads (i - 1) [] [] below)
          ∙ ap (λ (l : List (List ℕ)). get_or l (i - 1) []) h.named
          ∙ get_map (λ (q : ℕ). (member_of s q).name) ps (i - 1) 0 [] (omega (arith, ps_size, below))
          ∙ ap (λ (q : ℕ). (member_of s q).name) (get_or-take (length heads) places (i - 1) 0 below)

      -- its value stands at v
      module _ {v : ℕ} (q : v ≡ end_or (get_or places (i - 1) 0) (key_at s (get_or places (i - 1) 0)).read) where
        value_at_lem : ((member_of s p).value ≡ tree_at s v) × (well_at s v ≡ true)
        value_at_lem =
            let m = member_well s p (h.well (i - 1) below) in
            let e : v ≡ m.0 = q ∙ ap (end_or p) m.1 in
            rw e (ap (λ (x : Named). x.value) (member_is s p m.0 m.1), m.2)

        pub here_well : well_at s v ≡ true
        here_well = value_at_lem.1

        module _ {r : Read} {ys : List (List ℕ)} (tr : TableRead (map entry_name heads) (entry_name (get_or heads (i - 1) [])) (tree_at s v) r (drop (5 + 6 * (i - 1)) cells) ys) where
          fits_here : place_fits s ns p ≡ r.fits
          fits_here = ap (table_fits ns) value_at_lem.0 ∙ sym tr.fits

          pub each_bad : r.fits ≡ false → EachRead s places heads false before (take (5 + 6 * (i - 1)) cells ++ ys)
          unfolding FewColumns
          each_bad e =
              let no : all (place_fits s ns) (drop (i - 1) ps) ≡ false = ap (all (place_fits s ns)) next ∙ rw (fits_here ∙ e) in
              let m = mid_first cells ys (i - 1) four so.size in
              record {
                fits = sym (later_fails (place_fits s ns) (i - 1) ps no);
                tables = λ f. absurd (clash false f refl);
                first = m 0 (omega arith) ∙ so.first;
                columns = λ f t l. rw (m (1 + t) (omega arith)) (so.columns f t l);
              }

          module _ (long : length ys ≡ length (drop (5 + 6 * (i - 1)) cells)) (e : r.fits ≡ true) where
            abbrev after : List (List ℕ)
            after = set (take (5 + 6 * (i - 1)) cells ++ ys) (1 + (i - 1)) r.cell

            table_here : table_from after (i - 1) ≡ place_table s ns p
            table_here =
                new_table cells ys (i - 1) four so.size long tr.rest r.cell
                ∙ tr.table e
                ∙ (λ j. table_of ns (record { name = word j; value = sym value_at_lem.0 j }))

            rest_here : tables_from after i (length heads - i) ≡ map (place_table s ns) (drop i ps)
            rest_here =
                tables_same after cells i (length heads - i)
                (λ t l m.
                new_same cells ys (i - 1) four so.size long tr.rest r.cell t (omega arith) (let z = so.few in let y = h.few in omega arith))
                ∙ so.tables

            tables_here : tables_from after (i - 1) (length heads - (i - 1)) ≡ map (place_table s ns) (drop (i - 1) ps)
            tables_here =
                let z : length heads - (i - 1) ≡ suc (length heads - i) = (let y = so.few in omega arith) in
                ap (tables_from after (i - 1)) z
                ∙ (λ j. table_here j ∷ tables_from after (suc_is j) (length heads - i))
                ∙ ap (λ (l : List Table). place_table s ns p ∷ l) rest_here
                ∙ sym (ap (map (place_table s ns)) next)

            columns_here : FewColumns before → FewColumns after
            unfolding FewColumns
            columns_here f t l =
                split
                (eqb t (i - 1))
                (λ q. rw (eqb-true t (i - 1) q, new_cell cells ys (i - 1) four so.size long tr.rest r.cell) (tr.few e))
                (λ q.
                rw
                (new_first cells ys (i - 1) four so.size long tr.rest r.cell (1 + t) (omega arith) (λ x. eqb-false t (i - 1) q (omega arith)))
                (so.columns f t l))

            pub each_more : Sofar s places heads before (set (take (5 + 6 * (i - 1)) cells ++ ys) (1 + (i - 1)) r.cell) (i - 1)
            each_more =
                record {
                  few = (let z = so.few in omega arith);
                  size = new_size cells ys (i - 1) four so.size long tr.rest r.cell;
                  fits = ap (all (place_fits s ns)) next ∙ (λ j. (fits_here ∙ e) j && so.fits j);
                  tables = tables_here;
                  first = new_first cells ys (i - 1) four so.size long tr.rest r.cell 0 (omega arith) (λ x. omega arith) ∙ so.first;
                  columns = columns_here;
                }
