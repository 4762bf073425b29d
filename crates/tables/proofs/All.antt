-- All tables of a schema's object. Assumes nothing.
use mathlib.Core.Path.{◌≡◌, refl, sym, ap, ◌∙◌}
use mathlib.Core.List.{List, [], ◌∷◌, ◌++◌, map, append-nil}
use mathlib.Core.Bool.{Bool, true, false, ◌&&◌}
use Prim.Native.Nat.{ℕ, suc, ◌+◌, ◌-◌, ◌<◌, ◌≤◌}
use native.Mathlib.Omega.{arith}
use native.Mathlib.Numerals.{add-one}
use borrow.Author.Tests.{le-leb, lt-leb, leb-true}
use lib.Dec.{leb}
use lib.ListN.{length, get_or, set, take, replicate, length-append, length-replicate, length-set, get_or-append}
use lib.Seq.{length-take-le, take-suc, take-suc-set, get_or-take, get_or-append-add}
use Rattle.model.specs.Base.{all}
use Rattle.model.specs.Json.{Json, Named, member_at, value_at}
use Rattle.inner.specs.Positions.{tree_at}
use Rattle.model.specs.Nav.{is_read, kind_of, is_object}
use Rattle.model.specs.Members.{members_in, counting}
use Rattle.inner.specs.Positions.{word_in}
use Rattle.model.specs.Value.{text_of}
use Rattle.model.specs.Catalog.{entry_name, tables_from}
use Rattle.model.specs.SchemaText.{names, is_id, table_fits, table_of, tables_fit}
use Rattle.model.proofs.Tests.{split, clash, and_l, and_r}
use Rattle.model.proofs.SchemaLaws.{counting_all}
use Rattle.nav.proofs.Walk.{name_at}
use Rattle.names.specs.Names.{short_cell, name_cell}
use Rattle.columns.specs.Parts.{member_of, parts_few, Collected}
use Rattle.columns.proofs.Gathering.{cell_id, cell_short, map_snoc}
use Rattle.tables.specs.Tables.{NameOnly, head_at, Heads, FewColumns, place_fits, place_table, EachRead, TablesRead}
use Rattle.tables.proofs.Cells.{name_front}
use Rattle.tables.proofs.Each.{get_map}

-- ── the cell of a name ──
pub short_cell_lem : (t : List ℕ) → (length (short_cell t) ≡ 25) × (get_or (short_cell t) 0 0 ≤ 24)
unfolding short_cell
short_cell_lem t =
    split
    (leb (length t) 24)
    (λ e.
    let l = leb-true (length t) 24 e in
    let a = length-append t (replicate (25 - suc (length t)) 0) in
    let b : length (replicate {A = ℕ} (25 - suc (length t)) 0) ≡ 25 - suc (length t) = length-replicate (25 - suc (length t)) 0 in
    rw (short_cell, e) (omega arith, l))
    (λ e. rw (short_cell, e) (refl, omega arith))

pub cell_name : (t : List ℕ) → is_id t ≡ true → text_of (short_cell t) ≡ t
cell_name t h = cell_short t (cell_id t ∙ h)

module _ (s : List ℕ) (p : ℕ) where
  pub head_only : NameOnly (head_at s p)
  unfolding head_at name_cell
  head_only =
      let c = short_cell_lem (word_in (tree_at s p)) in
      let l = length-append (name_cell (tree_at s p)) (replicate 23 0) in
      record {
        size = omega (arith, l, c.0);
        short = rw (get_or-append (name_cell (tree_at s p)) (replicate 23 0) 0 0 (omega (arith, c.0))) c.1;
        none =
            ap (λ (m : ℕ). get_or (name_cell (tree_at s p) ++ replicate 23 0) (m + 11) 0) (sym c.0)
            ∙ get_or-append-add (name_cell (tree_at s p)) (replicate 23 0) 11 0;
      }

  pub head_name : is_read (member_at (value_at 12 s) s p).read ≡ true → is_id (member_of s p).name ≡ true → entry_name (head_at s p) ≡ (member_of s p).name
  unfolding head_at name_cell word_in
  head_name w h =
      let c = short_cell_lem (word_in (tree_at s p)) in
      let t : name_cell (tree_at s p) ≡ short_cell (member_of s p).name = ap name_cell (name_at s p w) in
      name_front (name_cell (tree_at s p)) (replicate 23 0) [] c.0 c.1
      ∙ ap entry_name (append-nil (name_cell (tree_at s p)))
      ∙ ap text_of t
      ∙ cell_name (member_of s p).name h

heads_named : (s ps : List ℕ) → ((i : ℕ) → i < length ps → is_read (member_at (value_at 12 s) s (get_or ps i 0)).read ≡ true) → all is_id (map (λ (p : ℕ). (member_of s p).name) ps) ≡ true → map entry_name (map (head_at s) ps) ≡ map (λ (p : ℕ). (member_of s p).name) ps
heads_named s [] w h = refl
heads_named s (p ∷ ps) w h =
    let x = head_name s p (w 0 (omega arith)) (and_l (is_id (member_of s p).name) _ h) in
    let y = heads_named s ps (λ i l. w (suc i) (omega arith)) (and_r (is_id (member_of s p).name) _ h) in
    λ i. x i ∷ y i

-- ── the names, one after another ──
pub record Naming (s places : List ℕ) (n : ℕ) (cells : List (List ℕ)) (i : ℕ) : Type 0 where
  pub few : i ≤ n
  pub size : length cells ≡ 4
  pub are : take i cells ≡ map (head_at s) (take i places)

module _ (s places : List ℕ) (n : ℕ) where
  pub naming_more : {cells : List (List ℕ)} {i : ℕ} → n ≤ 4 → n ≤ length places → Naming s places n cells i → i < n → {cell : List ℕ} → cell ≡ head_at s (get_or places i 0) → Naming s places n (set cells i cell) (i + 1)
  naming_more {cells} {i} f g k l {cell} e =
      record {
        few = omega arith;
        size = length-set cells i cell ∙ k.size;
        are =
            rw add-one
            (take-suc-set cells i cell (let z = k.size in omega arith)
            ∙ (λ j. k.are j ++ (e j ∷ []))
            ∙ sym (ap (map (head_at s)) (take-suc places i 0 (omega arith)) ∙ map_snoc (head_at s) (take i places) (get_or places i 0)));
      }

-- ── all of an object's tables ──
all_at : {A B : Type 0} (p : B → Bool) (f : A → B) (l : List A) → all (λ (a : A). p (f a)) l ≡ all p (map f l)
all_at p f [] = refl
all_at p f (x ∷ l) = ap (λ (b : Bool). p (f x) && b) (all_at p f l)

map_at : {A B C : Type 0} (g : B → C) (f : A → B) (l : List A) → map (λ (a : A). g (f a)) l ≡ map g (map f l)
map_at g f [] = refl
map_at {C = C} g f (x ∷ l) = ap (λ (r : List C). g (f x) ∷ r) (map_at g f l)

module _ (s : List ℕ) (j : Json) (before : List (List ℕ)) where
  abbrev cs : List Named
  cs = counting (members_in j)

  fit_is : tables_fit j ≡ (parts_few 4 j && all (λ (m : Named). table_fits (names cs) m.value) cs)
  unfolding tables_fit parts_few
  fit_is = go (is_object (kind_of j)) (all is_id (names (members_in j))) (leb (length cs) 4) (all (λ (m : Named). table_fits (names cs) m.value) cs)
    where
      go : (a b c d : Bool) → (a && (b && (c && (d && true)))) ≡ ((a && (b && c)) && d)
      go false b c d = refl
      go true false c d = refl
      go true true false d = refl
      go true true true false = refl
      go true true true true = refl

  refused : (after : List (List ℕ)) → tables_fit j ≡ false → get_or after 0 [] ≡ get_or before 0 [] → (FewColumns before → FewColumns after) → TablesRead j 9 before after
  refused after h f c = record { fits = sym h; tables = λ e. absurd (clash false e refl); first = f; columns = c }

  module _ {n : ℕ} {places : List ℕ} (k : Collected s 4 j n places) where
    pub too_many : 4 < n → TablesRead j 9 before before
    too_many h = refused before (fit_is ∙ rw (sym k.few ∙ lt-leb n 4 h)) refl (λ f. f)

    module _ (four : n ≤ 4) (room : n ≤ length places) (cells : List (List ℕ)) (size : length cells ≡ 4) (hs : take n cells ≡ map (head_at s) (take n places)) where
      few : leb n 4 ≡ true
      few = le-leb n 4 four

      are : map (member_of s) (take n places) ≡ cs
      are = k.are few

      parts_good : parts_few 4 j ≡ true
      parts_good = sym k.few ∙ few

      ids : all is_id (names cs) ≡ true
      unfolding parts_few
      ids = counting_all is_id (members_in j) (and_l _ (leb (length cs) 4) (and_r (is_object (kind_of j)) _ parts_good))

      words : map (λ (p : ℕ). (member_of s p).name) (take n places) ≡ names cs
      words = map_at (λ (m : Named). m.name) (member_of s) (take n places) ∙ ap names are

      head_size : length (take n cells) ≡ n
      head_size = length-take-le n cells (omega arith)

      place_size : length (take n places) ≡ n
      place_size = length-take-le n places room

      well : (i : ℕ) → i < n → is_read (member_at (value_at 12 s) s (get_or places i 0)).read ≡ true
      well = k.well few

      named : map entry_name (take n cells) ≡ map (λ (p : ℕ). (member_of s p).name) (take n places)
      named =
          ap (map entry_name) hs
          ∙ heads_named s (take n places)
          (λ i l. let m : i < n = omega (arith, place_size) in rw (get_or-take n places i 0 m) (well i m))
          (ap (all is_id) words ∙ ids)

      pub heads_are : Heads s places (take n cells)
      heads_are =
          record {
            few = omega (arith, head_size);
            fit = omega (arith, head_size);
            only =
                λ i l.
                let m : i < n = omega (arith, head_size) in
                rw (hs, get_map (head_at s) (take n places) i 0 [] (omega (arith, place_size))) (head_only s (get_or (take n places) i 0));
            named = rw head_size named;
            ids = ap (all is_id) (named ∙ words) ∙ ids;
            well = λ i l. well i (omega (arith, head_size));
          }

      -- in terms of the members that count
      ns_are : map entry_name (take n cells) ≡ names cs
      ns_are = named ∙ words

      module _ {r : Bool} {after : List (List ℕ)} (e : EachRead s places (take n cells) r before after) where
        fits_are : r ≡ all (λ (m : Named). table_fits (names cs) m.value) cs
        fits_are =
            e.fits
            ∙ ap (λ (m : ℕ). all (place_fits s (map entry_name (take n cells))) (take m places)) head_size
            ∙ all_at (λ (m : Named). table_fits (map entry_name (take n cells)) m.value) (member_of s) (take n places)
            ∙ (λ i. all (λ (m : Named). table_fits (ns_are i) m.value) (are i))

        tables_are : r ≡ true → tables_from after 0 n ≡ map (table_of (names cs)) cs
        tables_are h =
            ap (tables_from after 0) (sym head_size)
            ∙ e.tables h
            ∙ ap (λ (m : ℕ). map (place_table s (map entry_name (take n cells))) (take m places)) head_size
            ∙ map_at (table_of (map entry_name (take n cells))) (member_of s) (take n places)
            ∙ (λ i. map (table_of (ns_are i)) (are i))

        pub all_bad : r ≡ false → TablesRead j 9 before after
        all_bad h = refused after (fit_is ∙ rw parts_good (sym fits_are ∙ h)) e.first e.columns

        pub all_good : r ≡ true → TablesRead j n before after
        all_good h =
            record {
              fits = few ∙ sym (fit_is ∙ rw parts_good (sym fits_are ∙ h));
              tables = λ f. tables_are h;
              first = e.first;
              columns = e.columns;
            }
