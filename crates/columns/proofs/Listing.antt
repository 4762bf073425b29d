-- Columns put into cells one after another. Assumes nothing.
use mathlib.Core.Path.{◌≡◌, refl, sym, ap, ◌∙◌}
use mathlib.Core.List.{List, [], ◌∷◌, ◌++◌, map}
use mathlib.Core.Bool.{Bool, true, false, ◌&&◌}
use Prim.Native.Nat.{ℕ, ◌+◌, ◌<◌, ◌≤◌}
use native.Mathlib.Omega.{arith}
use native.Mathlib.Numerals.{add-one}
use borrow.Author.Tests.{le-leb, leb-true}
use lib.Dec.{leb}
use lib.ListN.{length, get_or, set, take, drop, length-set, length-map}
use lib.Seq.{take-suc, take-suc-set, drop-set-lt, length-take-le}
use Rattle.model.specs.Base.{all}
use Rattle.model.specs.Json.{Json, Named}
use Rattle.model.specs.Nav.{kind_of, is_object}
use Rattle.model.specs.Members.{members_in, counting}
use Rattle.model.specs.Catalog.{column_from}
use Rattle.model.specs.SchemaText.{names, is_id, column_fits, column_of, columns_fit}
use Rattle.model.proofs.Tests.{split, clash, and_l, and_r}
use Rattle.model.proofs.SchemaLaws.{counting_all}
use Rattle.column_types.proofs.Keys.{last}
use Rattle.columns.specs.declared.Read.{Read}
use Rattle.columns.specs.Parts.{member_of, parts_few, Collected}
use Rattle.columns.specs.Columns.{ColumnRead, ColumnsPut, ColumnsRead}
use Rattle.columns.proofs.Gathering.{map_snoc, all_snoc}

abbrev fitting : List (List ℕ) → Named → Bool
fitting tables m = column_fits tables m.value

-- i columns are there
pub record Putting (s : List ℕ) (tables : List (List ℕ)) (n : ℕ) (places : List ℕ) (before cells : List (List ℕ)) (good : Bool) (i : ℕ) : Type 0 where
  pub few : i ≤ n
  pub size : length cells ≡ length before
  pub fits : good ≡ all (λ (m : Named). column_fits tables m.value) (map (member_of s) (take i places))
  pub columns : all is_id (names (map (member_of s) (take i places))) ≡ true → good ≡ true → map column_from (take i cells) ≡ map (column_of tables) (map (member_of s) (take i places))
  pub rest : drop 6 cells ≡ drop 6 before

module _ (s : List ℕ) (tables : List (List ℕ)) (n : ℕ) (places : List ℕ) (before : List (List ℕ)) where
  pub put_start : Putting s tables n places before before true 0
  put_start = record { few = omega arith; size = refl; fits = refl; columns = λ h e. refl; rest = refl }

  pub put_end : {cells : List (List ℕ)} {good : Bool} {i : ℕ} → Putting s tables n places before cells good i → n ≤ i → ColumnsPut s tables n places good before cells
  put_end {cells} {good} {i} k h =
      let e : i ≡ n = (let f = k.few in omega arith) in
      rw (← e) (record { fits = k.fits; columns = k.columns; rest = k.rest })

  module _ (six : n ≤ 6) (in_places : n ≤ length places) (in_cells : 6 ≤ length before) {cells : List (List ℕ)} {good : Bool} {i : ℕ} (k : Putting s tables n places before cells good i) (l : i < n) where
    p : ℕ
    p = get_or places i 0

    more_places : map (member_of s) (take (i + 1) places) ≡ map (member_of s) (take i places) ++ (member_of s (get_or places i 0) ∷ [])
    more_places = rw add-one (ap (map (member_of s)) (take-suc places i 0 (omega arith)) ∙ map_snoc (member_of s) (take i places) (get_or places i 0))

    pub put_more : (r : Read) → ColumnRead tables (member_of s (get_or places i 0)) r → Putting s tables n places before (set cells i r.cell) (good && r.fits) (i + 1)
    put_more r c =
        let m : Named = member_of s (get_or places i 0) in
        let ms : List Named = map (member_of s) (take i places) in
        let size : i < length cells = (let z = k.size in omega arith) in
        let cs : map column_from (take (i + 1) (set cells i r.cell)) ≡ map column_from (take i cells) ++ (column_from r.cell ∷ []) =
        rw add-one (ap (map column_from) (take-suc-set cells i r.cell size) ∙ map_snoc column_from (take i cells) r.cell) in
        record {
          few = omega arith;
          size = length-set cells i r.cell ∙ k.size;
          fits = (λ j. k.fits j && c.fits j) ∙ sym (all_snoc (fitting tables) ms m) ∙ sym (ap (all (fitting tables)) more_places);
          columns =
              λ h e.
              let ids : all is_id (names ms ++ (m.name ∷ [])) ≡ true = sym (ap (all is_id) (ap names more_places ∙ map_snoc (λ (x : Named). x.name) ms m)) ∙ h in
              let id2 : (all is_id (names ms) && is_id m.name) ≡ true = sym (all_snoc is_id (names ms) m.name) ∙ ids in
              let q : map column_from (take i cells) ≡ map (column_of tables) ms = k.columns (and_l (all is_id (names ms)) _ id2) (and_l good _ e) in
              let u : column_from r.cell ≡ column_of tables m = c.column (and_r (all is_id (names ms)) _ id2) (and_r good _ e) in
              cs
              ∙ (λ j. q j ++ (u j ∷ []))
              ∙ sym (map_snoc (column_of tables) ms m)
              ∙ sym (ap (map (column_of tables)) more_places);
          rest = drop-set-lt 6 cells i r.cell (omega arith) ∙ k.rest;
        }

-- ── all the columns of an object ──
module _ (s : List ℕ) (tables : List (List ℕ)) (j : Json) (before : List (List ℕ)) where
  refused : (after : List (List ℕ)) → columns_fit tables j ≡ false → drop 6 after ≡ drop 6 before → ColumnsRead tables j 9 before after
  refused after h d = record { fits = sym h; count = λ e. absurd (clash false e refl); columns = λ e. absurd (clash false e refl); rest = d }

  -- the tests of an object of columns: those of its parts, and of each column
  fit_is : columns_fit tables j ≡ (parts_few 6 j && all (λ (m : Named). column_fits tables m.value) (counting (members_in j)))
  unfolding columns_fit parts_few
  fit_is = go (is_object (kind_of j)) (all is_id (names (members_in j))) (leb (length (counting (members_in j))) 6) (all (fitting tables) (counting (members_in j)))
    where
      go : (a b c d : Bool) → (a && (b && (c && (d && true)))) ≡ ((a && (b && c)) && d)
      go false b c d = refl
      go true false c d = refl
      go true true false d = refl
      go true true true d = last refl

  module _ {n : ℕ} {places : List ℕ} (k : Collected s 6 j n places) where
    pub none_read : 6 < n → ColumnsRead tables j 9 before before
    none_read h = split (leb n 6) (λ e. absurd (let l = leb-true n 6 e in omega arith)) (λ e. refused before (fit_is ∙ rw (sym k.few ∙ e)) refl)

    module _ (l : n ≤ 6) {good : Bool} {after : List (List ℕ)} (c : ColumnsPut s tables n places good before after) where
      are : map (member_of s) (take n places) ≡ counting (members_in j)
      are = k.are (le-leb n 6 l)

      parts_good : parts_few 6 j ≡ true
      parts_good = sym k.few ∙ le-leb n 6 l

      fits_good : columns_fit tables j ≡ good
      fits_good = fit_is ∙ rw parts_good (sym (ap (all (fitting tables)) are) ∙ sym c.fits)

      ids : all is_id (names (map (member_of s) (take n places))) ≡ true
      unfolding parts_few
      ids =
          ap (λ (ms : List Named). all is_id (names ms)) are
          ∙ counting_all is_id (members_in j) (and_l _ (leb (length (counting (members_in j))) 6) (and_r (is_object (kind_of j)) _ parts_good))

      pub bad_read : good ≡ false → ColumnsRead tables j 9 before after
      bad_read e = refused after (fits_good ∙ e) c.rest

      pub all_read : n ≤ length places → good ≡ true → ColumnsRead tables j n before after
      all_read in_places e =
          record {
            fits = le-leb n 6 l ∙ sym (fits_good ∙ e);
            count = λ h. sym (ap length (sym are) ∙ length-map (take n places) (member_of s) ∙ length-take-le n places in_places);
            columns = λ h. c.columns ids e ∙ ap (map (column_of tables)) are;
            rest = c.rest;
          }
