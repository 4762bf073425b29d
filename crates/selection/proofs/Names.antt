-- The names of columns in a select: each known, none twice, and which are shown. Assumes nothing.
use Rattle.std.specs.Prelude.{Option, Some, None}
use mathlib.Core.Path.{◌≡◌, refl, sym, ap, ◌∙◌}
use mathlib.Core.Bool.{Bool, true, false, not, ◌&&◌, ◌||◌}
use mathlib.Core.List.{List, [], ◌∷◌, map}
use Prim.Native.Nat.{ℕ, suc, ◌+◌, ◌≤◌, ◌<◌}
use native.Mathlib.Omega.{arith}
use borrow.Author.Tests.{eq-eqb, ne_eqb, eqb-true, eqb-false}
use lib.Dec.{eqb}
use lib.ListN.{length, get_or, set, length-set, replicate, get_or-replicate}
use lib.Seq.{get_or-set_same, get_or-set_other}
use Rattle.model.specs.declared.Fault.TheVariants.{Fine, Syntax}
use Rattle.model.specs.Octets.{eq_bytes}
use Rattle.model.specs.Base.{any, all, member, distinct, is_some, ascii}
use Rattle.model.specs.Json.{Json, null, bool, num, str, arr, obj}
use Rattle.inner.specs.Positions.{tree_at, well_at, items_from, first_of, next_item}
use Rattle.model.specs.Nav.{items_in, kind_of, is_array}
use Rattle.model.specs.Text.{is_word}
use Rattle.model.specs.Schema.{Column, column_named}
use Rattle.model.specs.Faults.{is_fine, check}
use Rattle.model.specs.Written.{string_in, array_in}
use Rattle.model.specs.Operations.{names_in, shown_fault, columns_fault, names_or, shows}
use Rattle.model.specs.Catalog.{entry_name, column_from}
use Rattle.model.proofs.Tests.{split, clash, bytes_same}
use Rattle.nav.proofs.FirstByte.{items_in_lem}
use Rattle.nav.proofs.Walk.{walk_rest, walk_end}
use Rattle.conditions.specs.Lookup.{column_in}
use Rattle.request_rows.specs.Assigned.{slotted}
use Rattle.selection.specs.declared.Columns.{Columns}
use Rattle.selection.specs.Shown.{slot_well, among, fair_name, with_name, Flagged, ColumnsRead}

-- values that name what can be shown, none of it shown yet and none twice
unfoldable pub all_fair : List Column → (List ℕ → Bool) → List Json → Bool
all_fair cs show [] = true
all_fair cs show (j ∷ js) = fair_name cs show j && all_fair cs (with_name show j) js

-- whether all values of an array are strings; of no array all are
unfoldable all_names : Option Json → Bool
all_names None = true
all_names (Some j) = is_some (names_in (items_in j))

-- ── strings of a list of values ──
bytes_flip : (v w : List ℕ) → eq_bytes v w ≡ eq_bytes w v
bytes_flip v w =
    split (eq_bytes v w)
    (λ e. let q : v ≡ w = bytes_same v w e in rw q)
    (λ e. split (eq_bytes w v) (λ f. let q : w ≡ v = bytes_same w v f in rw q) (λ f. e ∙ sym f))

-- a string is a word where it is the same
word_is : (j : Json) (t w : List ℕ) → string_in j ≡ Some t → is_word w j ≡ eq_bytes w t
unfolding is_word
word_is null t w e = cc
word_is (bool b) t w e = cc
word_is (num n) t w e = cc
word_is (str s) t w e = let q : s ≡ t = cc in rw q (bytes_flip t w)
word_is (arr xs) t w e = cc
word_is (obj ms) t w e = cc

-- the two sides of a value that is a string or not
names_cons : (j : Json) (js : List Json) (t : List ℕ) → string_in j ≡ Some t → {o : Option (List (List ℕ))} → names_in js ≡ o → names_in (j ∷ js) ≡ elim o [ None ↦ None | Some l ↦ Some (t ∷ l) ]
names_cons j js t e f =
    ap (λ (x : Option (List ℕ)). elim x [ None ↦ None | Some w ↦ elim (names_in js) [ None ↦ None | Some l ↦ Some (w ∷ l) ] ]) e
    ∙ ap (λ (x : Option (List (List ℕ))). elim x [ None ↦ None | Some l ↦ Some (t ∷ l) ]) f

names_not : (j : Json) (js : List Json) → string_in j ≡ None → names_in (j ∷ js) ≡ None
names_not j js e = ap (λ (x : Option (List ℕ)). elim x [ None ↦ None | Some w ↦ elim (names_in js) [ None ↦ None | Some l ↦ Some (w ∷ l) ] ]) e

-- ── each known, none twice ──
abbrev known_name : List Column → List ℕ → Bool
known_name cs w = eq_bytes w (ascii "_uuid") || is_some (column_named cs w)

-- tests in another order
shuffle : (k s a q m : Bool) → ((k && not (q || s)) && (a && not m)) ≡ (((k && not s) && a) && not (q || m))
shuffle false s a q m = refl
shuffle true true a true m = refl
shuffle true true a false m = refl
shuffle true false true true m = refl
shuffle true false false true m = refl
shuffle true false a false m = refl

and_apart : (c x n d : Bool) → (c && ((x && n) && d)) ≡ ((c && x) && (n && d))
and_apart true true n d = refl
and_apart true false n d = refl
and_apart false x n d = refl

and_true : (a : Bool) → (a && true) ≡ a
and_true true = refl
and_true false = refl

and_false : (a : Bool) → (a && false) ≡ false
and_false true = refl
and_false false = refl

-- nothing is shown
abbrev nothing : List ℕ → Bool
nothing w = false

module _ (cs : List Column) where
  -- a name that is known and not shown yet
  abbrev clear : (List ℕ → Bool) → List ℕ → Bool
  clear show w = known_name cs w && not (show w)

  -- what is read of a list of values: names, or that one is none
  data Listed (js : List Json) : Type 0 where
    are : (l : List (List ℕ)) → names_in js ≡ Some l → ((w : List ℕ) → any (is_word w) js ≡ member w l) → ((show : List ℕ → Bool) → all_fair cs show js ≡ (all (clear show) l && distinct l)) → Listed js
    not_all : names_in js ≡ None → ((show : List ℕ → Bool) → all_fair cs show js ≡ false) → Listed js

  fair_is : (show : List ℕ → Bool) (j : Json) {o : Option (List ℕ)} → string_in j ≡ o → fair_name cs show j ≡ elim o [ None ↦ false | Some w ↦ clear show w ]
  unfolding fair_name
  fair_is show j e = ap (λ (x : Option (List ℕ)). elim x [ None ↦ false | Some w ↦ clear show w ]) e

  clear_rest : (show : List ℕ → Bool) (j : Json) (t : List ℕ) → string_in j ≡ Some t → (l : List (List ℕ)) → all (clear (with_name show j)) l ≡ (all (clear show) l && not (member t l))
  unfolding with_name
  clear_rest show j t e [] = refl
  clear_rest show j t e (x ∷ l) =
      (λ i. (known_name cs x && not (word_is j t x e i || show x)) && clear_rest show j t e l i)
      ∙ shuffle (known_name cs x) (show x) (all (clear show) l) (eq_bytes x t) (member t l)
      ∙ ap (λ (b : Bool). ((known_name cs x && not (show x)) && all (clear show) l) && not (b || member t l)) (bytes_flip x t)

  clear_all : (l : List (List ℕ)) → all (clear nothing) l ≡ all (known_name cs) l
  clear_all [] = refl
  clear_all (x ∷ l) = λ i. and_true (known_name cs x) i && clear_all l i

  listed_cons : (j : Json) (js : List Json) → (o : Option (List ℕ)) → string_in j ≡ o → Listed js → Listed (j ∷ js)
  unfolding all_fair
  listed_cons j js None e r = not_all (names_not j js e) (λ show. ap (λ (b : Bool). b && all_fair cs (with_name show j) js) (fair_is show j e))
  listed_cons j js (Some t) e (are l f m a) =
      are (t ∷ l) (names_cons j js t e f) (λ w. λ i. word_is j t w e i || m w i)
      (λ show.
      (λ i. fair_is show j e i && a (with_name show j) i)
      ∙ ap (λ (b : Bool). clear show t && (b && distinct l)) (clear_rest show j t e l)
      ∙ and_apart (clear show t) (all (clear show) l) (not (member t l)) (distinct l))
  listed_cons j js (Some t) e (not_all f a) =
      not_all (names_cons j js t e f) (λ show. ap (λ (b : Bool). fair_name cs show j && b) (a (with_name show j)) ∙ and_false (fair_name cs show j))

  listed : (js : List Json) → Listed js
  unfolding all_fair
  listed [] = are [] refl (λ w. refl) (λ show. refl)
  listed (j ∷ js) = listed_cons j js (string_in j) refl (listed js)

  -- how the names are judged, by each
  fault_is : (js : List Json) → shown_fault cs (names_in js) ≡ check (all_fair cs nothing js) Syntax Fine
  fault_is js = go (listed js)
    where
      go : Listed js → shown_fault cs (names_in js) ≡ check (all_fair cs nothing js) Syntax Fine
      go (are l f w a) = ap (shown_fault cs) f ∙ sym (ap (λ (b : Bool). check b Syntax Fine) (a nothing ∙ ap (λ (b : Bool). b && distinct l) (clear_all l)))
      go (not_all f a) = ap (shown_fault cs) f ∙ sym (ap (λ (b : Bool). check b Syntax Fine) (a nothing))

-- whether a name is among the strings
includes_is : (js : List Json) (w : List ℕ) → is_some (names_in js) ≡ true → among js w ≡ member w (names_or (names_in js))
unfolding among
includes_is js w h = go (listed [] js)
  where
    go : Listed [] js → any (is_word w) js ≡ member w (names_or (names_in js))
    go (are l f m a) = m w ∙ sym (ap (λ (o : Option (List (List ℕ))). member w (names_or o)) f)
    go (not_all f a) = absurd (clash (is_some (names_in js)) h (ap is_some f))

-- ── one name ──
module _ (cs : List Column) (j : Json) (show : List ℕ → Bool) where
  word_string : (w : List ℕ) → is_word w j ≡ true → string_in j ≡ Some w
  unfolding is_word
  word_string w h = go j h
    where
      go : (k : Json) → is_word w k ≡ true → string_in k ≡ Some w
      go null e = cc
      go (bool b) e = cc
      go (num n) e = cc
      go (str s) e = ap Some (bytes_same s w e)
      go (arr xs) e = cc
      go (obj ms) e = cc

  pub fair_id : {b : Bool} → b ≡ show (ascii "_uuid") → is_word (ascii "_uuid") j ≡ true → not b ≡ fair_name cs show j
  fair_id e h = ap not e ∙ sym (fair_is cs show j (word_string (ascii "_uuid") h))

  string_not : (t : List ℕ) → string_in j ≡ Some t → is_word (ascii "_uuid") j ≡ false → eq_bytes t (ascii "_uuid") ≡ false
  string_not t e h = bytes_flip t (ascii "_uuid") ∙ sym (word_is j t (ascii "_uuid") e) ∙ h

  -- no column, and none of that name
  found_not : (o : Option ℕ) → o ≡ None → is_some o ≡ false
  found_not None e = refl
  found_not (Some i) e = cc

  pub fair_unknown : is_word (ascii "_uuid") j ≡ false → {f : Option ℕ} → f ≡ (column_in cs j) → f ≡ None → false ≡ fair_name cs show j
  fair_unknown h {f} e n = go (string_in j) refl
    where
      go : (o : Option (List ℕ)) → string_in j ≡ o → false ≡ fair_name cs show j
      go None d = sym (fair_is cs show j d)
      go (Some t) d =
          let u : (column_named cs t) ≡ None = sym (ap (λ (x : Option (List ℕ)). (elim x [ None ↦ None | Some w ↦ column_named cs w ])) d) ∙ sym e ∙ n in
          sym (fair_is cs show j d ∙ (λ i. (string_not t d h i || found_not (column_named cs t) u i) && not (show t)))

-- the place of a name, and the name there
place_name : (w : List ℕ) (cells : List (List ℕ)) (k : ℕ) → column_named (map column_from cells) w ≡ Some k → (k < length cells) × (entry_name (get_or cells k []) ≡ w)
place_name w [] k e = let z : ◌≡◌ {A = ℕ} 0 1 = cc in absurd (omega arith)
place_name w (x ∷ cells) k e = go (place_name w cells) (eq_bytes w (entry_name x)) refl (column_named (map column_from cells) w) refl e
  where
    go : ((i : ℕ) → column_named (map column_from cells) w ≡ Some i → (i < length cells) × (entry_name (get_or cells i []) ≡ w)) → (b : Bool) → eq_bytes w (entry_name x) ≡ b → (o : Option ℕ) → column_named (map column_from cells) w ≡ o
        → elim b [ true ↦ Some 0 | false ↦ elim o [ None ↦ None | Some i ↦ Some (suc i) ] ] ≡ Some k → (k < suc (length cells)) × (entry_name (get_or (x ∷ cells) k []) ≡ w)
    go rec true p o q r = let z : 0 ≡ k = cc in rw (← z) (omega arith, sym (bytes_same w (entry_name x) p))
    go rec false p None q r = let z : ◌≡◌ {A = ℕ} 0 1 = cc in absurd (omega arith)
    go rec false p (Some i) q r =
        let z : suc i ≡ k = cc in
        let d = rec i q in
        rw (← z) (omega (arith, d.0), d.1)

module _ (cells : List (List ℕ)) (j : Json) where
  found_at_lem : (o : Option ℕ) (k : ℕ) → o ≡ Some k → o ≡ Some k
  found_at_lem None k e = cc
  found_at_lem (Some i) k e = let z : i ≡ k = cc in rw z

  module _ {f : Option ℕ} (e : f ≡ (column_in (map column_from cells) j)) {k : ℕ} (a : f ≡ Some k) where
    -- the string of a value that names a column
    named_by : (w : List ℕ) × (string_in j ≡ Some w) × (column_named (map column_from cells) w ≡ Some k)
    named_by = go (string_in j) refl
      where
        go : (o : Option (List ℕ)) → string_in j ≡ o → (w : List ℕ) × (string_in j ≡ Some w) × (column_named (map column_from cells) w ≡ Some k)
        go None d = let z : ◌≡◌ {A = ℕ} 0 1 = cc (found_at_lem None k (sym (ap (λ (x : Option (List ℕ)). (elim x [ None ↦ None | Some w ↦ column_named (map column_from cells) w ])) d) ∙ sym e ∙ a)) in absurd (omega arith)
        go (Some t) d = (t, d, found_at_lem (column_named (map column_from cells) t) k (sym (ap (λ (x : Option (List ℕ)). (elim x [ None ↦ None | Some w ↦ column_named (map column_from cells) w ])) d) ∙ sym e ∙ a))

    pub named_small : k < length cells
    named_small = (place_name named_by.0 cells k named_by.2).0

    pub fair_column : (show : List ℕ → Bool) → is_word (ascii "_uuid") j ≡ false → {b : Bool} → b ≡ show (entry_name (get_or cells k [])) → not b ≡ fair_name (map column_from cells) show j
    fair_column show h eb =
        let n = named_by in
        ap not (eb ∙ ap show (place_name n.0 cells k n.2).1)
        ∙ sym (fair_is (map column_from cells) show j n.1 ∙ (λ i. (string_not (map column_from cells) j show n.0 n.1 h i || is_some (n.2 i)) && not (show n.0)))

-- ── flags of what is shown ──
-- of the same names
flagged_as : {show other : List ℕ → Bool} {cells : List (List ℕ)} {flags : List Bool} → ((w : List ℕ) → show w ≡ other w) → Flagged show cells flags → Flagged other cells flags
flagged_as {cells = cells} e f = record { id = f.id ∙ e (ascii "_uuid"); column = λ j h. f.column j h ∙ e (entry_name (get_or cells j [])) }

-- all of them alike
pub flagged_all : (b : Bool) (cells : List (List ℕ)) → length cells ≤ 6 → Flagged (λ w. b) cells (replicate 7 b)
flagged_all b cells h = record { id = refl; column = λ j l. get_or-replicate 7 (j + 1) b false (omega arith) }

module _ (show : List ℕ → Bool) (cells : List (List ℕ)) where
  -- the columns before c are done
  pub record Flagging (c : ℕ) (flags : List Bool) : Type 0 where
    pub size : length flags ≡ 7
    pub id : get_or flags 0 false ≡ show (ascii "_uuid")
    pub column : (j : ℕ) → j < c → get_or flags (j + 1) false ≡ show (entry_name (get_or cells j []))

  pub flagging_on : (c : ℕ) {flags : List Bool} {b : Bool} → c < 6 → Flagging c flags → b ≡ show (entry_name (get_or cells c [])) → Flagging (c + 1) (set flags (c + 1) b)
  flagging_on c {flags} {b} h g e = record {
    size = length-set flags (c + 1) b ∙ g.size;
    id = get_or-set_other flags (c + 1) 0 b false (λ q. omega arith) ∙ g.id;
    column = λ j l. split (eqb j c)
        (λ q. let z : j ≡ c = eqb-true j c q in rw z (get_or-set_same flags (c + 1) b false (omega (arith, g.size)) ∙ e))
        (λ q. let z = eqb-false j c q in get_or-set_other flags (c + 1) (j + 1) b false (λ w. z (omega arith)) ∙ g.column j (below j c (omega arith) z));
  }
    where
      below : (j c : ℕ) → j ≤ c → (j ≡ c → ⊥) → j < c
      below j c l n = omega arith

-- one name more
module _ (j : Json) (cells : List (List ℕ)) (flags : List Bool) where
  -- with it, where the columns before c are done, whatever is shown
  abbrev pub Adding : ℕ → List Bool → Type 0
  Adding c more = (show : List ℕ → Bool) → Flagged show cells flags → Flagging (with_name show j) cells c more

  pub adding_none : length flags ≡ 7 → {b : Bool} → b ≡ is_word (ascii "_uuid") j → Adding 0 (set flags 0 (b || get_or flags 0 false))
  unfolding with_name
  adding_none n {b} e show f = record {
    size = length-set flags 0 (b || get_or flags 0 false) ∙ n;
    id = get_or-set_same flags 0 (b || get_or flags 0 false) false (omega (arith, n)) ∙ (λ i. e i || f.id i);
    column = λ k h. absurd (omega arith);
  }

  pub adding_on : (c : ℕ) {more : List Bool} {b : Bool} → c < 6 → c < length cells → Adding c more → b ≡ is_word (entry_name (get_or cells c [])) j → Adding (c + 1) (set more (c + 1) (b || get_or flags (c + 1) false))
  unfolding with_name
  adding_on c h l g e show f = flagging_on (with_name show j) cells c h (g show f) (λ i. e i || f.column c l i)

  pub adding_end : (c : ℕ) {more : List Bool} → length cells ≤ c → Adding c more → (show : List ℕ → Bool) → Flagged show cells flags → Flagged (with_name show j) cells more
  adding_end c h g show f = record { id = (g show f).id; column = λ k l. (g show f).column k (omega arith) }

-- ── the walk over the names ──
or_next : (s j r : Bool) → (s || (j || r)) ≡ ((j || s) || r)
or_next true true r = refl
or_next true false r = refl
or_next false true r = refl
or_next false false r = refl

or_none : (s : Bool) → (s || false) ≡ s
or_none true = refl
or_none false = refl

module _ (s : List ℕ) (cells : List (List ℕ)) where
  abbrev cs : List Column
  cs = map column_from cells

  -- the names before g are shown, and all are fair where the rest is
  pub record Naming (all g : Option ℕ) (flags : List Bool) : Type 0 where
    pub show : List ℕ → Bool
    pub flagged : Flagged show cells flags
    pub fair : all_fair cs nothing (items_from s all) ≡ all_fair cs show (items_from s g)
    pub shown : (w : List ℕ) → among (items_from s all) w ≡ (show w || among (items_from s g) w)

  pub naming_none : length cells ≤ 6 → (f : Option ℕ) → Naming f f (replicate 7 false)
  naming_none h f = record { show = nothing; flagged = flagged_all false cells h; fair = refl; shown = λ w. refl }

  module _ {f g : Option ℕ} {flags : List Bool} (so : Naming f g flags) where
    pub naming_end : g ≡ None → ColumnsRead (shown_fault cs (names_in (items_from s f))) (among (items_from s f)) cells (record { fault = Fine; flags = flags })
    unfolding all_fair among
    naming_end h = record {
      fault = sym (fault_is cs (items_from s f) ∙ ap (λ (b : Bool). check b Syntax Fine) (so.fair ∙ ap (all_fair cs so.show) (walk_end s h)));
      flags = λ y. flagged_as (λ w. sym (so.shown w ∙ ap (λ (l : List Json). so.show w || any (is_word w) l) (walk_end s h) ∙ or_none (so.show w))) so.flagged;
    }

    module _ {p : ℕ} (h : g ≡ Some p) {ok : Bool} (e : ok ≡ fair_name cs so.show (tree_at s p)) where
      here : all_fair cs nothing (items_from s f) ≡ (ok && all_fair cs (with_name so.show (tree_at s p)) (items_from s (next_item s p)))
      unfolding all_fair
      here = so.fair ∙ ap (all_fair cs so.show) (walk_rest s h) ∙ ap (λ (b : Bool). b && all_fair cs (with_name so.show (tree_at s p)) (items_from s (next_item s p))) (sym e)

      pub naming_not : ok ≡ false → ColumnsRead (shown_fault cs (names_in (items_from s f))) (among (items_from s f)) cells (record { fault = Syntax; flags = flags })
      naming_not k = record {
        fault = sym (fault_is cs (items_from s f) ∙ ap (λ (b : Bool). check b Syntax Fine) (here ∙ ap (λ (b : Bool). b && all_fair cs (with_name so.show (tree_at s p)) (items_from s (next_item s p))) k));
        flags = λ y. absurd (clash false y refl);
      }

      pub naming_on : ok ≡ true → {more : List Bool} → Flagged (with_name so.show (tree_at s p)) cells more → Naming f (next_item s p) more
      unfolding with_name among
      naming_on k m = record {
        show = with_name so.show (tree_at s p);
        flagged = m;
        fair = here ∙ ap (λ (b : Bool). b && all_fair cs (with_name so.show (tree_at s p)) (items_from s (next_item s p))) k;
        shown = λ w. so.shown w ∙ ap (λ (l : List Json). so.show w || any (is_word w) l) (walk_rest s h) ∙ or_next (so.show w) (is_word w (tree_at s p)) (any (is_word w) (items_from s (next_item s p)));
      }

-- ── the slot ──
array_some : (j : Json) → is_array (kind_of j) ≡ true → array_in j ≡ Some (items_in j)
unfolding kind_of items_in
array_some null e = cc
array_some (bool b) e = cc
array_some (num t) e = cc
array_some (str t) e = cc
array_some (arr xs) e = refl
array_some (obj ms) e = cc

array_none : (j : Json) → is_array (kind_of j) ≡ false → array_in j ≡ None
unfolding kind_of items_in
array_none null e = refl
array_none (bool b) e = refl
array_none (num t) e = refl
array_none (str t) e = refl
array_none (arr xs) e = cc
array_none (obj ms) e = refl

no_items : (j : Json) → is_array (kind_of j) ≡ false → items_in j ≡ []
unfolding kind_of items_in
no_items null e = refl
no_items (bool b) e = refl
no_items (num t) e = refl
no_items (str t) e = refl
no_items (arr xs) e = cc
no_items (obj ms) e = refl

-- columns without a fault are all names
names_fine : (cs : List Column) (o : Option Json) → is_fine (columns_fault cs o) ≡ true → all_names o ≡ true
unfolding all_names
names_fine cs None h = refl
names_fine cs (Some j) h = split (is_array (kind_of j))
    (λ k. go (names_in (items_in j)) refl (sym (ap (λ (x : Option (List Json)). is_fine (elim x [ None ↦ Syntax | Some l ↦ shown_fault cs (names_in l) ])) (array_some j k)) ∙ h))
    (λ k. ap (λ (l : List Json). is_some (names_in l)) (no_items j k))
  where
    go : (x : Option (List (List ℕ))) → names_in (items_in j) ≡ x → is_fine (shown_fault cs (names_in (items_in j))) ≡ true → is_some (names_in (items_in j)) ≡ true
    go None e f = absurd (clash false (sym (ap (λ (y : Option (List (List ℕ))). is_fine (shown_fault cs y)) e) ∙ f) refl)
    go (Some l) e f = ap is_some e

module _ (s : List ℕ) {p : ℕ} where
  slot_none : p ≡ 0 → slotted s p ≡ None
  unfolding slotted
  slot_none h = rw (slotted, eq-eqb p 0 h)

  slot_some : (p ≡ 0 → ⊥) → slotted s p ≡ Some (tree_at s p)
  unfolding slotted
  slot_some h = rw (slotted, ne_eqb p 0 h)

  slot_well_lem : (p ≡ 0 → ⊥) → slot_well s p ≡ true → well_at s p ≡ true
  unfolding slot_well
  slot_well_lem h w = sym (ap (λ (b : Bool). elim b [ true ↦ true | false ↦ well_at s p ]) (ne_eqb p 0 h)) ∙ w

  -- ── what is shown ──
  module _ (h : p ≡ 0 → ⊥) (a : all_names (slotted s p) ≡ true) where
    names_here : is_some (names_in (items_in (tree_at s p))) ≡ true
    unfolding all_names
    names_here = sym (ap all_names (slot_some h)) ∙ a

    shows_is : (w : List ℕ) → shows (Some (tree_at s p)) w ≡ among (items_in (tree_at s p)) w
    unfolding among
    shows_is w = split (is_array (kind_of (tree_at s p)))
        (λ k. ap (λ (o : Option (List Json)). elim o [ None ↦ false | Some l ↦ member w (names_or (names_in l)) ]) (array_some (tree_at s p) k) ∙ sym (includes_is (items_in (tree_at s p)) w names_here))
        (λ k. ap (λ (o : Option (List Json)). elim o [ None ↦ false | Some l ↦ member w (names_or (names_in l)) ]) (array_none (tree_at s p) k) ∙ sym (ap (any (is_word w)) (no_items (tree_at s p) k)))

    shown_some : (w : List ℕ) → among (items_in (tree_at s p)) w ≡ shows (slotted s p) w
    shown_some w = sym (ap (λ (o : Option Json). shows o w) (slot_some h) ∙ shows_is w)

  -- ── what the columns come to ──
  module _ (cells : List (List ℕ)) where
    pub columns_none : p ≡ 0 → length cells ≤ 6 → ColumnsRead (columns_fault (map column_from cells) (slotted s p)) (shows (slotted s p)) cells (record { fault = Fine; flags = replicate 7 true })
    columns_none h few = record {
      fault = sym (ap (columns_fault (map column_from cells)) (slot_none h));
      flags = λ y. flagged_as (λ w. sym (ap (λ (o : Option Json). shows o w) (slot_none h))) (flagged_all true cells few);
    }

    module _ (h : p ≡ 0 → ⊥) {b : Bool} (e : b ≡ is_array (kind_of (tree_at s p))) where
      fault_by : {o : Option (List Json)} → array_in (tree_at s p) ≡ o → columns_fault (map column_from cells) (slotted s p) ≡ elim o [ None ↦ Syntax | Some l ↦ shown_fault (map column_from cells) (names_in l) ]
      fault_by k = ap (columns_fault (map column_from cells)) (slot_some h) ∙ ap (λ (o : Option (List Json)). elim o [ None ↦ Syntax | Some l ↦ shown_fault (map column_from cells) (names_in l) ]) k

      pub columns_array : slot_well s p ≡ true → b ≡ true → {f : Option ℕ} → f ≡ first_of s 91 93 p → {r : Columns} → ColumnsRead (shown_fault (map column_from cells) (names_in (items_from s f))) (among (items_from s f)) cells r
          → ColumnsRead (columns_fault (map column_from cells) (slotted s p)) (shows (slotted s p)) cells r
      columns_array w k {f} ef {r} q =
          let items : items_from s f ≡ items_in (tree_at s p) = ap (items_from s) ef ∙ sym (items_in_lem s p (slot_well_lem h w)).0 in
          let judged : r.fault ≡ columns_fault (map column_from cells) (slotted s p) = q.fault ∙ ap (λ (l : List Json). shown_fault (map column_from cells) (names_in l)) items ∙ sym (fault_by (array_some (tree_at s p) (sym e ∙ k))) in
          record {
            fault = judged;
            flags = λ y. flagged_as (λ v. ap (λ (l : List Json). among l v) items ∙ shown_some h (names_fine (map column_from cells) (slotted s p) (ap is_fine (sym judged) ∙ y)) v) (q.flags y);
          }

      pub columns_other : b ≡ false → {flags : List Bool} → ColumnsRead (columns_fault (map column_from cells) (slotted s p)) (shows (slotted s p)) cells (record { fault = Syntax; flags = flags })
      columns_other k = record { fault = sym (fault_by (array_none (tree_at s p) (sym e ∙ k))); flags = λ y. absurd (clash false y refl) }
