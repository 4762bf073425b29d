-- The members that count, collected one after another. Assumes nothing.
use Rattle.std.specs.Prelude.{Option, Some, None}
use mathlib.Core.Path.{◌≡◌, refl, sym, ap, subst, ◌∙◌}
use mathlib.Core.List.{List, [], ◌∷◌, ◌++◌, map, append_assoc, append-nil}
use mathlib.Core.Bool.{Bool, true, false, ◌&&◌}
use Prim.Native.Nat.{ℕ, ◌+◌, ◌<◌, ◌≤◌}
use native.Mathlib.Omega.{arith}
use native.Mathlib.Numerals.{add-one}
use borrow.Author.Tests.{lt-leb, eqb-true, eqb-false}
use lib.Dec.{eqb, leb}
use lib.ListN.{length, set, take, length-set, length-append, length-map}
use lib.Seq.{take-suc-set, length-take-le}
use Rattle.model.specs.Octets.{eq_bytes}
use Rattle.model.specs.Base.{all}
use Rattle.model.specs.Json.{Json, Named, member_at, value_at}
use Rattle.inner.specs.Positions.{tree_at, well_at, first_of, members_from, members_fine, next_member, word_in}
use Rattle.model.specs.Nav.{kind_of, is_object, is_read}
use Rattle.model.specs.Members.{members_in, counting}
use Rattle.model.specs.Value.{text_of}
use Rattle.model.specs.SchemaText.{names, is_id}
use Rattle.model.proofs.Tests.{split, clash, and_l, and_r, bytes_same, bytes_self}
use Rattle.nav.proofs.Rest.{members_fine_lem}
use Rattle.nav.proofs.Walk.{members_in_lem, pass_end, pass_rest, pass_fine, pass_name}
use Rattle.names.specs.Names.{short_cell, name_cell}
use Rattle.catalog.proofs.Ids.{id_none}
use Rattle.column_types.proofs.Keys.{last}
use Rattle.column_types.proofs.Tables.{Cell, short, long, cell_of}
use Rattle.columns.specs.Parts.{member_of, parts_few, Collected, met_at, without, Forgotten}
use Rattle.columns.proofs.Kept.{without_few, all_without, all_at, map_without, less, counting_again, Once, once_counting, once_less, counting_long}

-- whether a member is read at a place
abbrev read_at : List ℕ → ℕ → Bool
read_at s p = is_read (member_at (value_at 12 s) s p).read

-- places gathered so far, and their names in cells: n of them, of the members before g that none before g repeats
pub record Gathered (s : List ℕ) (most : ℕ) (j : Json) (n : ℕ) (places : List ℕ) (kept-cells : List (List ℕ)) (g : Option ℕ) : Type 0 where
  pub object : is_object (kind_of j) ≡ true
  pub few : n ≤ most
  pub size : length places ≡ 6
  pub cells_size : length kept-cells ≡ 6
  pub fine : members_fine s g ≡ true
  pub ids : all is_id (names (members_in j)) ≡ all is_id (names (members_from s g))
  pub kept : all is_id (names (map (member_of s) (take n places))) ≡ true
  pub cells : take n kept-cells ≡ map short_cell (names (map (member_of s) (take n places)))
  pub once : Once (map (member_of s) (take n places))
  pub are : counting (members_in j) ≡ counting (map (member_of s) (take n places) ++ members_from s g)
  pub well : all (λ (p : ℕ). is_read (member_at (value_at 12 s) s p).read) (take n places) ≡ true

-- a name by its cell
pub cell_id : (t : List ℕ) → is_id (text_of (short_cell t)) ≡ is_id t
cell_id t = go (cell_of t)
  where
    go : Cell t → is_id (text_of (short_cell t)) ≡ is_id t
    go (short q) = ap is_id q
    go (long n q) = ap is_id q ∙ id_none [] refl ∙ sym n

pub cell_short : (t : List ℕ) → is_id (text_of (short_cell t)) ≡ true → text_of (short_cell t) ≡ t
cell_short t h = go (cell_of t)
  where
    go : Cell t → text_of (short_cell t) ≡ t
    go (short q) = q
    go (long n q) = absurd (clash (is_id t) (sym (cell_id t) ∙ h) n)

cells_same : (t u : List ℕ) → is_id t ≡ true → is_id u ≡ true → eq_bytes (short_cell t) (short_cell u) ≡ eq_bytes t u
cells_same t u h k =
    split
    (eq_bytes t u)
    (λ e. ap (λ (x : List ℕ). eq_bytes (short_cell x) (short_cell u)) (bytes_same t u e) ∙ bytes_self (short_cell u) ∙ sym e)
    (λ e.
    split
    (eq_bytes (short_cell t) (short_cell u))
    (λ f.
    let q : t ≡ u = sym (cell_short t (cell_id t ∙ h)) ∙ ap text_of (bytes_same (short_cell t) (short_cell u) f) ∙ cell_short u (cell_id u ∙ k) in
    absurd (clash (eq_bytes t u) (ap (λ (x : List ℕ). eq_bytes x u) q ∙ bytes_self u) e))
    (λ f. f ∙ sym e))

-- the first of a name, by the cells of names that are ids
met_less : (w : List ℕ) (ms : List Named) → is_id w ≡ true → all is_id (names ms) ≡ true → without (met_at (short_cell w) (map short_cell (names ms))) ms ≡ less w ms
met_less w [] h k = refl
met_less w (m ∷ ms) h k =
    let c : eq_bytes (short_cell m.name) (short_cell w) ≡ eq_bytes m.name w = cells_same m.name w (and_l (is_id m.name) _ k) h in
    split
    (eq_bytes m.name w)
    (λ e. rw (less, met_at, c, e))
    (λ e. rw (less, met_at, c, e) (ap (λ (r : List Named). m ∷ r) (met_less w ms h (and_r (is_id m.name) _ k))))

and_none : (b : Bool) → (b && false) ≡ false
and_none true = refl
and_none false = refl

pub map_snoc : {A B : Type 0} (f : A → B) (l : List A) (a : A) → map f (l ++ (a ∷ [])) ≡ map f l ++ (f a ∷ [])
map_snoc f [] a = refl
map_snoc f (x ∷ l) a = ap (λ (r : List _). f x ∷ r) (map_snoc f l a)

pub all_snoc : {A : Type 0} (p : A → Bool) (l : List A) (a : A) → all p (l ++ (a ∷ [])) ≡ (all p l && p a)
all_snoc p [] a = last refl
all_snoc p (x ∷ l) a = split (p x) (λ e. rw e (all_snoc p l a)) (λ e. rw e)

below : (n m : ℕ) → n ≤ m → (n ≡ m → ⊥) → n < m
below n m h f = split (eqb n m) (λ e. absurd (f (eqb-true n m e))) (λ e. omega (arith, eqb-false n m e))

pub gather_start : (s : List ℕ) (most at : ℕ) → is_object (kind_of (tree_at s at)) ≡ true → (places : List ℕ) (cells : List (List ℕ)) → length places ≡ 6 → length cells ≡ 6 → well_at s at ≡ true → Gathered s most (tree_at s at) 0 places cells (first_of s 123 125 at)
gather_start s most at o places cells l lc w =
    let q = members_in_lem s at w in
    record {
      object = o;
      few = omega arith;
      size = l;
      cells_size = lc;
      fine = q.1;
      ids = ap (λ (ms : List Named). all is_id (names ms)) q.0;
      kept = refl;
      cells = refl;
      once = tt;
      are = ap counting q.0;
      well = refl;
    }

nine : {most : ℕ} → most ≤ 6 → leb 9 most ≡ false
nine {most} small = lt-leb 9 most (omega arith)

module _ {s : List ℕ} {most : ℕ} {j : Json} (small : most ≤ 6) where
  -- where it is refused
  refused : (places : List ℕ) → parts_few most j ≡ false → Collected s most j 9 places
  refused places h =
      record {
        few = nine small ∙ sym h;
        are = λ e. absurd (clash (leb 9 most) e (nine small));
        well = λ e. absurd (clash (leb 9 most) e (nine small));
      }

  pub not_object : (places : List ℕ) → is_object (kind_of j) ≡ false → Collected s most j 9 places
  unfolding parts_few
  not_object places h = refused places (rw h)

  module _ {n : ℕ} {places : List ℕ} {cells : List (List ℕ)} {g : Option ℕ} (k : Gathered s most j n places cells g) where
    pub gather_end : g ≡ None → Collected s most j n places
    unfolding parts_few
    gather_end e =
        let none : members_from s g ≡ [] = pass_end s e in
        let c : counting (members_in j) ≡ map (member_of s) (take n places) =
        k.are
        ∙ ap (λ (ms : List Named). counting (map (member_of s) (take n places) ++ ms)) none
        ∙ ap counting (append-nil (map (member_of s) (take n places)))
        ∙ once_counting (map (member_of s) (take n places)) k.once in
        let i : all is_id (names (members_in j)) ≡ true = k.ids ∙ ap (λ (ms : List Named). all is_id (names ms)) none in
        let inside : n ≤ length places = (let z = k.few in let y = k.size in omega arith) in
        let l : length (counting (members_in j)) ≡ n = ap length c ∙ length-map (take n places) (member_of s) ∙ length-take-le n places inside in
        record {
          few = rw (k.object, i, l);
          are = λ h. sym c;
          well = λ h i l. all_at (read_at s) n places i 0 inside l k.well;
        }

    module _ {p : ℕ} (e : g ≡ Some p) where
      abbrev w : List ℕ
      w = text_of (name_cell (tree_at s p))

      cell_is : name_cell (tree_at s p) ≡ short_cell (member_of s p).name
      unfolding name_cell word_in
      cell_is = ap (λ (x : Json). name_cell x) (pass_name s e k.fine)

      id_is : is_id w ≡ is_id (member_of s p).name
      id_is = ap (λ (x : List ℕ). is_id (text_of x)) cell_is ∙ cell_id (member_of s p).name

      here : is_read (member_at (value_at 12 s) s p).read ≡ true
      here = (members_fine_lem s p (subst (λ (x : Option ℕ). members_fine s x ≡ true) e k.fine)).0

      pub name_bad : is_id w ≡ false → Collected s most j 9 places
      unfolding parts_few
      name_bad h =
          let b : all is_id (names (members_in j)) ≡ false =
          k.ids ∙ ap (λ (ms : List Named). all is_id (names ms)) (pass_rest s e) ∙ rw (sym id_is ∙ h) in
          refused places (rw (k.object, b))

      -- the members from here on, past an id
      ids_next : is_id w ≡ true → all is_id (names (members_in j)) ≡ all is_id (names (members_from s (next_member s p)))
      ids_next h = k.ids ∙ ap (λ (ms : List Named). all is_id (names ms)) (pass_rest s e) ∙ rw (sym id_is ∙ h)

      -- once the earlier one of that name went
      module _ (h : is_id w ≡ true) {cell : List ℕ} (there : cell ≡ name_cell (tree_at s p)) {r : ℕ} {places2 : List ℕ} {cells2 : List (List ℕ)} (f : Forgotten cell n r places places2 cells cells2) where
        abbrev old : List Named
        old = map (member_of s) (take n places)

        abbrev gone : ℕ
        gone = met_at cell (take n cells)

        gone_is : gone ≡ met_at (short_cell (member_of s p).name) (map short_cell (names old))
        gone_is = λ i. met_at ((there ∙ cell_is) i) (k.cells i)

        fewer : r ≤ n
        fewer =
            let a = f.count in
            let b = without_few gone (take n cells) in
            let c = length-take-le n cells (let z = k.few in let y = k.cells_size in omega arith) in
            omega arith

        gone_old : without gone old ≡ less (member_of s p).name old
        gone_old = ap (λ (x : ℕ). without x old) gone_is ∙ met_less (member_of s p).name old (sym id_is ∙ h) k.kept

        left_are : map (member_of s) (take r places2) ≡ less (member_of s p).name old
        left_are = ap (map (member_of s)) f.places_are ∙ map_without (member_of s) gone (take n places) ∙ gone_old

        left_cells : take r cells2 ≡ map short_cell (names (map (member_of s) (take r places2)))
        left_cells =
            f.names_are
            ∙ ap (without gone) k.cells
            ∙ sym (map_without short_cell gone (names old))
            ∙ ap (map short_cell) (sym (map_without (λ (m : Named). m.name) gone old))
            ∙ ap (λ (ms : List Named). map short_cell (names ms)) (gone_old ∙ sym left_are)

        now_are : counting (members_in j) ≡ counting ((map (member_of s) (take r places2) ++ (member_of s p ∷ [])) ++ members_from s (next_member s p))
        now_are =
            k.are
            ∙ ap (λ (ms : List Named). counting (old ++ ms)) (pass_rest s e)
            ∙ counting_again old (member_of s p) (members_from s (next_member s p))
            ∙ ap (λ (ms : List Named). counting (ms ++ member_of s p ∷ members_from s (next_member s p))) (sym left_are)
            ∙ ap counting (sym (append_assoc (map (member_of s) (take r places2)) (member_of s p ∷ []) (members_from s (next_member s p))))

        now_once : Once (map (member_of s) (take r places2) ++ (member_of s p ∷ []))
        now_once = subst (λ (ms : List Named). Once (ms ++ (member_of s p ∷ []))) (sym left_are) (once_less old (member_of s p) k.once)

        inside : r ≤ length places2
        inside = let a = fewer in let b = k.few in let c = k.size in let d = f.size in omega arith

        pub same_places : length places2 ≡ 6
        same_places = f.size ∙ k.size

        pub too_many : (places3 : List ℕ) → r ≡ most → Collected s most j 9 places3
        unfolding parts_few
        too_many places3 q =
            let l = counting_long (members_from s (next_member s p)) (map (member_of s) (take r places2) ++ (member_of s p ∷ [])) now_once in
            let a : length (map (member_of s) (take r places2) ++ (member_of s p ∷ [])) ≡ r + 1 =
            length-append (map (member_of s) (take r places2)) (member_of s p ∷ []) ∙ ap (λ (x : ℕ). x + 1) (length-map (take r places2) (member_of s) ∙ length-take-le r places2 inside) in
            let c = ap length now_are in
            let b : leb (length (counting (members_in j))) most ≡ false = lt-leb (length (counting (members_in j))) most (omega arith) in
            refused places3 (rw (k.object, b) (and_none (all is_id (names (members_in j)))))

        pub in_six : (r ≡ most → ⊥) → r < 6
        in_six q = let l = below r most (let a = fewer in let b = k.few in omega arith) q in omega arith

        pub gather_more : (r ≡ most → ⊥) → Gathered s most j (r + 1) (set places2 r p) (set cells2 r cell) (next_member s p)
        gather_more q =
            let lt : r < most = below r most (let a = fewer in let b = k.few in omega arith) q in
            let in_places : r < length places2 = (let y = same_places in omega arith) in
            let in_cells : r < length cells2 = (let y = k.cells_size in let z = f.names_size in omega arith) in
            let tk : take (r + 1) (set places2 r p) ≡ take r places2 ++ (p ∷ []) = rw add-one (take-suc-set places2 r p in_places) in
            let tc : take (r + 1) (set cells2 r cell) ≡ take r cells2 ++ (cell ∷ []) = rw add-one (take-suc-set cells2 r cell in_cells) in
            let new : map (member_of s) (take (r + 1) (set places2 r p)) ≡ map (member_of s) (take r places2) ++ (member_of s p ∷ []) = ap (map (member_of s)) tk ∙ map_snoc (member_of s) (take r places2) p in
            let new_names : names (map (member_of s) (take (r + 1) (set places2 r p))) ≡ names (map (member_of s) (take r places2)) ++ ((member_of s p).name ∷ []) =
            ap names new ∙ map_snoc (λ (m : Named). m.name) (map (member_of s) (take r places2)) (member_of s p) in
            let left_kept : all is_id (names (map (member_of s) (take r places2))) ≡ true =
            ap (λ (ms : List Named). all is_id (names ms)) (left_are ∙ sym gone_old) ∙ ap (all is_id) (map_without (λ (m : Named). m.name) gone old) ∙ all_without is_id gone (names old) k.kept in
            record {
              object = k.object;
              few = omega arith;
              size = length-set places2 r p ∙ same_places;
              cells_size = length-set cells2 r cell ∙ f.names_size ∙ k.cells_size;
              fine = pass_fine s e k.fine;
              ids = ids_next h;
              kept = ap (all is_id) new_names ∙ all_snoc is_id (names (map (member_of s) (take r places2))) (member_of s p).name ∙ rw (left_kept, sym id_is ∙ h);
              cells = tc ∙ (λ i. left_cells i ++ ((there ∙ cell_is) i ∷ [])) ∙ sym (map_snoc short_cell (names (map (member_of s) (take r places2))) (member_of s p).name) ∙ ap (map short_cell) (sym new_names);
              once = subst Once (sym new) now_once;
              are = now_are ∙ ap (λ (ms : List Named). counting (ms ++ members_from s (next_member s p))) (sym new);
              well =
                  ap (all (read_at s)) tk
                  ∙ all_snoc (read_at s) (take r places2) p
                  ∙ rw (ap (all (read_at s)) f.places_are ∙ all_without (read_at s) gone (take n places) k.well, here);
            }
