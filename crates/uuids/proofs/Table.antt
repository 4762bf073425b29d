-- The table of uuid-names: filled one operation after another, and looked up. Assumes nothing.
use Rattle.std.specs.Prelude.{Ok, Err}
use Rattle.model.specs.Scan.{Read}
use Rattle.std.specs.Prelude.{Option, Some, None}
use mathlib.Core.Path.{◌≡◌, refl, sym, ap, subst, fun_ext, ◌∙◌}
use mathlib.Core.Bool.{Bool, true, false}
use mathlib.Core.List.{List, [], ◌∷◌, ◌++◌, map}
use Prim.Native.Nat.{ℕ, zero, suc, ◌+◌, ◌-◌, ◌*◌, ◌/◌, ◌%◌, ◌<◌, ◌≤◌}
use native.Mathlib.Nat.{not-suc-le-zero}
use native.Mathlib.Numerals.{add-one}
use native.Mathlib.Omega.{arith}
use lib.Dec.{eqb, ltb}
use borrow.Author.Tests.{eqb-true, eqb-false, ltb-true, ltb-false}
use lib.ListN.{length, take, drop, get_or, set, replicate, length-append, length-drop, length-set, length-map, length-replicate, drop_of_length-le, get_or-eq_default}
use lib.Seq.{drop-cons, drop-drop, get_or-drop, get_or-append-add, get_or-set_same, get_or-set_other, take-set-le, take-append_seam}
use Rattle.model.specs.Base.{ascii}
use Rattle.model.specs.Json.{Named, value_at}
use Rattle.model.specs.Nav.{is_read}
use Rattle.model.specs.Text.{is_word}
use Rattle.model.specs.Members.{members_in, has_member, member_value}
use Rattle.model.specs.Transact.{fresh_ids, insert_name, is_named, names_of}
use Rattle.model.proofs.Tests.{split, clash}
use Rattle.inner.specs.Positions.{well_at, tree_at, items_from, items_fine, next_item, Means}
use Rattle.scan.proofs.Past.{Past}
use Rattle.scan.proofs.Enough.{value_past}
use Rattle.nav.proofs.Walk.{walk_rest, walk_end, walk_fine}
use Rattle.uuids.specs.Named.{operations_at, entry_at, entry_put, is_entry, EntryOf, place_from, place_in, id_by, names_at, place_named, Filled}
use Rattle.uuids.proofs.Names.{no_op, no_insert, no_name, some_name, place_turn, names_by, ids_front}

-- ── the entry of an operation ──
-- a value ends past where it begins, and within the text
well_below : (s : List ℕ) (q : ℕ) → well_at s q ≡ true → q < length s
unfolding well_at is_read
well_below s q h = go (value_at 12 s q).read refl (value_past s 12 q)
  where
    go : (r : Read) → (value_at 12 s q).read ≡ r → Past s (suc q) (value_at 12 s q).read → q < length s
    go (Ok e) t p = let z = subst (Past s (suc q)) t p in omega (arith, z.0, z.1)
    go (Err e) t p = absurd (clash (is_read (value_at 12 s q).read) h (ap is_read t))

module _ (s : List ℕ) (ms : List Named) where
  no_entry : ((w : List ℕ) → is_named (insert_name ms) w ≡ false) → EntryOf s ms 0
  unfolding is_entry
  no_entry h = record { fits = omega arith; names = λ w. sym (h w) }

  module _ {f : Option ℕ} (m : Means s f (has_member (ascii "op") ms) (member_value (ascii "op") ms)) where
    pub entry_no_op : f ≡ None → EntryOf s ms 0
    entry_no_op e = no_entry (λ w. no_op s ms w m e)

    module _ {p : ℕ} (e : f ≡ Some p) {i : Bool} (is : i ≡ is_word (ascii "insert") (tree_at s p)) where
      pub entry_no_insert : i ≡ false → EntryOf s ms 0
      entry_no_insert t = no_entry (λ w. no_insert s ms w m e is t)

      module _ (t : i ≡ true) {u : Option ℕ} (n : Means s u (has_member (ascii "uuid-name") ms) (member_value (ascii "uuid-name") ms)) where
        pub entry_no_name : u ≡ None → EntryOf s ms 0
        entry_no_name g = no_entry (λ w. no_name s ms w m e is t n g)

        pub entry_below : {q : ℕ} → u ≡ Some q → q < length s
        unfolding Means
        entry_below {q} g = well_below s q (subst (λ x. Means s x (has_member (ascii "uuid-name") ms) (member_value (ascii "uuid-name") ms)) g n).2

        pub entry_some : {q : ℕ} → u ≡ Some q → length s ≤ 8192 → EntryOf s ms (q + 1)
        unfolding is_entry
        entry_some {q} g l = rw (add-one q) (record { fits = omega (arith, entry_below g, l); names = λ w. sym (some_name s ms w m e is t n g) })

-- ── entries of the table ──
module _ (names : List ℕ) (k q : ℕ) where
  pub entry_length : length (entry_put names k q) ≡ length names
  unfolding entry_put
  entry_length = length-set (set names (256 + 2 * k) (q / 256)) (256 + 2 * k + 1) (q % 256) ∙ length-set names (256 + 2 * k) (q / 256)

  pub entry_ids : take 256 (entry_put names k q) ≡ take 256 names
  unfolding entry_put
  entry_ids = take-set-le 256 (set names (256 + 2 * k) (q / 256)) (256 + 2 * k + 1) (q % 256) (omega arith) ∙ take-set-le 256 names (256 + 2 * k) (q / 256) (omega arith)

  pub entry_other : (i : ℕ) → (i ≡ k → ⊥) → entry_at (entry_put names k q) i ≡ entry_at names i
  unfolding entry_put entry_at
  entry_other i n =
      let a = set names (256 + 2 * k) (q / 256) in
      rw (
        get_or-set_other a (256 + 2 * k + 1) (256 + 2 * i) (q % 256) 0 (λ h. n (omega arith)),
        get_or-set_other names (256 + 2 * k) (256 + 2 * i) (q / 256) 0 (λ h. n (omega arith)),
        get_or-set_other a (256 + 2 * k + 1) (256 + 2 * i + 1) (q % 256) 0 (λ h. n (omega arith)),
        get_or-set_other names (256 + 2 * k) (256 + 2 * i + 1) (q / 256) 0 (λ h. n (omega arith)),
      )

  pub entry_same : length names ≡ 288 → k < 16 → entry_at (entry_put names k q) k ≡ q
  unfolding entry_put entry_at
  entry_same l h =
      let a = set names (256 + 2 * k) (q / 256) in
      let z : length a ≡ 288 = length-set names (256 + 2 * k) (q / 256) ∙ l in
      rw (get_or-set_other a (256 + 2 * k + 1) (256 + 2 * k) (q % 256) 0 (λ e. omega arith), get_or-set_same names (256 + 2 * k) (q / 256) 0 (omega arith), get_or-set_same a (256 + 2 * k + 1) (q % 256) 0 (omega (arith, z))) (omega arith)

-- ── the place of a name ──
-- what is no operation has none
unnamed : (w : List ℕ) → is_named (insert_name []) w ≡ false
unfolding has_member
unnamed w = refl

-- among operations, the i-th and on
place_drop : (w : List ℕ) (os : List (List Named)) (i : ℕ) {b : Bool} → is_named (insert_name (get_or os i [])) w ≡ b
    → place_named i w (drop i os) ≡ elim b [ true ↦ Some i | false ↦ place_named (i + 1) w (drop (i + 1) os) ]
unfolding place_named
place_drop w os i {b} t = split (ltb i (length os))
    (λ y. let d : drop i os ≡ get_or os i [] ∷ drop (i + 1) os = drop-cons os i [] (ltb-true i (length os) y) ∙ ap (λ n. get_or os i [] ∷ drop n os) (sym (add-one i)) in
    rw d (place_turn i w (get_or os i []) (drop (i + 1) os) t))
    (λ y. let l = ltb-false i (length os) y in
    let q : false ≡ b = sym (unnamed w) ∙ ap (λ o. is_named (insert_name o) w) (sym (get_or-eq_default os [] {n = i} l)) ∙ t in
    let more : Bool → (Option ℕ) = λ (c : Bool). elim c [ true ↦ Some i | false ↦ place_named (i + 1) w (drop (i + 1) os) ] in
    ap (place_named i w) (drop_of_length-le os {i = i} l) ∙ sym (ap (place_named (i + 1) w) (drop_of_length-le os {i = i + 1} (omega arith))) ∙ ap more q)

-- among entries
module _ (s names w : List ℕ) (n k : ℕ) where
  left : k < n → n - k ≡ suc (n - (k + 1))
  left h = omega arith

  pub place_here : k < n → is_entry s w (entry_at names k) ≡ true → place_from s names w (n - k) k ≡ Some k
  unfolding place_from
  place_here h t = rw (left h, place_from, t)

  pub place_on : k < n → is_entry s w (entry_at names k) ≡ false → place_from s names w (n - k) k ≡ place_from s names w (n - (k + 1)) (k + 1)
  unfolding place_from
  place_on h t = rw (left h, place_from, t)

  pub place_end : n ≤ k → place_from s names w (n - k) k ≡ None
  unfolding place_from
  place_end h = let z : n - k ≡ 0 = omega arith in rw z

-- entries of the operations: the place is the same
place_same : (s names w : List ℕ) (os : List (List Named)) → length os ≤ 16 → ((i : ℕ) → i < 16 → is_entry s w (entry_at names i) ≡ is_named (insert_name (get_or os i [])) w) → (n i : ℕ) → n + i ≡ 16
    → place_from s names w n i ≡ place_named i w (drop i os)
unfolding place_from place_named
place_same s names w os few each zero i l = let z : drop i os ≡ [] = drop_of_length-le os {i = i} (omega arith) in rw z
place_same s names w os few each (suc n) i l = turn (is_entry s w (entry_at names i)) refl (place_same s names w os few each n (i + 1) (omega arith))
  where
    turn : (b : Bool) → is_entry s w (entry_at names i) ≡ b → place_from s names w n (i + 1) ≡ place_named (i + 1) w (drop (i + 1) os) → place_from s names w (suc n) i ≡ place_named i w (drop i os)
    turn true y ih = rw (place_from, y) (sym (place_drop w os i (sym (each i (omega arith)) ∙ y)))
    turn false y ih = rw (place_from, y) (ih ∙ sym (place_drop w os i (sym (each i (omega arith)) ∙ y)))

-- ── a table filled, one operation after another ──
zeros_get : (n i : ℕ) → ◌≡◌ {A = ℕ} (get_or (replicate n 0) i 0) 0
zeros_get zero i = refl
zeros_get (suc n) zero = refl
zeros_get (suc n) (suc i) = zeros_get n i

-- what is filled before operation k, where the operations from g on are left
pub record Filling (s : List ℕ) (os : List (List Named)) (fresh names : List ℕ) (g : Option ℕ) (k : ℕ) : Type 0 where
  pub size : length names ≡ 288
  pub ids : take 256 names ≡ fresh
  pub few : k ≤ 16
  pub rest : drop k os ≡ operations_at s g
  pub fine : items_fine s g ≡ true
  pub filled : (i : ℕ) → i < k → (w : List ℕ) → is_entry s w (entry_at names i) ≡ is_named (insert_name (get_or os i [])) w
  pub blank : (i : ℕ) → k ≤ i → i < 16 → entry_at names i ≡ 0

module _ (s : List ℕ) (ops : Option ℕ) (fresh : List ℕ) where
  abbrev os : List (List Named)
  os = operations_at s ops

  pub filling_start : (zeros names : List ℕ) → items_fine s ops ≡ true → length fresh ≡ 256 → zeros ≡ replicate 288 0 → names ≡ fresh ++ drop (length fresh) zeros → Filling s os fresh names ops 0
  unfolding entry_at
  filling_start zeros names f l z e = record {
    size = ap length e ∙ length-append fresh (drop (length fresh) zeros) ∙ omega (arith, length-drop (length fresh) zeros, l, ap length z ∙ length-replicate {A = ℕ} 288 0);
    ids = rw (e, ← l) (take-append_seam fresh (drop (length fresh) zeros));
    few = omega arith;
    rest = refl;
    fine = f;
    filled = λ i h. absurd (not-suc-le-zero h);
    blank = λ i h g. omega (arith, zero_at (256 + 2 * i) (omega arith), zero_at (256 + 2 * i + 1) (omega arith));
  }
    where
      zero_at : (i : ℕ) → 256 ≤ i → get_or names i 0 ≡ 0
      zero_at i h =
          let y : i ≡ length fresh + (i - 256) = omega arith in
          ap (λ l. get_or l i 0) e ∙ rw y (get_or-append-add fresh (drop (length fresh) zeros) (i - 256) 0 ∙ get_or-drop (length fresh) zeros (i - 256) 0 ∙ ap (λ t. get_or t (length fresh + (i - 256)) 0) z ∙ zeros_get 288 (length fresh + (i - 256)))

  module _ {names : List ℕ} {g : Option ℕ} {k : ℕ} (t : Filling s os fresh names g k) where
    module _ {p : ℕ} (h : g ≡ Some p) where
      next : drop k os ≡ members_in (tree_at s p) ∷ operations_at s (next_item s p)
      unfolding operations_at
      next = t.rest ∙ ap (map members_in) (walk_rest s h)

      pub filling_room : length (items_from s ops) ≤ 16 → k < 16
      unfolding operations_at
      filling_room l = omega (arith, ap length next, length-drop k os, length-map (items_from s ops) members_in, l)

      pub filling_on : {q : ℕ} → k < 16 → EntryOf s (members_in (tree_at s p)) q → {n : Option ℕ} → n ≡ next_item s p → Filling s os fresh (entry_put names k q) n (k + 1)
      filling_on {q} l e {n} m = rw m (record {
        size = entry_length names k q ∙ t.size;
        ids = entry_ids names k q ∙ t.ids;
        few = omega arith;
        rest = sym (drop-drop 1 k os) ∙ ap (drop 1) next;
        fine = (walk_fine s h t.fine).1;
        filled = λ i u w. split (eqb i k) (λ y. here i (eqb-true i k y) w) (λ y. ap (is_entry s w) (entry_other names k q i (eqb-false i k y)) ∙ t.filled i (omega (arith, eqb-false i k y)) w);
        blank = λ i u v. entry_other names k q i (λ y. omega arith) ∙ t.blank i (omega arith) v;
      })
        where
          first : get_or os k [] ≡ members_in (tree_at s p)
          first = let z : k + 0 ≡ k = omega arith in ap (λ i. get_or os i []) (sym z) ∙ sym (get_or-drop k os 0 []) ∙ ap (λ l. get_or l 0 []) next

          here : (i : ℕ) → i ≡ k → (w : List ℕ) → is_entry s w (entry_at (entry_put names k q) i) ≡ is_named (insert_name (get_or os i [])) w
          here i y w = rw (y, entry_same names k q t.size l, first) (e.names w)

    pub filling_end : g ≡ None → Filled s ops fresh names
    unfolding place_in operations_at is_entry
    filling_end h = record { size = t.size; ids = ids_front names (omega (arith, t.size)) ∙ ap fresh_ids t.ids; places = λ w. place_same s names w os (omega (arith, past, t.few)) (λ i l. each i l w) 16 0 (omega arith) }
      where
        past : length os ≤ k
        past = omega (arith, ap length (t.rest ∙ ap (map members_in) (walk_end s h)), length-drop k os)

        each : (i : ℕ) → i < 16 → (w : List ℕ) → is_entry s w (entry_at names i) ≡ is_named (insert_name (get_or os i [])) w
        each i l w = split (ltb i k) (λ y. t.filled i (ltb-true i k y) w) (λ y. rw (t.blank i (ltb-false i k y) l, get_or-eq_default os [] {n = i} (omega (arith, past, ltb-false i k y))) (sym (unnamed w)))

-- what the names of a filled table stand for
pub filled_names : {s : List ℕ} {ops : Option ℕ} {fresh names : List ℕ} → Filled s ops fresh names → names_at s names ≡ names_of (fresh_ids fresh) (operations_at s ops)
unfolding names_at
filled_names {s} {ops} {fresh} {names} t =
    fun_ext (λ w. ap (id_by (fresh_ids names)) (t.places w) ∙ ap (λ ids. id_by ids (place_named 0 w (operations_at s ops))) t.ids ∙ sym (names_by (fresh_ids fresh) w 0 (operations_at s ops)))
