-- One operation after another. Assumes nothing.
use Rattle.std.specs.Prelude.{Option, Some, None}
use mathlib.Core.Path.{◌≡◌, refl, sym, ap, subst, ◌∙◌}
use mathlib.Core.List.{List, [], ◌∷◌, ◌++◌, map}
use mathlib.Core.Bool.{Bool, true, false, ◌||◌}
use Prim.Native.Nat.{ℕ, ◌+◌, ◌≤◌, ◌<◌}
use native.Mathlib.Omega.{arith}
use borrow.Author.Tests.{lt-ltb, le-ltb}
use lib.ListN.{get_or, drop}
use lib.Seq.{drop-drop, get_or-drop}
use Rattle.model.specs.declared.Fault.{Fault}
use Rattle.model.specs.declared.Fault.TheVariants.{Fine}
use Rattle.model.specs.Octets.{eq_bytes}
use Rattle.model.specs.Base.{member, ascii}
use Rattle.model.specs.Json.{Json, Named}
use Rattle.inner.specs.Positions.{tree_at, next_item, items_from}
use Rattle.model.specs.Members.{members_in}
use Rattle.model.specs.Schema.{Schema}
use Rattle.model.specs.Rows.{Row}
use Rattle.model.specs.Faults.{is_fine}
use Rattle.model.specs.Written.{Names}
use Rattle.model.specs.Answers.{error_text}
use Rattle.model.specs.Operations as model
use Rattle.model.specs.Transact.{Ran, fresh_ids, insert_name, is_named, with_name, followed, stopped, run_all}
use Rattle.model.proofs.Tests.{split, clash, bytes_same}
use Rattle.nav.proofs.Walk.{walk_end, walk_rest}
use Rattle.json_writer.specs.Texts.{comma_text, joined, error_result, null_text}
use Rattle.uuids.specs.Named.{operations_at, place_in, place_named, names_at}
use Rattle.operations.specs.Clauses.{found_before, Earlier}
use Rattle.operations.specs.Running.{run_from, run_whole, nulls_from}

-- ── names that were given, by the operations before i ──
-- a name was given before i, or the first insert of that name is still to come
pub data Naming (text : List ℕ) (ops : Option ℕ) (given : List (List ℕ)) (i : ℕ) (g : Option ℕ) (w : List ℕ) : Type 0 where
  past : (k : ℕ) → member w given ≡ true → place_named 0 w (operations_at text ops) ≡ Some k → k < i → Naming text ops given i g w
  ahead : member w given ≡ false → place_named 0 w (operations_at text ops) ≡ place_named i w (operations_at text g) → Naming text ops given i g w

late : (i : ℕ) (w : List ℕ) (os : List (List Named)) → (j : ℕ) → j ≤ i → found_before j (place_named i w os) ≡ false
unfolding found_before place_named
late i w [] j h = refl
late i w (o ∷ os) j h = go (is_named (insert_name o) w) refl (late (i + 1) w os j (omega arith))
  where
    go : (b : Bool) → is_named (insert_name o) w ≡ b → found_before j (place_named (i + 1) w os) ≡ false → found_before j (place_named i w (o ∷ os)) ≡ false
    go true e ih = rw (place_named, e) (le-ltb i j h)
    go false e ih = rw (place_named, e) ih

bytes_flip : (v w : List ℕ) → eq_bytes v w ≡ eq_bytes w v
bytes_flip v w =
    split (eq_bytes v w) (λ e. let q : v ≡ w = bytes_same v w e in rw q)
    (λ e. split (eq_bytes w v) (λ f. let q : w ≡ v = bytes_same w v f in rw q) (λ f. e ∙ sym f))

or_true : (b : Bool) {c : Bool} → c ≡ true → (b || c) ≡ true
or_true true e = refl
or_true false e = e

-- the name of an operation is given from then on
given_now : (n : Option (List ℕ)) (given : List (List ℕ)) (w : List ℕ) → is_named n w ≡ true → member w (with_name n given) ≡ true
given_now None given w e = absurd (clash false e refl)
given_now (Some v) given w e = let q : eq_bytes w v ≡ true = bytes_flip w v ∙ e in rw q

not_now : (n : Option (List ℕ)) (given : List (List ℕ)) (w : List ℕ) → is_named n w ≡ false → member w given ≡ false → member w (with_name n given) ≡ false
not_now None given w e m = m
not_now (Some v) given w e m = let q : eq_bytes w v ≡ false = bytes_flip w v ∙ e in rw (q, m)

still_given : (n : Option (List ℕ)) (given : List (List ℕ)) (w : List ℕ) → member w given ≡ true → member w (with_name n given) ≡ true
still_given None given w m = m
still_given (Some v) given w m = or_true (eq_bytes w v) m

place_now : (i : ℕ) (w : List ℕ) (o : List Named) (os : List (List Named)) → is_named (insert_name o) w ≡ true → place_named i w (o ∷ os) ≡ Some i
unfolding place_named
place_now i w o os e = rw (place_named, e)

place_later : (i : ℕ) (w : List ℕ) (o : List Named) (os : List (List Named)) → is_named (insert_name o) w ≡ false → place_named i w (o ∷ os) ≡ place_named (i + 1) w os
unfolding place_named
place_later i w o os e = rw (place_named, e)

module _ (text : List ℕ) (ops : Option ℕ) where
  pub naming_first : (w : List ℕ) → Naming text ops [] 0 ops w
  naming_first w = ahead refl refl

  pub naming_earlier : {given : List (List ℕ)} {i : ℕ} {g : Option ℕ} (names : List ℕ) → ((w : List ℕ) → place_in text names w ≡ place_named 0 w (operations_at text ops)) → ((w : List ℕ) → Naming text ops given i g w) → Earlier text names i given
  unfolding Earlier found_before
  naming_earlier {given} {i} {g} names same t w = go (t w) ∙ ap (found_before i) (sym (same w))
    where
      go : Naming text ops given i g w → member w given ≡ found_before i (place_named 0 w (operations_at text ops))
      go (past k m p h) = m ∙ sym (ap (found_before i) p ∙ lt-ltb k i h)
      go (ahead m p) = m ∙ sym (ap (found_before i) p ∙ late i w (operations_at text g) i (omega arith))

  operations_next : {g : Option ℕ} {p : ℕ} → g ≡ Some p → operations_at text g ≡ members_in (tree_at text p) ∷ operations_at text (next_item text p)
  unfolding operations_at
  operations_next h = ap (map members_in) (walk_rest text h)

  pub naming_on : {given : List (List ℕ)} {i p : ℕ} {g : Option ℕ} → g ≡ Some p → ((w : List ℕ) → Naming text ops given i g w)
      → (w : List ℕ) → Naming text ops (with_name (insert_name (members_in (tree_at text p))) given) (i + 1) (next_item text p) w
  naming_on {given} {i} {p} {g} h t w = go (t w)
    where
      o : List Named
      o = members_in (tree_at text p)

      go : Naming text ops given i g w → Naming text ops (with_name (insert_name o) given) (i + 1) (next_item text p) w
      go (past k m q l) = past k (still_given (insert_name o) given w m) q (omega arith)
      go (ahead m q) = here (is_named (insert_name o) w) refl
        where
          here : (b : Bool) → is_named (insert_name o) w ≡ b → Naming text ops (with_name (insert_name o) given) (i + 1) (next_item text p) w
          here true e = past i (given_now (insert_name o) given w e) (q ∙ ap (place_named i w) (operations_next h) ∙ place_now i w o (operations_at text (next_item text p)) e) (omega arith)
          here false e = ahead (not_now (insert_name o) given w e m) (q ∙ ap (place_named i w) (operations_next h) ∙ place_later i w o (operations_at text (next_item text p)) e)

-- ── the next operation ──
abbrev pick : Bool → Ran → Ran → Ran
pick b x y = elim b [ true ↦ x | false ↦ y ]

id_at : (i : ℕ) (ids : List ℕ) → get_or (drop i ids) 0 0 ≡ get_or ids i 0
id_at i ids = let e : i + 0 ≡ i = omega arith in get_or-drop i ids 0 0 ∙ ap (λ k. get_or ids k 0) e

module _ (s : Schema) (names : Names) (given : List (List ℕ)) (ids : List ℕ) (rows : List Row) (o : List Named) (os : List (List Named)) where
  abbrev done_by : ℕ → model.Done
  done_by x = model.operate s names given x rows o

  abbrev next_by : ℕ → Ran
  next_by x = followed (done_by x).answer (run_all s names (with_name (insert_name o) given) (drop 1 ids) (done_by x).rows os)

  fine_first : is_fine (done_by (get_or ids 0 0)).fault ≡ true → run_all s names given ids rows (o ∷ os) ≡ next_by (get_or ids 0 0)
  fine_first f = ap (λ (b : Bool). pick b (next_by (get_or ids 0 0)) (stopped (done_by (get_or ids 0 0)).fault rows os)) f

  bad_first : is_fine (done_by (get_or ids 0 0)).fault ≡ false → run_all s names given ids rows (o ∷ os) ≡ stopped (done_by (get_or ids 0 0)).fault rows os
  bad_first f = ap (λ (b : Bool). pick b (next_by (get_or ids 0 0)) (stopped (done_by (get_or ids 0 0)).fault rows os)) f

  module _ {x : ℕ} (e : get_or ids 0 0 ≡ x) where
    next_fine : is_fine (done_by x).fault ≡ true → run_all s names given ids rows (o ∷ os) ≡ next_by x
    next_fine = subst (λ (x : ℕ). is_fine (done_by x).fault ≡ true → run_all s names given ids rows (o ∷ os) ≡ next_by x) e fine_first

    next_bad : is_fine (done_by x).fault ≡ false → run_all s names given ids rows (o ∷ os) ≡ stopped (done_by x).fault rows os
    next_bad = subst (λ (x : ℕ). is_fine (done_by x).fault ≡ false → run_all s names given ids rows (o ∷ os) ≡ stopped (done_by x).fault rows os) e bad_first

module _ (s : Schema) (text : List ℕ) (ops : Option ℕ) (names : List ℕ) where
  pub run_first : (rows : List Row) → run_whole s text ops names rows ≡ run_from s text names [] 0 rows ops
  unfolding run_whole run_from
  run_first rows = refl

  abbrev pub done : List (List ℕ) → ℕ → List Row → ℕ → model.Done
  done given i rows p = model.operate s (names_at text names) given (get_or (fresh_ids names) i 0) rows (members_in (tree_at text p))

  module _ (given : List (List ℕ)) (i : ℕ) (rows : List Row) {g : Option ℕ} where
    pub run_end : g ≡ None → run_from s text names given i rows g ≡ record { fault = Fine; rows = rows; results = [] }
    unfolding run_from operations_at
    run_end h = ap (λ l. run_all s (names_at text names) given (drop i (fresh_ids names)) rows (map members_in l)) (walk_end text h)

    module _ {p : ℕ} (h : g ≡ Some p) where
      next_is : run_from s text names given i rows g ≡ run_all s (names_at text names) given (drop i (fresh_ids names)) rows (members_in (tree_at text p) ∷ operations_at text (next_item text p))
      unfolding run_from
      next_is = ap (run_all s (names_at text names) given (drop i (fresh_ids names)) rows) (operations_next text ops h)

      pub run_fine : is_fine (done given i rows p).fault ≡ true
          → run_from s text names given i rows g ≡ followed (done given i rows p).answer (run_from s text names (with_name (insert_name (members_in (tree_at text p))) given) (i + 1) (done given i rows p).rows (next_item text p))
      unfolding run_from
      run_fine f =
          next_is
          ∙ next_fine s (names_at text names) given (drop i (fresh_ids names)) rows (members_in (tree_at text p)) (operations_at text (next_item text p)) (id_at i (fresh_ids names)) f
          ∙ ap (λ (ids : List ℕ). followed (done given i rows p).answer (run_all s (names_at text names) (with_name (insert_name (members_in (tree_at text p))) given) ids (done given i rows p).rows (operations_at text (next_item text p)))) (drop-drop 1 i (fresh_ids names))

      pub run_bad : is_fine (done given i rows p).fault ≡ false → run_from s text names given i rows g ≡ stopped (done given i rows p).fault rows (operations_at text (next_item text p))
      run_bad f = next_is ∙ next_bad s (names_at text names) given (drop i (fresh_ids names)) rows (members_in (tree_at text p)) (operations_at text (next_item text p)) (id_at i (fresh_ids names)) f

-- the results of operations that are stopped
pub stopped_text : (text : List ℕ) (f : Fault) (rows : List Row) (g : Option ℕ) (first : Bool)
    → joined first (stopped f rows (operations_at text g)).results ≡ comma_text first ++ (error_result f ++ joined false (nulls_from text g))
unfolding error_result nulls_from null_text operations_at
stopped_text text f rows g first = ap (λ l. comma_text first ++ (error_text f ++ joined false l)) (nulls (items_from text g))
  where
    nulls : (l : List Json) → map (λ (o : List Named). ascii "null") (map members_in l) ≡ map (λ (j : Json). ascii "null") l
    nulls [] = refl
    nulls (j ∷ js) = ap (λ l. ascii "null" ∷ l) (nulls js)
