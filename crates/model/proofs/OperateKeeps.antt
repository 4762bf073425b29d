-- An operation without a fault keeps what holds of working rows: they are in order, and every value meets its type. Assumes nothing.
use Rattle.std.specs.Prelude.{Option, Some, None}
use Rattle.std.proofs.lemmas.Option.{none-some}
use mathlib.Core.Path.{◌≡◌, refl}
use mathlib.Core.Bool.{Bool, true, false, not}
use mathlib.Core.List.{List, [], ◌∷◌, map}
use mathlib.Core.Logic.{inl, inr}
use Prim.Native.Nat.{ℕ, suc, ◌^◌, ◌≤◌, ◌<◌}
use native.Mathlib.Omega.{arith}
use borrow.Author.Tests.{lt-ltb, ltb-true, eqb-true}
use lib.Dec.{eqb, ltb}
use lib.ListN.{length, length-map}
use Rattle.model.specs.Octets.{eq_bytes}
use Rattle.model.specs.Base.{all, place_of, nth, ascii}
use Rattle.model.specs.Limits.{most_rows}
use Rattle.model.specs.Json.{Json, Named}
use Rattle.model.proofs.GoodTexts.{texts_good}
use Rattle.model.specs.Schema.{Column, Table, Schema, columns_of, table_named}
use Rattle.model.specs.SchemaText.{only}
use Rattle.model.specs.Value.{Value, elements, blank, atom_in_limits, all_in_limits, meets, initial}
use Rattle.model.specs.Rows.{Row, has_id}
use Rattle.model.proofs.Order.{Fine as FineRow, Good, Meets, AllMeet}
use Rattle.model.specs.Faults.{is_fine, worst, check, Judged}
use Rattle.model.specs.Written.{Names, string_in, array_in, object_in, member_named}
use Rattle.model.specs.Conditions.{Test, holds, matches}
use Rattle.model.specs.Mutations.{Mutation, read_mutations, steps}
use Rattle.model.specs.Operations.{member_as, table_in, known_names, value_written, column_written, columns_written, row_of, read_row, default_fault, immutable_fault, no_fault, assigned, read_where, Done, failed, name_fault, run_insert, run_select, update_row, run_update, mutate_row, mutate_rows, read_mutation_list, run_mutate, run_delete, run_abort, on_table, perform, operate}
use Rattle.model.specs.declared.Fault.{Fault}
use Rattle.model.specs.declared.Fault.TheVariants.{Fine, Syntax, Resources, Constraint}
use Rattle.model.proofs.SchemaLaws.{column_at}
use Rattle.model.proofs.Tests.{split, clash, and_l}
use Rattle.model.proofs.Canonical.{initial_meets}
use Rattle.model.proofs.FaultLaws.{earlier_fine, worst_fine, then_fine, check_true}
use Rattle.model.proofs.WrittenLaws.{then_some, either, named_good, array_good, object_good, find_good, member_good, value_meets}
use Rattle.model.proofs.StepLaws.{AllReadWell, Stays, steps_stay, mutations_well}
use Rattle.model.proofs.RowLaws.{Keeps, meets_typed, same_keeps, keep_keeps, add_keeps, AllStay, stay_keeps}

-- ── what is supposed ──
-- the columns of a schema that is accepted: "min 0 or 1, max from 1"
abbrev pub Modest : Schema → Type 0
Modest s = (t k : ℕ) (c : Column) → column_at s t k ≡ Some c → (c.min ≤ 1) × (1 ≤ c.max)

-- a fresh id that may be used: not zero, of 16 bytes, and no row's
pub record Fresh (i : ℕ) (rows : List Row) : Type 0 where
  pub is_some_id : eqb i 0 ≡ false
  pub short : i < 256 ^ 16
  pub new : has_id i rows ≡ false

-- ── a row as written ──
-- where nothing is written and that is no fault, the value that stands there meets its type
abbrev Else : (Column → Fault) → List Column → List Value → Type 0
Else absent [] [] = Unit
Else absent [] (v ∷ vs) = ⊥
Else absent (c ∷ cs) [] = ⊥
Else absent (c ∷ cs) (v ∷ vs) = (is_fine (absent c) ≡ true → meets c v ≡ true) × Else absent cs vs

else_meets : (absent : Column → Fault) (cs : List Column) (vs : List Value) → Meets cs vs → Else absent cs vs
else_meets absent [] [] h = tt
else_meets absent [] (v ∷ vs) h = h
else_meets absent (c ∷ cs) [] h = h
else_meets absent (c ∷ cs) (v ∷ vs) h = (λ f. h.0, else_meets absent cs vs h.1)

default_meets : (c : Column) → c.min ≤ 1 → 1 ≤ c.max → is_fine (default_fault c) ≡ true → meets c (initial c) ≡ true
default_meets c low high f = initial_meets c low high (split (eqb c.min 0) (λ e. inl (eqb-true c.min 0 e)) (λ e. inr (blank_in e)))
  where
    within : all_in_limits c (elements (initial c)) ≡ true
    within = check_true (all_in_limits c (elements (initial c))) Constraint refl f

    blank_in : eqb c.min 0 ≡ false → atom_in_limits c c.base blank ≡ true
    blank_in e = and_l (atom_in_limits c c.base blank) true (rw e at within)

else_initial : (cs : List Column) → ((k : ℕ) (c : Column) → nth cs k ≡ Some c → (c.min ≤ 1) × (1 ≤ c.max)) → Else default_fault cs (map initial cs)
else_initial [] h = tt
else_initial (c ∷ cs) h = (default_meets c (h 0 c refl).0 (h 0 c refl).1, else_initial cs (λ k x e. h (suc k) x e))

module _ (names : Names) (absent named : Column → Fault) where
  columns_meet : (cs : List Column) (ms : List Named) (vs : List Value) → all named_good ms ≡ true → Else absent cs vs → is_fine (columns_written names absent named cs ms).fault ≡ true
      → Meets cs (assigned (columns_written names absent named cs ms).got vs)
  columns_meet [] ms [] h d f = tt
  columns_meet [] ms (v ∷ vs) h d f = d
  columns_meet (c ∷ cs) ms [] h d f = d
  columns_meet (c ∷ cs) ms (v ∷ vs) h d f =
      let p = earlier_fine (column_written names absent named c (member_named c.name ms)).fault (columns_written names absent named cs ms).fault f in
      go (member_named c.name ms) refl p.0 (columns_meet cs ms vs h d.1 p.1)
    where
      go : (o : Option Json) → member_named c.name ms ≡ o → is_fine (column_written names absent named c o).fault ≡ true → Meets cs (assigned (columns_written names absent named cs ms).got vs)
          → Meets (c ∷ cs) (assigned ((column_written names absent named c o).got ∷ (columns_written names absent named cs ms).got) (v ∷ vs))
      go None e g rest = (d.0 g, rest)
      go (Some j) e g rest = (value_meets names c j (find_good c.name ms j h e) (earlier_fine (value_written names c j).fault (named c) g).0, rest)

  row_meets_lem : (cs : List Column) (ms : List Named) → all named_good ms ≡ true → is_fine (read_row names absent named cs ms).fault ≡ true
      → (vs : List Value) → Else absent cs vs → Meets cs (assigned (read_row names absent named cs ms).got vs)
  row_meets_lem cs ms h f = go (member_as object_in (ascii "row") ms) refl f
    where
      good : (r : List Named) → member_as object_in (ascii "row") ms ≡ Some r → all named_good r ≡ true
      good r e = let p = member_good object_in (ascii "row") ms r h e in object_good p.0 r p.1 p.2

      go : (o : Option (List Named)) → member_as object_in (ascii "row") ms ≡ o
          → let q : Judged (List (Option Value)) = elim o [ None ↦ record { fault = Syntax; got = [] } | Some r ↦ row_of names absent named cs r ] in
          is_fine q.fault ≡ true → (vs : List Value) → Else absent cs vs → Meets cs (assigned q.got vs)
      go None e g = absurd (clash false g refl)
      go (Some r) e g = λ vs d. columns_meet cs r vs (good r e) d (earlier_fine (check (known_names cs r) Syntax Fine) (columns_written names absent named cs r).fault g).1

-- ── the table ──
place_below : (w : List ℕ) (ws : List (List ℕ)) (k : ℕ) → place_of w ws ≡ Some k → k < length ws
place_below w [] k e = absurd (none-some k e)
place_below w (x ∷ ws) k e = go (place_below w ws) (eq_bytes w x) (place_of w ws) refl e
  where
    go : ((n : ℕ) → place_of w ws ≡ Some n → n < length ws) → (b : Bool) (o : Option ℕ) → place_of w ws ≡ o
        → elim b [ true ↦ Some 0 | false ↦ elim o [ None ↦ None | Some n ↦ Some (suc n) ] ] ≡ Some k → k < suc (length ws)
    go rest true o p q = let z : 0 ≡ k = cc in omega arith
    go rest false None p q = absurd (none-some k q)
    go rest false (Some n) p q = let z : suc n ≡ k = cc in omega (arith, rest n p)

pub table_below : (s : Schema) (ms : List Named) (t : ℕ) → table_in s ms ≡ Some t → t < length s
table_below s ms t e =
    let p = then_some (member_as string_in (ascii "table") ms) (table_named s) t e in
    omega (arith, place_below p.0 (map (λ (x : Table). x.name) s) t p.2, length-map s (λ (x : Table). x.name))

-- ── the operations on a table ──
module _ (s : Schema) (names : Names) (i : ℕ) (rows : List Row) (g : Good s rows) (m : AllMeet s rows) where
  -- what is to be shown of an operation
  abbrev Kept : Done → Type 0
  Kept d = is_fine d.fault ≡ true → Keeps s i rows d.rows

  insert_keeps : (given : List (List ℕ)) (ms : List Named) (t : ℕ) → Modest s → Fresh i rows → all named_good ms ≡ true → t < length s → Kept (run_insert names given i rows ms t (columns_of s t))
  insert_keeps given ms t modest new h l f =
      let cs : List Column = columns_of s t in
      let r : Judged (List (Option Value)) = read_row names default_fault no_fault cs ms in
      let fs =
      worst_fine
      (check (only (ascii "op" ∷ ascii "table" ∷ ascii "row" ∷ ascii "uuid-name" ∷ []) ms) Syntax Fine
      ∷ r.fault
      ∷ check (ltb (length rows) most_rows) Resources Fine
      ∷ name_fault given (member_named (ascii "uuid-name") ms)
      ∷ [])
      f in
      let v : Meets cs (assigned r.got (map initial cs)) =
      row_meets_lem names default_fault no_fault cs ms h fs.1.0 (map initial cs) (else_initial cs (λ k c e. modest t k c e)) in
      let few : length rows < 32 = ltb-true (length rows) 32 (check_true (ltb (length rows) most_rows) Resources refl fs.1.1.0) in
      let row : Row = record { table = t; id = i; columns = assigned r.got (map initial cs) } in
      let fine : FineRow s row = record { here = rw (lt-ltb t (length s) l, new.is_some_id, lt-ltb i (256 ^ 16) new.short); short = new.short; typed = meets_typed cs row.columns v } in
      add_keeps s row rows fine v new.new few g m

  -- a row that matches is of the table
  of_table_lem : (t : ℕ) (ts : List Test) (r : Row) → matches t ts r ≡ true → t ≡ r.table
  of_table_lem t ts r e = eqb-true t r.table (and_l (eqb t r.table) (all (holds r) ts) e)

  update_stay : (t : ℕ) (ts : List Test) (os : List (Option Value)) → ((vs : List Value) → Meets (columns_of s t) vs → Meets (columns_of s t) (assigned os vs)) → (rs : List Row) → AllMeet s rs
      → AllStay s rs (map (update_row (matches t ts) os) rs)
  update_stay t ts os ok [] k = tt
  update_stay t ts os ok (r ∷ rs) k = (one, update_stay t ts os ok rs k.1)
    where
      one : Stays (columns_of s r.table) r (update_row (matches t ts) os r)
      one = split (matches t ts r)
          (λ e.
          let u : t ≡ r.table = of_table_lem t ts r e in
          let q : Meets (columns_of s r.table) (assigned os r.columns) = rw (← u) (ok r.columns (rw u k.0)) in
          rw e (record { table = refl; id = refl; meets = q }))
          (λ e. rw e (record { table = refl; id = refl; meets = k.0 }))

  update_keeps : (ms : List Named) (t : ℕ) → all named_good ms ≡ true → Kept (run_update names rows ms t (columns_of s t))
  update_keeps ms t h f =
      let cs : List Column = columns_of s t in
      let w : Judged (List Test) = read_where names cs ms in
      let v : Judged (List (Option Value)) = read_row names no_fault immutable_fault cs ms in
      let fs = worst_fine (check (only (ascii "op" ∷ ascii "table" ∷ ascii "where" ∷ ascii "row" ∷ []) ms) Syntax Fine ∷ w.fault ∷ v.fault ∷ []) f in
      stay_keeps s i rows (map (update_row (matches t w.got) v.got) rows) g
      (update_stay t w.got v.got (λ vs k. row_meets_lem names no_fault immutable_fault cs ms h fs.1.1.0 vs (else_meets no_fault cs vs k)) rows m)

  mutate_stay : (t : ℕ) (ts : List Test) (ms : List Mutation) → AllReadWell (columns_of s t) ms → (rs : List Row) → AllMeet s rs → is_fine (mutate_rows (matches t ts) ms rs).fault ≡ true
      → AllStay s rs (mutate_rows (matches t ts) ms rs).got
  mutate_stay t ts ms w [] k f = tt
  mutate_stay t ts ms w (r ∷ rs) k f =
      let p = then_fine (mutate_row (matches t ts) ms r).fault (mutate_rows (matches t ts) ms rs).fault f in
      (one (matches t ts r) refl p.0, mutate_stay t ts ms w rs k.1 p.1)
    where
      one : (b : Bool) → matches t ts r ≡ b → let q : Judged Row = elim b [ true ↦ steps ms r | false ↦ record { fault = Fine; got = r } ] in
          is_fine q.fault ≡ true → Stays (columns_of s r.table) r q.got
      one true e n = let u : t ≡ r.table = of_table_lem t ts r e in steps_stay (columns_of s r.table) ms r (rw u at w) k.0 n
      one false e n = record { table = refl; id = refl; meets = k.0 }

  mutations_read : (ms : List Named) (cs : List Column) → all named_good ms ≡ true → is_fine (read_mutation_list names cs ms).fault ≡ true → AllReadWell cs (read_mutation_list names cs ms).got
  mutations_read ms cs h f = go (member_as array_in (ascii "mutations") ms) refl f
    where
      good : (l : List Json) → member_as array_in (ascii "mutations") ms ≡ Some l → all texts_good l ≡ true
      good l e = let p = member_good array_in (ascii "mutations") ms l h e in array_good p.0 l p.1 p.2

      go : (o : Option (List Json)) → member_as array_in (ascii "mutations") ms ≡ o
          → let q : Judged (List Mutation) = elim o [ None ↦ record { fault = Syntax; got = [] } | Some l ↦ read_mutations names cs l ] in
          is_fine q.fault ≡ true → AllReadWell cs q.got
      go None e n = absurd (clash false n refl)
      go (Some l) e n = mutations_well names cs l (good l e) n

  mutate_keeps : (ms : List Named) (t : ℕ) → all named_good ms ≡ true → Kept (run_mutate names rows ms t (columns_of s t))
  mutate_keeps ms t h f =
      let cs : List Column = columns_of s t in
      let w : Judged (List Test) = read_where names cs ms in
      let u : Judged (List Mutation) = read_mutation_list names cs ms in
      let l : List Fault = check (only (ascii "op" ∷ ascii "table" ∷ ascii "where" ∷ ascii "mutations" ∷ []) ms) Syntax Fine ∷ w.fault ∷ u.fault ∷ [] in
      let q : Judged (List Row) = mutate_rows (matches t w.got) u.got rows in
      let p = then_fine (worst l) q.fault f in
      let fs = worst_fine l p.0 in
      stay_keeps s i rows q.got g (mutate_stay t w.got u.got (mutations_read ms cs h fs.1.1.0) rows m p.1)

  delete_keeps : (ms : List Named) (t : ℕ) → Kept (run_delete names rows ms t (columns_of s t))
  delete_keeps ms t f = keep_keeps (λ (r : Row). not (matches t (read_where names (columns_of s t) ms).got r)) s i rows g m

  select_keeps : (ms : List Named) (t : ℕ) → Kept (run_select names rows ms t (columns_of s t))
  select_keeps ms t f = same_keeps s i rows g m

  failed_keeps : (d : Done) → is_fine d.fault ≡ false → Kept d
  failed_keeps d n f = absurd (clash (is_fine d.fault) f n)

  abort_keeps : (ms : List Named) → Kept (run_abort rows ms)
  abort_keeps ms = failed_keeps (run_abort rows ms) (split (only (ascii "op" ∷ []) ms) (λ e. rw e) (λ e. rw e))

  on_keeps : (f : ℕ → List Column → Done) (ms : List Named) → ((t : ℕ) → t < length s → Kept (f t (columns_of s t))) → Kept (on_table s f rows (table_in s ms))
  on_keeps f ms k = go (table_in s ms) refl
    where
      go : (o : Option ℕ) → table_in s ms ≡ o → Kept (on_table s f rows o)
      go None e = failed_keeps (failed Syntax rows) refl
      go (Some t) e = k t (table_below s ms t e)

  -- ── any operation ──
  pub operate_keeps : (given : List (List ℕ)) (ms : List Named) → Modest s → Fresh i rows → all named_good ms ≡ true → is_fine (operate s names given i rows ms).fault ≡ true
      → Keeps s i rows (operate s names given i rows ms).rows
  operate_keeps given ms modest new h = go (member_as string_in (ascii "op") ms)
    where
      go : (o : Option (List ℕ)) → Kept (perform s names given i rows ms o)
      go None = failed_keeps (failed Syntax rows) refl
      go (Some w) =
          either Kept (eq_bytes w (ascii "insert")) (on_keeps (run_insert names given i rows ms) ms (λ t l. insert_keeps given ms t modest new h l))
          (either Kept (eq_bytes w (ascii "select")) (on_keeps (run_select names rows ms) ms (λ t l. select_keeps ms t))
          (either Kept (eq_bytes w (ascii "update")) (on_keeps (run_update names rows ms) ms (λ t l. update_keeps ms t h))
          (either Kept (eq_bytes w (ascii "mutate")) (on_keeps (run_mutate names rows ms) ms (λ t l. mutate_keeps ms t h))
          (either Kept (eq_bytes w (ascii "delete")) (on_keeps (run_delete names rows ms) ms (λ t l. delete_keeps ms t))
          (either Kept (eq_bytes w (ascii "comment")) (λ f. same_keeps s i rows g m)
          (either Kept (eq_bytes w (ascii "abort")) (abort_keeps ms) (failed_keeps (failed Syntax rows) refl)))))))
