-- Where commits end among the records of a history. Assumes nothing.
use Rattle.std.specs.Prelude.{Option, Some, None}
use mathlib.Core.Path.{◌≡◌, refl, ◌∙◌}
use mathlib.Core.Bool.{Bool, true, false}
use mathlib.Core.List.{List, [], ◌∷◌, ◌++◌}
use Prim.Native.Nat.{ℕ, zero, suc, ◌+◌, ◌-◌, ◌≤◌, ◌<◌}
use native.Mathlib.Omega.{arith}
use borrow.Author.Tests.{ltb-true, ltb-false}
use lib.Dec.{ltb}
use lib.ListN.{length, get_or, take, length-append, get_or-append}
use lib.Seq.{get_or-append-add, take-append-add}
use Rattle.model.specs.Schema.{Schema}
use Rattle.model.specs.Value.{Value, same_value}
use Rattle.model.specs.Rows.{Row, key, has, find, initials}
use Rattle.model.specs.Records.{Change, end, gones, writes, row_writes, walk, closed, never, is_end}
use Rattle.model.proofs.StateHistory.{State, Call, transact, ask_mark, room, changes_of, state_after, finally, changes}
use Rattle.model.proofs.StateDemand.{ends_at, Keeps}
use Rattle.model.proofs.Tests.{split, clash}

-- no end among them
abbrev NoEnd : List Change → Type 0
NoEnd [] = Unit
NoEnd (e ∷ es) = (is_end e ≡ false) × NoEnd es

no_append : (es fs : List Change) → NoEnd es → NoEnd fs → NoEnd (es ++ fs)
no_append [] fs h k = k
no_append (e ∷ es) fs h k = (h.0, no_append es fs h.1 k)

no_gones : (after rows : List Row) → NoEnd (gones after rows)
no_gones after [] = tt
no_gones after (r ∷ rs) = split (has (key r) after) (λ e. rw e (no_gones after rs)) (λ e. rw e (refl, no_gones after rs))

no_writes : (skip : Value → Value → Bool) (t i c : ℕ) (vs ws : List Value) → NoEnd (writes skip t i c vs ws)
no_writes skip t i c [] [] = tt
no_writes skip t i c [] (w ∷ ws) = tt
no_writes skip t i c (v ∷ vs) [] = tt
no_writes skip t i c (v ∷ vs) (w ∷ ws) = split (skip v w) (λ e. rw e (no_writes skip t i (suc c) vs ws)) (λ e. rw e (refl, no_writes skip t i (suc c) vs ws))

no_row : (s : Schema) (o : Option Row) (r : Row) → NoEnd (row_writes s o r)
no_row s None r = (refl, no_writes never r.table r.id 0 (initials s r.table) r.columns)
no_row s (Some p) r = no_writes same_value r.table r.id 0 p.columns r.columns

no_walk : (s : Schema) (before rows : List Row) → NoEnd (walk s before rows)
no_walk s before [] = tt
no_walk s before (r ∷ rs) = no_append (row_writes s (find (key r) before) r) (walk s before rs) (no_row s (find (key r) before) r) (no_walk s before rs)

-- an end is the last
no_at : (es : List Change) (k : ℕ) → NoEnd es → k < length es → is_end (get_or es k end) ≡ false
no_at [] k h l = absurd (omega arith)
no_at (e ∷ es) zero h l = h.0
no_at (e ∷ es) (suc k) h l = no_at es k h.1 (omega arith)

closed_last : (es : List Change) → NoEnd es → (k : ℕ) → k < length (closed es) → is_end (get_or (closed es) k end) ≡ true → suc k ≡ length (closed es)
closed_last [] h k l e = absurd (omega arith)
closed_last (x ∷ es) h k l e = split (ltb k (length (x ∷ es)))
    (λ p.
    let i = ltb-true k (length (x ∷ es)) p in
    absurd (clash (is_end (get_or (x ∷ es) k end)) (rw (get_or-append (x ∷ es) (end ∷ []) end k i) at e) (no_at (x ∷ es) k h i)))
    (λ p. omega (arith, ltb-false k (length (x ∷ es)) p, length-append (x ∷ es) (end ∷ [])))

module _ (s : Schema) (run : ℕ) where
  call_last : (st : State) (c : Call) (k : ℕ) → k < length (changes_of s run st c) → is_end (get_or (changes_of s run st c) k end) ≡ true → suc k ≡ length (changes_of s run st c)
  call_last st (transact f) k =
      let after : List Row = f st.rows in
      let none_inside = no_append (gones after st.rows) (walk s st.rows after) (no_gones after st.rows) (no_walk s st.rows after) in
      split (room s run st f) (λ e. rw e (closed_last (gones after st.rows ++ walk s st.rows after) none_inside k)) (λ e. rw e (λ l q. absurd (omega arith)))
  call_last st ask_mark k = λ l e. absurd (omega arith)

  -- a number that ends a commit is the store's after some call
  pub commit_at : (st : State) (cs : List Call) (n : ℕ) → n ≤ length (changes s run st cs) → ends_at (changes s run st cs) n ≡ true
      → (j : ℕ) × (j ≤ length cs) × (length (changes s run st (take j cs)) ≡ n)
  commit_at st [] zero h e = (0, omega arith, refl)
  commit_at st [] (suc k) h e = absurd (omega arith)
  commit_at st (c ∷ cs) zero h e = (0, omega arith, refl)
  commit_at st (c ∷ cs) (suc k) h e = go (λ n. commit_at (state_after s run st c) cs n) (ltb k (length (changes_of s run st c))) refl
    where
      D : List Change
      D = changes_of s run st c

      R : List Change
      R = changes s run (state_after s run st c) cs

      up : k ≡ length D + (k - length D) → (j : ℕ) × (j ≤ length cs) × (length (changes s run (state_after s run st c) (take j cs)) ≡ suc (k - length D))
          → (j : ℕ) × (j ≤ length (c ∷ cs)) × (length (changes s run st (take j (c ∷ cs))) ≡ suc k)
      up q r = (suc r.0, omega arith, simp length-append (omega arith))

      go : ((n : ℕ) → n ≤ length R → ends_at R n ≡ true → (j : ℕ) × (j ≤ length cs) × (length (changes s run (state_after s run st c) (take j cs)) ≡ n))
          → (b : Bool) → ltb k (length D) ≡ b → (j : ℕ) × (j ≤ length (c ∷ cs)) × (length (changes s run st (take j (c ∷ cs))) ≡ suc k)
      go ih true p =
          let i = ltb-true k (length D) p in
          let q = call_last st c k i (rw (get_or-append D R end k i) at e) in
          (1, omega arith, simp length-append (omega arith))
      go ih false p =
          let i = ltb-false k (length D) p in
          let q : k ≡ length D + (k - length D) = omega arith in
          let e' : is_end (get_or (D ++ R) (length D + (k - length D)) end) ≡ true = rw q at e in
          up q (ih (suc (k - length D)) (omega (arith, length-append D R)) (rw (get_or-append-add D R (k - length D) end) at e'))

  pub changes_take : (st : State) (cs : List Call) (j : ℕ) → take (length (changes s run st (take j cs))) (changes s run st cs) ≡ changes s run st (take j cs)
  changes_take st cs zero = refl
  changes_take st [] (suc j) = refl
  changes_take st (c ∷ cs) (suc j) =
      rw (length-append (changes_of s run st c) (changes s run (state_after s run st c) (take j cs)), take-append-add (changes_of s run st c) (changes s run (state_after s run st c) cs) (length (changes s run (state_after s run st c) (take j cs))), changes_take (state_after s run st c) cs j)

  pub last_is : (st : State) (cs : List Call) → (finally s run st cs).last ≡ st.last + length (changes s run st cs)
  last_is st [] = omega arith
  last_is st (c ∷ cs) = last_is (state_after s run st c) cs ∙ simp length-append (omega arith)

pub keeps_take : (s : Schema) (cs : List Call) (j : ℕ) → Keeps s cs → Keeps s (take j cs)
keeps_take s [] zero k = tt
keeps_take s [] (suc j) k = tt
keeps_take s (transact f ∷ cs) zero k = tt
keeps_take s (transact f ∷ cs) (suc j) k = (k.0, keeps_take s cs j k.1)
keeps_take s (ask_mark ∷ cs) zero k = tt
keeps_take s (ask_mark ∷ cs) (suc j) k = keeps_take s cs j k
