-- A history's records: each fits, they make the store's rows, and what is written is one of them under its number, or a mark. Assumes nothing.
use mathlib.Core.Path.{◌≡◌, refl, sym, ◌∙◌}
use mathlib.Core.Logic.{◌⊎◌, inl, inr}
use mathlib.Core.Bool.{true}
use mathlib.Core.List.Memᴰ
use mathlib.Core.List.{List, [], ◌∷◌, ◌++◌, map, Memᴰ}
use Prim.Native.Nat.{ℕ, zero, suc, ◌+◌, ◌≤◌, ◌<◌}
use native.Mathlib.Omega.{arith}
use borrow.Author.Tests.{leb-true}
use lib.ListN.{length, get_or, take, length-append, get_or-append}
use lib.Seq.{get_or-append-add}
use Rattle.model.specs.Limits.{last_number}
use Rattle.model.specs.Schema.{Schema}
use Rattle.model.specs.Rows.{Row}
use Rattle.model.specs.Records.{Change, end, act, acts, fits, sound, diff, Record, numbered, mark, encode, number_from}
use Rattle.model.proofs.Order.{Good}
use Rattle.model.proofs.StateHistory.{State, Call, transact, ask_mark, room, changes_of, rows_after, state_after, records_of, finally, changes, records}
use Rattle.model.proofs.StateDemand.{Keeps}
use Rattle.model.proofs.Tests.{split}
use Rattle.model.proofs.Chain.{Chain, chain_append}
use Rattle.model.proofs.Heart.{heart}

-- of a list of records that fit one after another, each is sound and fits what those before it made
pub chain_at : (s : Schema) (es : List Change) (b a : List Row) → Chain s es b a → (j : ℕ) → j < length es
    → (sound s (get_or es j end) ≡ true) × (fits (get_or es j end) (acts s (take j es) b) ≡ true)
chain_at s [] b a h j l = absurd (omega arith)
chain_at s (e ∷ es) b a h zero l = (h.0, h.1)
chain_at s (e ∷ es) b a h (suc j) l = chain_at s es (act s e b) a h.2 j (omega arith)

pub acts_next : (s : Schema) (es : List Change) (b : List Row) (j : ℕ) → j < length es → acts s (take (suc j) es) b ≡ act s (get_or es j end) (acts s (take j es) b)
acts_next s [] b j l = absurd (omega arith)
acts_next s (e ∷ es) b zero l = refl
acts_next s (e ∷ es) b (suc j) l = acts_next s es (act s e b) j (omega arith)

module _ (s : Schema) (run : ℕ) where
  good_after : (st : State) (c : Call) (cs : List Call) → Keeps s (c ∷ cs) → Good s st.rows → Good s (rows_after s run st c)
  good_after st (transact f) cs k g = split (room s run st f) (λ e. rw e (k.0 st.rows g)) (λ e. rw e g)
  good_after st ask_mark cs k g = g

  keeps_rest : (c : Call) (cs : List Call) → Keeps s (c ∷ cs) → Keeps s cs
  keeps_rest (transact f) cs k = k.1
  keeps_rest ask_mark cs k = k

  call_chain : (st : State) (c : Call) (cs : List Call) → Keeps s (c ∷ cs) → Good s st.rows → Chain s (changes_of s run st c) st.rows (rows_after s run st c)
  call_chain st (transact f) cs k g = split (room s run st f) (λ e. rw e (heart s st.rows (f st.rows) g (k.0 st.rows g))) (λ e. rw e refl)
  call_chain st ask_mark cs k g = refl

  pub past_chain : (st : State) (cs : List Call) → Keeps s cs → Good s st.rows → Chain s (changes s run st cs) st.rows (finally s run st cs).rows
  past_chain st [] k g = refl
  past_chain st (c ∷ cs) k g =
      chain_append s (changes_of s run st c) (changes s run (state_after s run st c) cs) st.rows (rows_after s run st c) (finally s run st (c ∷ cs)).rows
      (call_chain st c cs k g) (past_chain (state_after s run st c) cs (keeps_rest c cs k) (good_after st c cs k g))

  -- the numbers stay in 32 bits
  pub call_room : (st : State) (c : Call) → st.last ≤ last_number → st.last + length (changes_of s run st c) ≤ last_number
  call_room st (transact f) h = split (room s run st f) (λ e. rw e (leb-true (st.last + length (diff s st.rows (f st.rows))) last_number e)) (λ e. rw e (omega arith))
  call_room st ask_mark h = omega arith

  pub past_room : (st : State) (cs : List Call) → st.last ≤ last_number → st.last + length (changes s run st cs) ≤ last_number
  past_room st [] h = omega arith
  past_room st (c ∷ cs) h =
      let z = past_room (state_after s run st c) cs (call_room st c h) in
      simp length-append (omega arith)

-- what a history writes, where `base` records went before it
pub data Issued (run base : ℕ) (es : List Change) : Record → Type 0 where
  tell_mark : (k : ℕ) → k ≤ base + length es → Issued run base es (mark run k)
  tell : (j k : ℕ) (e : Change) → j < length es → k ≡ suc (base + j) → e ≡ get_or es j end → Issued run base es (numbered run k e)

issued_left : (run base : ℕ) (es fs : List Change) {l : Record} → Issued run base es l → Issued run base (es ++ fs) l
issued_left run base es fs (tell_mark k h) = tell_mark k (simp length-append (omega arith))
issued_left run base es fs (tell j k e h p q) = tell j k e (simp length-append (omega arith)) p (q ∙ sym (get_or-append es fs end j h))

issued_right : (run base : ℕ) (es fs : List Change) {l : Record} → Issued run (base + length es) fs l → Issued run base (es ++ fs) l
issued_right run base es fs (tell_mark k h) = tell_mark k (simp length-append (omega arith))
issued_right run base es fs (tell j k e h p q) = tell (length es + j) k e (simp length-append (omega arith)) (omega arith) (q ∙ sym (get_or-append-add es fs j end))

issued_number : (run base : ℕ) (es : List Change) (l : Record) → Memᴰ l (number_from run base es) → Issued run base es l
issued_number run base [] l m = absurd (Memᴰ.not-nil m)
issued_number run base (e ∷ es) l m = go (issued_number run (suc base) es l) (Memᴰ.cases_cons m)
  where
    behind : {l' : Record} → Issued run (suc base) es l' → Issued run base (e ∷ es) l'
    behind (tell_mark k h) = tell_mark k (omega arith)
    behind (tell j k x h p q) = tell (suc j) k x (omega arith) (omega arith) q

    go : (Memᴰ l (number_from run (suc base) es) → Issued run (suc base) es l) → (l ≡ numbered run (suc base) e) ⊎ Memᴰ l (number_from run (suc base) es) → Issued run base (e ∷ es) l
    go ih (inl p) = rw p (tell 0 (suc base) e (omega arith) (omega arith) refl)
    go ih (inr h) = behind (ih h)

module _ (s : Schema) (run : ℕ) where
  issued_call : (st : State) (c : Call) (l : Record) → Memᴰ l (records_of s run st c) → Issued run st.last (changes_of s run st c) l
  issued_call st (transact f) l m = issued_number run st.last (changes_of s run st (transact f)) l m
  issued_call st ask_mark l m = rw (Memᴰ.eq_of_singleton m) (tell_mark st.last (omega arith))

  pub issued : (st : State) (cs : List Call) (l : Record) → Memᴰ l (records s run st cs) → Issued run st.last (changes s run st cs) l
  issued st [] l m = absurd (Memᴰ.not-nil m)
  issued st (c ∷ cs) l m = go (issued (state_after s run st c) cs l) (Memᴰ.append_cases (records_of s run st c) m)
    where
      go : (Memᴰ l (records s run (state_after s run st c) cs) → Issued run (st.last + length (changes_of s run st c)) (changes s run (state_after s run st c) cs) l)
          → Memᴰ l (records_of s run st c) ⊎ Memᴰ l (records s run (state_after s run st c) cs) → Issued run st.last (changes s run st (c ∷ cs)) l
      go ih (inl h) = issued_left run st.last (changes_of s run st c) (changes s run (state_after s run st c) cs) (issued_call st c l h)
      go ih (inr h) = issued_right run st.last (changes_of s run st c) (changes s run (state_after s run st c) cs) (ih h)

-- what is written is the bytes of a record or mark
pub unmap : (ls : List Record) (x : List ℕ) → Memᴰ x (map encode ls) → (l : Record) × Memᴰ l ls × (x ≡ encode l)
unmap [] x m = absurd (Memᴰ.not-nil m)
unmap (l ∷ ls) x m = go (unmap ls x) (Memᴰ.cases_cons m)
  where
    go : (Memᴰ x (map encode ls) → (l' : Record) × Memᴰ l' ls × (x ≡ encode l')) → (x ≡ encode l) ⊎ Memᴰ x (map encode ls) → (l' : Record) × Memᴰ l' (l ∷ ls) × (x ≡ encode l')
    go ih (inl e) = (l, Memᴰ.head refl, e)
    go ih (inr h) = let r = ih h in (r.0, Memᴰ.tail r.1, r.2)
