-- Demand 3, proved: one claim about a whole history and a whole list of arrivals. Assumes nothing.
use Rattle.std.specs.Prelude.{Some}
use mathlib.Core.Path.{◌≡◌, refl, sym, ◌∙◌, ap}
use mathlib.Core.Logic.{◌⊎◌, inl, inr}
use mathlib.Core.Bool.{true, false, ◌&&◌, ◌||◌, or-true, or-false}
use mathlib.Core.List.{List, [], ◌∷◌, Memᴰ}
use Prim.Native.Nat.{ℕ, zero, suc, ◌^◌, ◌≤◌, ◌<◌, max}
use native.Mathlib.Nat.{zero-max}
use native.Mathlib.Omega.{arith}
use lib.Dec.{eqb}
use lib.ListN.{length, get_or, take}
use Rattle.model.specs.Schema.{Schema}
use Rattle.model.specs.Rows.{Row}
use Rattle.model.specs.Records.{Change, end, acts, sound, Record, numbered, mark, encode, decode}
use Rattle.model.proofs.Order.{Good}
use Rattle.model.specs.Mirror.{Mirror, fresh, step, highest, something}
use Rattle.model.proofs.StateDemand.{through, heard_of}
use Rattle.model.specs.Refusals.{is_refusal}
use Rattle.model.proofs.StateHistory.{empty, Call, finally, changes, records, written}
use Rattle.model.proofs.StateDemand.{Keeps, Arrive, Follows, Demand3}
use Rattle.model.proofs.Tests.{split, and_r}
use Rattle.model.proofs.Chain.{Chain}
use Rattle.model.proofs.Heart.{chain_acts}
use Rattle.model.proofs.Bytes.{decode_encode}
use Rattle.model.proofs.Past.{chain_at, past_chain, past_room, Issued, tell_mark, tell, issued, unmap}
use Rattle.model.proofs.Arrivals.{sound_fits, said, refused_same, Tells, Held, held_fresh, held_said, moves_said, heard_said}
use Rattle.model.proofs.Commits.{commit_at, changes_take, last_is, keeps_take}

pub good_empty : (s : Schema) → Good s []
good_empty s = record { sorted = tt; distinct = tt; fine = tt; few = omega arith }

module _ (s : Schema) (run : ℕ) (short : run < 256 ^ 4) (calls : List Call) (keeps : Keeps s calls) where
  R : List Change
  R = changes s run empty calls

  sent : List (List ℕ)
  sent = written s run empty calls

  F : List Row
  F = (finally s run empty calls).rows

  chain : Chain s R [] F
  unfolding R F
  chain = past_chain s run empty calls keeps (good_empty s)

  room : length R ≤ 4294967295
  unfolding R
  room = omega (arith, past_room s run empty calls (omega arith))

  Holds : Mirror → Type 0
  Holds m = Held s run R F chain m

  -- what is sent is read back as what the history wrote
  tells : (l : Record) → Issued run 0 R l → Tells run R l × (decode (encode l) ≡ Some l)
  tells l (tell_mark k h) = ((refl, omega arith), decode_encode (mark run k) (short, omega (arith, room)))
  tells l (tell j k e h p q) =
      let c : sound s e ≡ true = rw q (chain_at s R [] F chain j h).0 in
      ((refl, (j, h, omega arith, q)), decode_encode (numbered run k e) (short, omega (arith, room), sound_fits s e c))

  -- one arrival of what was sent
  of_record : (m : Mirror) (l : Record) (x : List ℕ) → Holds m → x ≡ encode l → Tells run R l → decode (encode l) ≡ Some l → Holds (step s run m x).next × (is_refusal (step s run m x).status ≡ false)
  unfolding Holds
  of_record m l x h p t d = rw (p, d) (held_said s run R F chain h t (said s run m (Some l)))

  of_sent : (m : Mirror) (x : List ℕ) → Holds m → Memᴰ x sent → Holds (step s run m x).next × (is_refusal (step s run m x).status ≡ false)
  unfolding sent R
  of_sent m x h b =
      let u = unmap (records s run empty calls) x b in
      let t = tells u.0 (issued s run empty calls u.0 u.1) in
      of_record m u.0 x h u.2 t.0 t.1

  -- all arrivals
  record Ran (m : Mirror) (xs : List (List ℕ)) : Type 0 where
    held : Holds (through s run m xs)
    top : (through s run m xs).top ≡ max m.top (highest (heard_of s run m xs))
    heard : (through s run m xs).heard ≡ (m.heard || something (heard_of s run m xs))

  ran_next : (m : Mirror) (x : List ℕ) (xs : List (List ℕ)) → Holds m → Ran (step s run m x).next xs → Ran m (x ∷ xs)
  unfolding Holds
  ran_next m x xs h r = split (is_refusal (step s run m x).status)
      (λ q.
      let e = refused_same (said s run m (decode x)) q in
      record {
        held = r.held;
        top = rw q (r.top ∙ ap (λ (z : Mirror). max z.top (highest (heard_of s run (step s run m x).next xs))) e);
        heard = rw q (r.heard ∙ ap (λ (z : Mirror). z.heard || something (heard_of s run (step s run m x).next xs)) e);
      })
      (λ q.
      let e = heard_said s run R F chain h (said s run m (decode x)) q in
      record {
        held = r.held;
        top = rw q (omega (arith, r.top, e.0));
        heard = rw q (r.heard ∙ rw e.1 (sym (or-true m.heard)));
      })

  ran : (m : Mirror) (xs : List (List ℕ)) → Holds m → Arrive s run sent m xs → Ran m xs
  ran m [] h a = record { held = h; top = omega arith; heard = sym (or-false m.heard) }
  ran m (x ∷ xs) h a = ran_next m x xs h (ran (step s run m x).next xs (go a.0) a.1)
    where
      go : Memᴰ x sent ⊎ (is_refusal (step s run m x).status ≡ true) → Holds (step s run m x).next
      go (inl b) = (of_sent m x h b).0
      go (inr q) = rw (refused_same (said s run m (decode x)) q) h

  -- the store's rows at a number are what the records up to it make
  at_number : (n j : ℕ) → (finally s run empty (take j calls)).last ≡ n → acts s (take n R) [] ≡ (finally s run empty (take j calls)).rows
  unfolding R
  at_number n j e =
      let q : n ≡ length (changes s run empty (take j calls)) = omega (arith, last_is s run empty (take j calls)) in
      rw (q, changes_take s run empty calls j)
      (chain_acts s (changes s run empty (take j calls)) [] (finally s run empty (take j calls)).rows (past_chain s run empty (take j calls) (keeps_take s calls j keeps) (good_empty s)))

  follows_of : (m : Mirror) (ks : List ℕ) → Holds m → m.top ≡ highest ks → m.heard ≡ something ks → Follows s run calls m ks
  unfolding R sent F Holds
  follows_of m ks h top heard = record {
    within = h.within;
    rows = h.made;
    moves = λ x l p.
        let d = decode_encode (numbered run (suc m.n) (get_or R m.n end)) (short, omega (arith, room), sound_fits s (get_or R m.n end) (chain_at s R [] F chain m.n l).0) in
        rw (p, d) (moves_said s run R F chain h l refl (said s run m (Some (numbered run (suc m.n) (get_or R m.n end)))));
    refuses_none = λ x b. (of_sent m x h b).1;
    top = top;
    loud = heard;
    whole = h.ends;
    levels = rw (heard, top, h.ends);
    store = λ v j e. h.made ∙ at_number m.n j e;
    commit = λ v. up (commit_at s run empty calls m.n h.within (sym h.ends ∙ and_r (m.heard && eqb m.n m.top) m.whole v));
  }
    where
      up : (j : ℕ) × (j ≤ length calls) × (length (changes s run empty (take j calls)) ≡ m.n) → (j : ℕ) × (j ≤ length calls) × ((finally s run empty (take j calls)).last ≡ m.n)
      up c = (c.0, c.1, omega (arith, last_is s run empty (take c.0 calls)))

  follows : (xs : List (List ℕ)) → Arrive s run sent fresh xs → Follows s run calls (through s run fresh xs) (heard_of s run fresh xs)
  unfolding Holds
  follows xs a = go (ran fresh xs (held_fresh s run R F chain) a)
    where
      go : Ran fresh xs → Follows s run calls (through s run fresh xs) (heard_of s run fresh xs)
      go r = follows_of (through s run fresh xs) (heard_of s run fresh xs) r.held (r.top ∙ zero-max (highest (heard_of s run fresh xs))) r.heard

-- so far as they came, arrivals are arrivals
arrive_take : (s : Schema) (run : ℕ) (sent : List (List ℕ)) (m : Mirror) (xs : List (List ℕ)) (i : ℕ) → Arrive s run sent m xs → Arrive s run sent m (take i xs)
arrive_take s run sent m [] zero a = tt
arrive_take s run sent m [] (suc i) a = tt
arrive_take s run sent m (x ∷ xs) zero a = tt
arrive_take s run sent m (x ∷ xs) (suc i) a = (a.0, arrive_take s run sent (step s run m x).next xs i a.1)

pub demand3 : (s : Schema) (run : ℕ) → run < 256 ^ 4 → (calls : List Call) → Keeps s calls → Demand3 s run calls
unfolding sent
demand3 s run short calls keeps xs a i = follows s run short calls keeps (take i xs) (arrive_take s run (written s run empty calls) fresh xs i a)
