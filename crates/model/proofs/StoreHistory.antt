-- A history of calls on a store's area, as a history of calls on its state: the areas, the records and all that is sent. Assumes nothing.
use mathlib.Core.Path.{◌≡◌, refl, sym, ◌∙◌, ap}
use mathlib.Core.Bool.{true}
use mathlib.Core.List.{List, [], ◌∷◌, ◌++◌, map, map-append}
use Prim.Native.Nat.{ℕ, zero, suc, ◌+◌, ◌≤◌, ◌<◌}
use native.Mathlib.Omega.{arith}
use lib.Dec.{eqb}
use lib.ListN.{length, get_or, take}
use Rattle.model.specs.Base.{all}
use Rattle.model.specs.Schema.{Schema, Database}
use Rattle.model.specs.Records.{Change, born, gone, column, end, is_end, numbered, number_from, encode, end_kind}
use Rattle.model.specs.Areas.{encode_store, store_good}
use Rattle.model.specs.Histories.{StoreCall, of_bytes, area_after_all, records_of, sent_of, change_of, change_in, ends_commit}
use Rattle.model.proofs.StateHistory as History
use Rattle.model.proofs.StateHistory.{State, state_after, finally, changes, records, written}
use Rattle.model.proofs.StateDemand.{ends_at}
use Rattle.model.proofs.Lists.{all_head, all_tail}
use Rattle.model.proofs.Bytes.{AllWide, decode_encode}
use Rattle.model.proofs.StoreCalls.{store_at, call_of, called}

-- numbers run on
number_append : (run k : ℕ) (es fs : List Change) → map encode (number_from run k (es ++ fs)) ≡ map encode (number_from run k es) ++ map encode (number_from run (k + length es) fs)
number_append run k [] fs = ap (λ (n : ℕ). map encode (number_from run n fs)) (omega arith)
number_append run k (e ∷ es) fs =
    ap (λ (l : List (List ℕ)). encode (numbered run (suc k) e) ∷ l)
    (number_append run (suc k) es fs ∙ ap (λ (n : ℕ). map encode (number_from run (suc k) es) ++ map encode (number_from run n fs)) (omega arith))

module _ (d : Database) (run : ℕ) where
  abbrev s : Schema
  s = d.tables

  -- what calls on a state's area give is what a history's calls on the state give
  pub record Lifted (σ : State) (cs : List StoreCall) : Type 0 where
    pub good : store_good (store_at d run (finally d.tables run σ (map (call_of d) cs))) ≡ true
    pub area : area_after_all (encode_store (store_at d run σ)) cs ≡ encode_store (store_at d run (finally d.tables run σ (map (call_of d) cs)))
    pub records : records_of (encode_store (store_at d run σ)) cs ≡ map encode (number_from run σ.last (changes d.tables run σ (map (call_of d) cs)))
    pub sent : sent_of (encode_store (store_at d run σ)) cs ≡ written d.tables run σ (map (call_of d) cs)

  pub lifted : (σ : State) → store_good (store_at d run σ) ≡ true → (cs : List StoreCall) → all of_bytes cs ≡ true → Lifted σ cs
  lifted σ g [] b = record { good = g; area = refl; records = refl; sent = refl }
  lifted σ g (c ∷ cs) b =
      let k = called d run σ g c (all_head of_bytes c cs b) in
      let a : List ℕ = encode_store (store_at d run σ) in
      let next : State = state_after s run σ (call_of d c) in
      let r = lifted next k.good cs (all_tail of_bytes c cs b) in
      record {
        good = r.good;
        area = ap (λ (x : List ℕ). area_after_all x cs) k.area ∙ r.area;
        records =
            (λ i. k.records i ++ (ap (λ (x : List ℕ). records_of x cs) k.area ∙ r.records) i)
            ∙ sym (number_append run σ.last (History.changes_of s run σ (call_of d c)) (changes s run next (map (call_of d) cs)));
        sent =
            (λ i. k.sent i ++ (ap (λ (x : List ℕ). sent_of x cs) k.area ∙ r.sent) i)
            ∙ sym (map-append encode (History.records_of s run σ (call_of d c)) (records s run next (map (call_of d) cs)));
      }

-- ── what the records of a history say ──
pub said_changes : (run k : ℕ) (es : List Change) → AllWide (number_from run k es) → map change_in (map encode (number_from run k es)) ≡ es
said_changes run k [] w = refl
said_changes run k (e ∷ es) w = λ i. ap change_of (decode_encode (numbered run (suc k) e) w.0) i ∷ said_changes run (suc k) es w.1 i

pub said_length : (run k : ℕ) (es : List Change) → length (map encode (number_from run k es)) ≡ length es
said_length run k [] = refl
said_length run k (e ∷ es) = ap suc (said_length run (suc k) es)

-- the record at a place carries the number after it
pub record_at : (run k : ℕ) (es : List Change) (j : ℕ) → j < length es → get_or (map encode (number_from run k es)) j [] ≡ encode (numbered run (suc (k + j)) (get_or es j end))
record_at run k [] j h = absurd (omega arith)
record_at run k (e ∷ es) zero h = ap (λ (n : ℕ). encode (numbered run n e)) (omega arith)
record_at run k (e ∷ es) (suc j) h = record_at run (suc k) es j (omega arith) ∙ ap (λ (n : ℕ). encode (numbered run n (get_or es j end))) (omega arith)

kind_end : (u n : ℕ) (e : Change) → eqb (get_or (encode (numbered u n e)) 0 0) end_kind ≡ is_end e
kind_end u n (born t i) = refl
kind_end u n (gone t i) = refl
kind_end u n (column t i c v) = refl
kind_end u n end = refl

pub ends_same : (run : ℕ) (es : List Change) (n : ℕ) → n ≤ length es → ends_commit (map encode (number_from run 0 es)) n ≡ ends_at es n
ends_same run es zero h = refl
ends_same run es (suc k) h = ap (λ (x : List ℕ). eqb (get_or x 0 0) end_kind) (record_at run 0 es k (omega arith)) ∙ kind_end run (suc (0 + k)) (get_or es k end)

pub map_take : {A B : Type 0} (f : A → B) (n : ℕ) (l : List A) → map f (take n l) ≡ take n (map f l)
map_take f zero l = refl
map_take f (suc n) [] = refl
map_take {B = B} f (suc n) (a ∷ l) = ap (λ (x : List B). f a ∷ x) (map_take f n l)
