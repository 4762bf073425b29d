-- The operations of a request, run in order without a fault, keep what holds of working rows. Assumes nothing.
use Rattle.std.proofs.lemmas.Option.{none-some}
use mathlib.Core.Path.{◌≡◌, refl, ap}
use mathlib.Core.Bool.{Bool, true, false, not, ◌&&◌}
use mathlib.Core.List.{List, [], ◌∷◌}
use Prim.Native.Nat.{ℕ, zero, suc, ◌*◌, ◌^◌, ◌≤◌, ◌<◌}
use native.Mathlib.Omega.{arith}
use borrow.Author.Tests.{not-true, lt-ltb, ltb-true, leb-true}
use lib.Dec.{eqb, ltb, leb}
use lib.ListN.{length, take, drop, length-take, length-drop}
use Rattle.model.specs.Octets.{value}
use Rattle.std.specs.Prelude.{if◌then◌else◌, Option, Some, None}
use Rattle.model.specs.Base.{any, all}
use Rattle.model.specs.Limits.{most_request_bytes, most_operations, fresh_bytes}
use Rattle.model.specs.Json.{Json, Named, text_at}
use Rattle.model.specs.Nav.{is_read}
use Rattle.model.proofs.GoodTexts.{texts_good}
use Rattle.model.specs.Schema.{Schema}
use Rattle.model.specs.Rows.{Row, has_id}
use Rattle.model.proofs.Order.{Good, AllMeet}
use Rattle.model.specs.Faults.{is_fine}
use Rattle.model.specs.Written.{Names, string_in, array_in, object_in}
use Rattle.model.specs.Operations.{Done, operate}
use Rattle.model.specs.Transact.{Request, objects_in, request_by, request_items, request_tree, read_request, ids_from, fresh_ids, ids_good, insert_name, is_named, names_of, with_name, Ran, stopped, followed, run_all}
use Rattle.model.proofs.Tests.{clash, and_l, and_r, or_l, or_r, eqb_flip}
use Rattle.model.proofs.Lists.{all_head, all_tail, all_cons, all_take, all_drop}
use Rattle.model.proofs.Octets.{octet, value_lt}
use Rattle.model.proofs.Trees.{text_good}
use Rattle.model.proofs.WrittenLaws.{then_some, when_some, named_good, array_good, object_good}
use Rattle.model.proofs.RowLaws.{Keeps}
use Rattle.model.proofs.OperateKeeps.{Modest, Fresh, operate_keeps}

-- ── fresh ids ──
-- an id of 16 bytes
abbrev pub short_id : ℕ → Bool
short_id i = ltb i (256 ^ 16)

pub from_short : (n : ℕ) (b : List ℕ) → length b ≡ n * 16 → all octet b ≡ true → all short_id (ids_from n b) ≡ true
from_short zero b l h = refl
from_short (suc n) b l h =
    let m : length (take 16 b) ≡ 16 = omega (arith, length-take 16 b) in
    let p : value (take 16 b) < 256 ^ 16 = rw m at (value_lt (take 16 b) (all_take octet 16 b h)) in
    all_cons short_id (value (take 16 b)) (ids_from n (drop 16 b)) (lt-ltb (value (take 16 b)) (256 ^ 16) p)
    (from_short n (drop 16 b) (omega (arith, length-drop 16 b)) (all_drop octet 16 b h))

pub from_length : (n : ℕ) (b : List ℕ) → length (ids_from n b) ≡ n
from_length zero b = refl
from_length (suc n) b = ap suc (from_length n (drop 16 b))

-- the fresh ids of a call are 16 ids of 16 bytes
pub fresh_short : (b : List ℕ) → length b ≡ fresh_bytes → all octet b ≡ true → all short_id (fresh_ids b) ≡ true
fresh_short b l h = from_short 16 b l h

pub fresh_length : (b : List ℕ) → length (fresh_ids b) ≡ most_operations
fresh_length b = from_length 16 b

-- ── names ──
pub names_short : (ids : List ℕ) (os : List (List Named)) (w : List ℕ) (i : ℕ) → length os ≤ length ids → all short_id ids ≡ true → names_of ids os w ≡ Some i → i < 256 ^ 16
names_short ids [] w i n h e = absurd (none-some i e)
names_short [] (o ∷ os) w i n h e = absurd (omega arith)
names_short (k ∷ ids) (o ∷ os) w i n h e = go (is_named (insert_name o) w) (names_short ids os w i (omega arith) (all_tail short_id k ids h)) e
  where
    go : (b : Bool) → (names_of ids os w ≡ Some i → i < 256 ^ 16) → elim b [ true ↦ Some k | false ↦ names_of ids os w ] ≡ Some i → i < 256 ^ 16
    go true rest q = let z : k ≡ i = cc in rw (← z) (ltb-true k (256 ^ 16) (all_head short_id k ids h))
    go false rest q = rest q

-- ── ids that are still good after an operation ──
pub ids_fresh : (i : ℕ) (l : List ℕ) (rows : List Row) → ids_good (i ∷ l) rows ≡ true → i < 256 ^ 16 → Fresh i rows
ids_fresh i l rows h short =
    let a : Bool = not (eqb i 0) in
    let b : Bool = not (has_id i rows) in
    let c : Bool = not (any (eqb i) l) in
    let p : (a && b) ≡ true = and_l (a && b) c (and_l (a && b && c) (ids_good l rows) h) in
    record { is_some_id = not-true (eqb i 0) (and_l a b p); short = short; new = not-true (has_id i rows) (and_r a b p) }

pub ids_other : (i : ℕ) (l : List ℕ) (rows : List Row) → ids_good (i ∷ l) rows ≡ true → (any (eqb i) l ≡ false) × (ids_good l rows ≡ true)
ids_other i l rows h =
    let a : Bool = not (eqb i 0) && not (has_id i rows) in
    let c : Bool = not (any (eqb i) l) in
    (not-true (any (eqb i) l) (and_r a c (and_l (a && c) (ids_good l rows) h)), and_r (a && c) (ids_good l rows) h)

pub ids_stay : (s : Schema) (i : ℕ) (l : List ℕ) (rows after : List Row) → Keeps s i rows after → any (eqb i) l ≡ false → ids_good l rows ≡ true → ids_good l after ≡ true
ids_stay s i [] rows after k n h = refl
ids_stay s i (j ∷ l) rows after k n h =
    let a : Bool = not (eqb j 0) in
    let b : Bool = not (has_id j rows) in
    let c : Bool = not (any (eqb j) l) in
    let p : (a && b && c) ≡ true = and_l (a && b && c) (ids_good l rows) h in
    let new : has_id j after ≡ false = k.ids j (not-true (has_id j rows) (and_r a b (and_l (a && b) c p))) (eqb_flip i j (or_l (eqb i j) (any (eqb i) l) n)) in
    rw (and_l a b (and_l (a && b) c p), new, and_r (a && b) c p) (ids_stay s i l rows after k (or_r (eqb i j) (any (eqb i) l) n) (and_r (a && b && c) (ids_good l rows) h))

-- ── the run ──
-- operations whose strings are good
abbrev pub operation_good : List Named → Bool
operation_good o = all named_good o

-- rows that are in order, whose values meet their types
pub record Sound (s : Schema) (rows : List Row) : Type 0 where
  pub good : Good s rows
  pub meet : AllMeet s rows

pub run_keeps : (s : Schema) (names : Names) (given : List (List ℕ)) (ids : List ℕ) (rows : List Row) (os : List (List Named))
    → Modest s → all operation_good os ≡ true → length os ≤ length ids → all short_id ids ≡ true → ids_good ids rows ≡ true → Good s rows → AllMeet s rows
    → is_fine (run_all s names given ids rows os).fault ≡ true → Sound s (run_all s names given ids rows os).rows
run_keeps s names given ids rows [] modest h n short fresh g m f = record { good = g; meet = m }
run_keeps s names given [] rows (o ∷ os) modest h n short fresh g m f = absurd (omega arith)
run_keeps s names given (i ∷ ids) rows (o ∷ os) modest h n short fresh g m f =
    let d : Done = operate s names given i rows o in
    let short0 : i < 256 ^ 16 = ltb-true i (256 ^ 16) (all_head short_id i ids short) in
    let q = ids_other i ids rows fresh in
    go (operate_keeps s names i rows g m given o modest (ids_fresh i ids rows fresh short0) (all_head operation_good o os h))
    (λ k. run_keeps s names (with_name (insert_name o) given) ids d.rows os modest (all_tail operation_good o os h) (omega arith) (all_tail short_id i ids short)
    (ids_stay s i ids rows d.rows k q.0 q.1) k.good k.meet)
    (is_fine d.fault) refl f
  where
    go : let d : Done = operate s names given i rows o in
        let r : Ran = run_all s names (with_name (insert_name o) given) ids d.rows os in
        (is_fine d.fault ≡ true → Keeps s i rows d.rows) → (Keeps s i rows d.rows → is_fine r.fault ≡ true → Sound s r.rows)
        → (b : Bool) → is_fine d.fault ≡ b → let w : Ran = elim b [ true ↦ followed d.answer r | false ↦ stopped d.fault rows os ] in
        is_fine w.fault ≡ true → Sound s w.rows
    go first rest true e k = rest (first e) k
    go first rest false e k = absurd (clash (is_fine (operate s names given i rows o).fault) k e)

-- ── the request ──
objects_good : (js : List Json) (os : List (List Named)) → all texts_good js ≡ true → objects_in js ≡ Some os → all operation_good os ≡ true
objects_good [] os h e = let z : ◌≡◌ {A = List (List Named)} [] os = cc in rw (← z)
objects_good (j ∷ js) os h e =
    let p = then_some (object_in j) (λ (ms : List Named). elim (objects_in js) [ None ↦ None | Some l ↦ Some (ms ∷ l) ]) os e in
    let q = then_some (objects_in js) (λ (l : List (List Named)). Some (p.0 ∷ l)) os p.2 in
    let z : p.0 ∷ q.0 ≡ os = cc q.2 in
    rw (← z) (all_cons operation_good p.0 q.0 (object_good j p.0 (all_head texts_good j js h) p.1) (objects_good js q.0 (all_tail texts_good j js h) q.1))

-- what is known of a request that is not refused
pub record RequestGood (r : Request) : Type 0 where
  pub operations : all operation_good r.operations ≡ true
  pub few : length r.operations ≤ most_operations

by_good : (w : Option (List ℕ)) (js : List Json) (r : Request) → all texts_good js ≡ true → (o : Option (List (List Named))) → objects_in js ≡ o → request_by w o ≡ Some r → RequestGood r
by_good None js r h o p e = absurd (none-some r e)
by_good (Some w) js r h None p e = absurd (none-some r e)
by_good (Some w) js r h (Some os) p e = go (leb (length os) most_operations) refl e
  where
    go : (b : Bool) → leb (length os) most_operations ≡ b → (if b then Some (record { name = w; operations = os }) else None) ≡ Some r → RequestGood r
    go true q k =
        let z : record { name = w; operations = os } ≡ r = cc in
        rw (← z) (record { operations = objects_good js os h p; few = leb-true (length os) 16 q })
    go false q k = absurd (none-some r k)

items_good_lem : (l : List Json) (r : Request) → all texts_good l ≡ true → request_items l ≡ Some r → RequestGood r
items_good_lem [] r h e = absurd (none-some r e)
items_good_lem (j ∷ js) r h e = by_good (string_in j) js r (all_tail texts_good j js h) (objects_in js) refl e

pub request_good : (t : List ℕ) (r : Request) → read_request t ≡ Some r → RequestGood r
unfolding read_request
request_good t r e =
    let p = when_some (leb (length t) most_request_bytes) (request_tree (text_at t)) r e in
    let q = when_some (is_read (text_at t).read) (elim (array_in (text_at t).tree) [ None ↦ None | Some l ↦ request_items l ]) r p.1 in
    let u = then_some (array_in (text_at t).tree) request_items r q.1 in
    items_good_lem u.0 r (array_good (text_at t).tree u.0 (text_good t) u.1) u.2

-- the operations of a request, with the fresh ids of a call, on the rows of a store
pub request_keeps : (s : Schema) (b t : List ℕ) (r : Request) (rows : List Row) → Modest s → read_request t ≡ Some r → length b ≡ fresh_bytes → all octet b ≡ true → ids_good (fresh_ids b) rows ≡ true
    → Good s rows → AllMeet s rows → is_fine (run_all s (names_of (fresh_ids b) r.operations) [] (fresh_ids b) rows r.operations).fault ≡ true
    → Sound s (run_all s (names_of (fresh_ids b) r.operations) [] (fresh_ids b) rows r.operations).rows
request_keeps s b t r rows modest e l h fresh g m f =
    let k = request_good t r e in
    run_keeps s (names_of (fresh_ids b) r.operations) [] (fresh_ids b) rows r.operations modest k.operations (omega (arith, k.few, fresh_length b)) (fresh_short b l h) fresh g m f
