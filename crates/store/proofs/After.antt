-- The store that an area in good order holds: what a request's reply is made of, and the area with its number and rows written anew. Assumes nothing.
use mathlib.Core.Path.{◌≡◌, refl, sym, ap, ◌∙◌}
use mathlib.Core.Bool.{true, ◌&&◌}
use mathlib.Core.List.{List}
use Prim.Native.Nat.{ℕ, ◌≤◌}
use native.Mathlib.Omega.{arith}
use lib.ListN.{length, take}
use Rattle.model.specs.Octets.{big}
use Rattle.model.specs.Base.{every}
use Rattle.model.specs.Schema.{Schema}
use Rattle.model.specs.Catalog.{database_from, packed_tables}
use Rattle.model.specs.Value.{meets}
use Rattle.model.specs.Commit.{lawful}
use Rattle.model.specs.Replies.{reply}
use Rattle.model.specs.Limits.{count_offset}
use Rattle.model.specs.Areas.{Store, encode_store, head_tests, rows_pass, store_good}
use Rattle.model.specs.Calls.{reply_of}
use Rattle.inner.specs.Working.{working, Tidy, Ordered}
use Rattle.model.proofs.Tests.{and_l, and_r}
use Rattle.model.proofs.GoodOrder.{meets_pass}
use Rattle.model.proofs.Areas.{Fits, pass_fits, store_of_is}
use Rattle.model.proofs.States.{store_parts}
use Rattle.model.proofs.RunKeeps.{Sound}
use Rattle.area.specs.Layout.{row_count}
use Rattle.area.specs.Writing.{number_in, store_in, placed, rows_part}
use Rattle.area.proofs.Writes.{rows_of, rows_are, store_put}
use Rattle.store.specs.GoodOrder.{run_in, Held}

good_fits : (st : Store) → store_good st ≡ true → Fits st
unfolding store_good
good_fits st h =
    let s = st.database.tables in
    let heads = every (head_tests st) in
    let typed = rows_pass meets s st.rows in
    let p = and_l (heads && typed) (lawful s st.rows) h in
    pass_fits st (and_l heads typed p) (meets_pass s st.rows (and_r heads typed p))

module _ (a : List ℕ) (cells : List (List ℕ)) (rows : List (List (List ℕ))) (k : Held a cells rows) where
  abbrev s : Schema
  s = packed_tables cells

  abbrev pub store : Store
  store = store_in (database_from cells) (run_in a) (number_in a) (row_count a) rows

  pub fits : Fits store
  fits = good_fits store (store_of_is a store k.store).1

  -- the rows are in order, and their values meet their types
  pub sound : Sound s (working s (row_count a) rows)
  unfolding store_in
  sound = let p = store_parts store (store_of_is a store k.store).1 in record { good = p.rows; meet = p.meets }

  -- every commit rule holds of them
  pub settled : lawful s (working s (row_count a) rows) ≡ true
  unfolding store_in
  settled = (store_parts store (store_of_is a store k.store).1).lawful

  -- a reply is that to the schema and the rows in cells
  pub reply_is : (request fresh : List ℕ) (room : ℕ) → reply_of store request fresh room ≡ reply (database_from cells) (number_in a) (working s (row_count a) rows) request fresh room
  unfolding store_in
  reply_is request fresh room = refl

  -- the area after its number and rows were written is the encoding of the store that has them
  pub area_after_lem : (number n : ℕ) (after : List (List (List ℕ))) → n ≤ length after → Tidy s (take n after)
      → placed count_offset 20001 (rows_part n after) (placed 4 4 (big 4 number) a) ≡ encode_store (store_in (database_from cells) (run_in a) number n after)
  unfolding store_in
  area_after_lem number n after h t =
      ap (λ (b : List ℕ). placed count_offset 20001 b (placed 4 4 (big 4 number) a)) (rows_are s after n h t)
      ∙ ap (λ (x : List ℕ). placed count_offset 20001 (rows_of (working s n after)) (placed 4 4 (big 4 number) x)) (sym (store_of_is a store k.store).0)
      ∙ store_put store fits number (working s n after)

-- the rows that were read, by how many the code says they are
module _ {a : List ℕ} {cells : List (List ℕ)} {rows : List (List (List ℕ))} (k : Held a cells rows) (n : ℕ) (e : n ≡ row_count a) where
  pub few_as : n ≤ 32
  few_as = omega (arith, k.few, e)

  pub ordered_as : Ordered n rows
  ordered_as = rw e k.ordered

  pub sound_as : Sound (packed_tables cells) (working (packed_tables cells) n rows)
  sound_as = rw e (sound a cells rows k)

  pub settled_as : lawful (packed_tables cells) (working (packed_tables cells) n rows) ≡ true
  settled_as = rw e (settled a cells rows k)
