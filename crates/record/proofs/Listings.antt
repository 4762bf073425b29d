-- What a schema lists of an arrival, by the kind that it is. Assumes nothing.
use mathlib.Core.Path.{◌≡◌, refl}
use mathlib.Core.Bool.{Bool, true, false, not, ◌&&◌}
use mathlib.Core.List.{List}
use Prim.Native.Nat.{ℕ, ◌^◌, ◌≤◌, ◌<◌}
use borrow.Author.Tests.{lt-ltb, le-ltb, ltb-true}
use lib.Dec.{eqb, ltb}
use lib.ListN.{length, get_or}
use Rattle.model.specs.Octets.{value}
use Rattle.model.proofs.Tests.{and_l}
use Rattle.model.proofs.Octets.{octets, value_lt}
use Rattle.record.specs.Reading.{Sized, known_in}
use Rattle.record.specs.declared.Born.{Born}
use Rattle.record.specs.declared.Gone.{Gone}
use Rattle.record.specs.declared.Column.{Column}
use Rattle.record.specs.declared.Arrival.{Arrival}
use Rattle.record.specs.declared.Arrival.TheVariants as arrival

pub known_past : (n t i : ℕ) → n ≤ t → known_in n t i ≡ false
unfolding known_in
known_past n t i h = rw (le-ltb t n h)

and_true : (b : Bool) → (b && true) ≡ b
and_true true = refl
and_true false = refl

pub known_id : (n t : ℕ) (id : List ℕ) → t < n → length id ≡ 16 → ((i : ℕ) → get_or id i 0 < 256) → known_in n t (value id) ≡ not (eqb (value id) 0)
unfolding known_in
known_id n t id h m f =
    let l : value id < 256 ^ 16 = rw m at (value_lt id (octets id f)) in
    rw (lt-ltb t n h, lt-ltb (value id) (256 ^ 16) l) (and_true (not (eqb (value id) 0)))

pub known_table : (n t i : ℕ) → known_in n t i ≡ true → t < n
unfolding known_in
known_table n t i h = ltb-true t n (and_l (ltb t n) (not (eqb i 0)) (and_l (ltb t n && not (eqb i 0)) (ltb i (256 ^ 16)) h))

-- an arrival's kind says how long it is
module _ (a : Arrival) (n : ℕ) (h : Sized a n) where
  pub born_size : (r : Born) → a ≡ arrival.Born r → n ≡ 26
  unfolding Sized
  born_size r e = rw e at h

  pub gone_size : (r : Gone) → a ≡ arrival.Gone r → n ≡ 26
  unfolding Sized
  gone_size r e = rw e at h

  pub column_size : (r : Column) → a ≡ arrival.Column r → n ≡ 128
  unfolding Sized
  column_size r e = rw e at h
