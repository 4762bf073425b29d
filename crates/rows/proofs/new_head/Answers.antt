-- `rows::new_head` meets its contract.
use mathlib.Core.Path.{◌≡◌, ap, ◌∙◌}
use mathlib.Core.List.{List, [], ◌∷◌, ◌++◌, append-nil, map}
use Prim.Native.Nat.{ℕ}
use native.Mathlib.Omega.{arith}
use lib.ListN.{length, take, drop, replicate, length-append, drop_of_length-le}
use Rattle.inner.specs.Working.{born_count}
use Rattle.model.proofs.Octets.{octets, value_lt}
use Rattle.inner.proofs.NewRows.{new_head as head_is}
use Rattle.rows.proofs.Laws.{head_made}
use Rattle.rows.proofs.new_head.Goals as goal

-- the id in its place
put : (id p : List ℕ) → length id ≡ 16 → p ≡ id ++ drop (length id) (replicate 16 0) → p ≡ id
put id p h e = e ∙ ap (λ (l : List ℕ). id ++ l) (drop_of_length-le (replicate 16 0) {i = length id} (omega arith)) ∙ append-nil id

pub slice_bounds-head-end-2 : goal.slice_bounds-head-end-2
slice_bounds-head-end-2 c =
    let p = c.put_bytes.new.out in
    let e : length p ≡ 16 = ap length (put c.args.id.now p c.requires.0 c.put_bytes.ensures) ∙ c.requires.0 in
    omega (arith, length-append p (replicate 8 0), e)

pub returns : goal.returns
returns c =
    let id = c.args.id.now in
    let o = octets id (λ i. omega (arith, c.shared_slice_known-1.given i)) in
    let t = c.args.table in
    let q = put id c.put_bytes.new.out c.requires.0 c.put_bytes.ensures in
    let n = c.put_counts.ensures in
    record {
      value = λ cs few m. (λ j. t ∷ take 16 (q j ++ replicate 8 0) ++ (n j ++ drop 6 (drop 17 (t ∷ q j ++ replicate 8 0))))
          ∙ head_made t id (map born_count c.args.mins.now) c.requires.0
          ∙ ap (λ (l : List ℕ). t ∷ id ++ (map born_count l ++ 0 ∷ 0 ∷ [])) m
          ∙ head_is t id cs few c.requires.0 o;
      id_bound = rw c.requires.0 at (value_lt id o);
    }
