-- A commit that succeeds leaves rows for which every commit rule holds, and a commit of such rows changes nothing. Assumes nothing.
use mathlib.Core.Path.{◌≡◌, refl, ◌∙◌, ap}
use mathlib.Core.Bool.{Bool, true, false, not, ◌&&◌}
use mathlib.Core.List.{List, [], ◌∷◌}
use Prim.Native.Nat.{ℕ}
use native.Mathlib.Omega.{arith}
use borrow.Author.Tests.{not-true}
use lib.ListN.{length}
use Rattle.model.specs.Base.{any, all}
use Rattle.model.specs.Schema.{Schema}
use Rattle.model.specs.Rows.{Row, has, has_id}
use Rattle.model.specs.Faults.{is_fine, check}
use Rattle.model.proofs.Order.{Good, AllMeet}
use Rattle.model.specs.Commit.{weak_of, all_found, loose, collect, weaken, all_enough, tables_good, settled, commit, lawful}
use Rattle.model.specs.declared.Fault.{Fault}
use Rattle.model.specs.declared.Fault.TheVariants.{Fine, Constraint, Integrity}
use Rattle.model.proofs.Tests.{clash, and_l, and_r, parts}
use Rattle.model.proofs.Within.{all_alike}
use Rattle.model.proofs.Collected.{Goes, collect_goes, collect_none, goes_ends, goes_good, goes_meet, goes_ids, goes_found}
use Rattle.model.proofs.Weakened.{weaken_ids, weaken_has, weaken_meet, weaken_good, weaken_found, weaken_loose, weaken_there, weaken_settled}

-- a check that says Fine has passed, and so have those after it
check_fine : (b : Bool) (f g : Fault) → is_fine f ≡ false → check b f g ≡ Fine → (b ≡ true) × (g ≡ Fine)
check_fine true f g n e = (refl, e)
check_fine false f g n e = absurd (clash (is_fine f) (ap is_fine e) n)

-- what a commit that says Fine has found
pub record Passed (s : Schema) (rows : List Row) : Type 0 where
  pub found : all_found s rows ≡ true
  pub enough : all_enough s (settled s rows) ≡ true
  pub tables : tables_good 0 s (settled s rows) ≡ true

pub commit_passed : (s : Schema) (rows : List Row) → (commit s rows).fault ≡ Fine → Passed s rows
commit_passed s rows e =
    let a : Bool = all_enough s (settled s rows) in
    let b : Bool = tables_good 0 s (settled s rows) in
    let p = check_fine (all_found s rows) Integrity (check (a && b) Constraint Fine) refl e in
    let q = check_fine (a && b) Constraint Fine refl p.1 in
    record { found = p.0; enough = and_l a b q.0; tables = and_r a b q.0 }

pub passed_fine : (s : Schema) (rows : List Row) → Passed s rows → (commit s rows).fault ≡ Fine
passed_fine s rows p = rw (p.found, p.enough, p.tables)

-- "every value is canonical and meets its type, and every commit rule below holds", and no row is new
pub record Kept (s : Schema) (rows after : List Row) : Type 0 where
  pub good : Good s after
  pub meet : AllMeet s after
  pub laws : lawful s after ≡ true
  pub ids : (j : ℕ) → has_id j rows ≡ false → has_id j after ≡ false

pub commit_keeps : (s : Schema) (rows : List Row) → Good s rows → AllMeet s rows → (commit s rows).fault ≡ Fine → Kept s rows (commit s rows).got
commit_keeps s rows g m e =
    let p = commit_passed s rows e in
    let w : List Row = collect s (length rows) rows in
    let u : List Row = weaken s w in
    let c : Goes s rows w = collect_goes s (length rows) rows (omega arith) in
    let x : AllMeet s u = weaken_meet s w w (goes_meet s c m) p.enough in
    let loosed : any (loose s u) u ≡ false = weaken_loose s w w ∙ goes_ends s c in
    let there : all (λ (r : Row). all (λ (k : ℕ). has k u) (weak_of s r)) u ≡ true =
    all_alike (λ (r : Row). all (λ (k : ℕ). has k u) (weak_of s r)) (λ (r : Row). all (λ (k : ℕ). has k w) (weak_of s r))
    (λ r. all_alike (λ (k : ℕ). has k u) (λ (k : ℕ). has k w) (λ k. weaken_has s w k w) (weak_of s r)) u ∙ weaken_there s w w in
    record {
      good = weaken_good s w w (goes_good s c g) x;
      meet = x;
      laws = rw (weaken_found s w w ∙ goes_found s c g.sorted p.found, loosed, there, p.enough, p.tables);
      ids = λ j n. weaken_ids s w j w ∙ goes_ids s j c n;
    }

-- what the commit rules say of rows, one by one
pub record Lawful (s : Schema) (rows : List Row) : Type 0 where
  pub found : all_found s rows ≡ true
  pub held : any (loose s rows) rows ≡ false
  pub there : all (λ (r : Row). all (λ (k : ℕ). has k rows) (weak_of s r)) rows ≡ true
  pub enough : all_enough s rows ≡ true
  pub tables : tables_good 0 s rows ≡ true

pub lawful_parts : (s : Schema) (rows : List Row) → lawful s rows ≡ true → Lawful s rows
lawful_parts s rows h =
    let there : Bool = all (λ (r : Row). all (λ (k : ℕ). has k rows) (weak_of s r)) rows in
    let t = parts (all_found s rows ∷ not (any (loose s rows) rows) ∷ there ∷ all_enough s rows ∷ tables_good 0 s rows ∷ []) h in
    record { found = t.0; held = not-true (any (loose s rows) rows) t.1.0; there = t.1.1.0; enough = t.1.1.1.0; tables = t.1.1.1.1.0 }

-- a commit of a store's own rows changes nothing
pub lawful_settled : (s : Schema) (rows : List Row) → Good s rows → lawful s rows ≡ true → commit s rows ≡ record { fault = Fine; got = rows }
lawful_settled s rows g h =
    let l = lawful_parts s rows h in
    let same : settled s rows ≡ rows = ap (weaken s) (collect_none s (length rows) rows l.held) ∙ weaken_settled s rows rows g.fine l.there in
    let fine : (commit s rows).fault ≡ Fine = rw (same, l.found, l.enough, l.tables) in
    λ i. record { fault = fine i; got = same i }
