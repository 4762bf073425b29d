-- The steps of a commit on rows in cells, one after another, and the rules of good order. Assumes nothing.
use mathlib.Core.Path.{◌≡◌, refl, sym, ap, ◌∙◌}
use mathlib.Core.Bool.{Bool, true, false, not, ◌&&◌}
use mathlib.Core.List.{List}
use Prim.Native.Nat.{ℕ, ◌≤◌}
use native.Mathlib.Omega.{arith}
use lib.ListN.{length}
use Rattle.model.specs.Base.{any, all}
use Rattle.model.specs.Schema.{Schema}
use Rattle.model.specs.Rows.{Row}
use Rattle.model.specs.Commit.{all_found, loose, collect, weaken, all_enough, tables_good, settled, lawful}
use Rattle.inner.specs.Working.{working, Ordered}
use Rattle.model.specs.declared.Fault.TheVariants.{Fine, Constraint, Integrity}
use Rattle.model.proofs.Tests.{clash}
use Rattle.inner.proofs.Working.{working_length}
use Rattle.references.specs.Links.{referred}
use Rattle.garbage.specs.Loose.{Collected}
use Rattle.garbage.specs.Weak.{Weakened}
use Rattle.commit.specs.Steps.{Committed}

-- ── references by how they refer ──
module _ (s : Schema) (rows : List Row) where
  pub strong_is : all (referred s 1 rows) rows ≡ all_found s rows
  unfolding referred
  strong_is = refl

-- ── the four steps ──
module _ (s : Schema) (n : ℕ) (entry : List (List (List ℕ))) where
  abbrev rows : List Row
  rows = working s n entry

  pub commit_missing : Ordered n entry → all (referred s 1 rows) rows ≡ false → Committed s n entry entry (record { fault = Integrity; count = n })
  commit_missing o e =
      let f : all_found s rows ≡ false = sym (strong_is s rows) ∙ e in
      record { fault = rw f; stays = λ q. (refl, refl); rows = λ q. absurd (clash _ q f); few = omega arith; tidy = λ t. t; ordered = o }

  module _ (m : ℕ) (mid exit : List (List (List ℕ))) (h : n ≤ length entry) (found : all (referred s 1 rows) rows ≡ true) (c : Collected s n m entry mid) (w : Weakened s m mid exit) where
    left : working s m exit ≡ settled s rows
    left = w.rows ∙ ap (weaken s) (c.rows ∙ ap (λ (k : ℕ). collect s k rows) (sym (working_length s entry n h)))

    strong : all_found s rows ≡ true
    strong = sym (strong_is s rows) ∙ found

    module _ (enough : all_enough s (working s m exit) ≡ false) where
      pub commit_few : Committed s n entry exit (record { fault = Constraint; count = m })
      commit_few =
          let e : all_enough s (settled s rows) ≡ false = ap (all_enough s) (sym left) ∙ enough in
          record { fault = rw (strong, e); stays = λ q. absurd (clash _ strong q); rows = λ q. left; few = c.few; tidy = λ t. w.tidy (c.tidy t); ordered = w.ordered }

    module _ (enough : all_enough s (working s m exit) ≡ true) where
      e : all_enough s (settled s rows) ≡ true
      e = ap (all_enough s) (sym left) ∙ enough

      pub commit_over : tables_good 0 s (working s m exit) ≡ false → Committed s n entry exit (record { fault = Constraint; count = m })
      commit_over good =
          let g : tables_good 0 s (settled s rows) ≡ false = ap (tables_good 0 s) (sym left) ∙ good in
          record { fault = rw (strong, e, g); stays = λ q. absurd (clash _ strong q); rows = λ q. left; few = c.few; tidy = λ t. w.tidy (c.tidy t); ordered = w.ordered }

      pub commit_fine : tables_good 0 s (working s m exit) ≡ true → Committed s n entry exit (record { fault = Fine; count = m })
      commit_fine good =
          let g : tables_good 0 s (settled s rows) ≡ true = ap (tables_good 0 s) (sym left) ∙ good in
          record { fault = rw (strong, e, g); stays = λ q. absurd (clash _ strong q); rows = λ q. left; few = c.few; tidy = λ t. w.tidy (c.tidy t); ordered = w.ordered }

-- ── good order ──
module _ (s : Schema) (rows : List Row) where
  lawful_is : lawful s rows ≡ (all (referred s 1 rows) rows && (not (any (loose s rows) rows) && (all (referred s 2 rows) rows && (all_enough s rows && (tables_good 0 s rows && true)))))
  unfolding referred
  lawful_is = refl

  -- the rules one after another, as the code joins them
  pub lawful_joined : ((((all (referred s 1 rows) rows && not (any (loose s rows) rows)) && all (referred s 2 rows) rows) && all_enough s rows) && tables_good 0 s rows) ≡ lawful s rows
  lawful_joined = regroup (all (referred s 1 rows) rows) (not (any (loose s rows) rows)) (all (referred s 2 rows) rows) (all_enough s rows) (tables_good 0 s rows) ∙ sym lawful_is
    where
      regroup : (a b d e f : Bool) → ((((a && b) && d) && e) && f) ≡ (a && (b && (d && (e && (f && true)))))
      regroup true true true true true = refl
      regroup true true true true false = refl
      regroup true true true false f = refl
      regroup true true false e f = refl
      regroup true false d e f = refl
      regroup false b d e f = refl

-- what a test joined to another says: the other where it holds, and no where it does not
pub joined : {x y q r : Bool} → q ≡ x → q ≡ true → r ≡ y → r ≡ (x && y)
joined {x} {y} h f g = g ∙ ap (λ (b : Bool). b && y) (sym f ∙ h)

pub not_joined : {x q r : Bool} (y : Bool) → q ≡ x → q ≡ false → r ≡ q → r ≡ (x && y)
not_joined y h f g = g ∙ f ∙ ap (λ (b : Bool). b && y) (sym f ∙ h)
