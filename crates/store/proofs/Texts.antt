-- The answer's text: results with commas between them, one more after them, and the brackets. Assumes nothing.
use Rattle.std.specs.Prelude.{Option, Some, None}
use mathlib.Core.Path.{◌≡◌, refl, sym, ap, ◌∙◌}
use mathlib.Core.Bool.{Bool, true, false}
use mathlib.Core.List.{List, [], ◌∷◌, ◌++◌, map, append_assoc, append-nil}
use Prim.Native.Nat.{ℕ}
use lib.ListN.{get_or}
use Rattle.model.specs.declared.Fault.{Fault}
use Rattle.model.specs.Json.{Json, Named}
use Rattle.model.specs.Members.{members_in}
use Rattle.inner.specs.Positions.{is_nothing}
use Rattle.model.specs.Schema.{Schema}
use Rattle.model.specs.Rows.{Row}
use Rattle.model.specs.Faults.{is_fine}
use Rattle.model.specs.Written.{Names}
use Rattle.model.specs.Answers.{bracketed, error_text}
use Rattle.model.specs.Operations.{operate}
use Rattle.model.specs.Transact.{Ran, fresh_ids, names_of, run_all}
use Rattle.model.proofs.TextUtf8.{by_test}
use Rattle.model.proofs.Tests.{clash}
use Rattle.nav.proofs.Walk.{walk_end, walk_rest}
use Rattle.json_writer.specs.Texts.{comma_text, joined, error_result}
use Rattle.json_writer.proofs.Joins.{bracketed_is}
use Rattle.uuids.specs.Named.{operations_at}
use Rattle.store.specs.Replying.{run_on, closing}

abbrev pub empty : {A : Type 0} → List A → Bool
empty [] = true
empty (x ∷ l) = false

-- ── one text more ──
joined_next : (l : List (List ℕ)) (t : List ℕ) → joined false (l ++ t ∷ []) ≡ joined false l ++ (comma_text false ++ t)
joined_next [] t = ap (λ (x : List ℕ). comma_text false ++ x) (append-nil t)
joined_next (u ∷ l) t =
    ap (λ (x : List ℕ). comma_text false ++ (u ++ x)) (joined_next l t)
    ∙ ap (λ (x : List ℕ). comma_text false ++ x) (sym (append_assoc u (joined false l) (comma_text false ++ t)))
    ∙ sym (append_assoc (comma_text false) (u ++ joined false l) (comma_text false ++ t))

joined_last : (l : List (List ℕ)) (t : List ℕ) → joined true (l ++ t ∷ []) ≡ joined true l ++ (comma_text (empty l) ++ t)
joined_last [] t = ap (λ (x : List ℕ). comma_text true ++ x) (append-nil t)
joined_last (u ∷ l) t =
    ap (λ (x : List ℕ). comma_text true ++ (u ++ x)) (joined_next l t)
    ∙ ap (λ (x : List ℕ). comma_text true ++ x) (sym (append_assoc u (joined false l) (comma_text false ++ t)))
    ∙ sym (append_assoc (comma_text true) (u ++ joined false l) (comma_text false ++ t))

-- ── the end of the text, where the commit is fine and where it fails ──
pub end_fine : (l : List (List ℕ)) (f : Fault) (first : Bool) → is_fine f ≡ true → (91 ∷ joined true l) ++ closing f first ≡ bracketed l
unfolding closing
end_fine l f first h =
    by_test (λ (e : List ℕ). (91 ∷ (joined true l ++ e)) ≡ bracketed l) (is_fine f) (λ t. bracketed_is l) (λ t. absurd (clash (is_fine f) h t))

one_more : (l : List (List ℕ)) (f : Fault) → (91 ∷ (joined true l ++ (comma_text (empty l) ++ (error_result f ++ 93 ∷ [])))) ≡ bracketed (l ++ error_text f ∷ [])
unfolding error_result
one_more l f =
    let t = error_text f in
    ap (λ (x : List ℕ). 91 ∷ (joined true l ++ x)) (sym (append_assoc (comma_text (empty l)) t (93 ∷ [])))
    ∙ ap (λ (x : List ℕ). 91 ∷ x) (sym (append_assoc (joined true l) (comma_text (empty l) ++ t) (93 ∷ [])))
    ∙ ap (λ (x : List ℕ). 91 ∷ (x ++ 93 ∷ [])) (sym (joined_last l t))
    ∙ bracketed_is (l ++ t ∷ [])

pub end_failed : (l : List (List ℕ)) (f : Fault) (first : Bool) → is_fine f ≡ false → first ≡ empty l → (91 ∷ joined true l) ++ closing f first ≡ bracketed (l ++ error_text f ∷ [])
unfolding closing
end_failed l f first h e =
    by_test (λ (x : List ℕ). (91 ∷ (joined true l ++ x)) ≡ bracketed (l ++ error_text f ∷ [])) (is_fine f)
    (λ t. absurd (clash (is_fine f) t h))
    (λ t. ap (λ (b : Bool). 91 ∷ (joined true l ++ (comma_text b ++ (error_result f ++ 93 ∷ [])))) e ∙ one_more l f)

-- ── there are no results just where there are no operations ──
module _ (s : Schema) (names : Names) (given : List (List ℕ)) (ids : List ℕ) (rows : List Row) where
  results_some : (o : List Named) (os : List (List Named)) → empty (run_all s names given ids rows (o ∷ os)).results ≡ false
  results_some o os = by_test (λ (r : Ran). empty r.results ≡ false) (is_fine (operate s names given (get_or ids 0 0) rows o).fault) (λ t. refl) (λ t. refl)

  results_empty : (os : List (List Named)) → empty (run_all s names given ids rows os).results ≡ empty os
  results_empty [] = refl
  results_empty (o ∷ os) = results_some o os

operations_empty : (text : List ℕ) (ops : Option ℕ) → empty (operations_at text ops) ≡ is_nothing ops
unfolding operations_at is_nothing
operations_empty text (Some p) = ap (λ (l : List Json). empty (map members_in l)) (walk_rest text {g = Some p} refl)
operations_empty text None = ap (λ (l : List Json). empty (map members_in l)) (walk_end text {g = None} refl)

pub run_empty : (s : Schema) (text : List ℕ) (ops : Option ℕ) (fresh : List ℕ) (rows : List Row) → is_nothing ops ≡ empty (run_on s text ops fresh rows).results
unfolding run_on
run_empty s text ops fresh rows = sym (results_empty s (names_of (fresh_ids fresh) (operations_at text ops)) [] (fresh_ids fresh) rows (operations_at text ops) ∙ operations_empty text ops)

-- ── a place that there is, and none ──
pub is_at : {f : Option ℕ} {p : ℕ} → f ≡ Some p → false ≡ is_nothing f
unfolding is_nothing
is_at h = sym (ap is_nothing h)

pub is_none : {f : Option ℕ} → f ≡ None → true ≡ is_nothing f
unfolding is_nothing
is_none h = sym (ap is_nothing h)
