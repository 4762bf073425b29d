-- A list of arrivals at a mirror's area, as a list of arrivals at its state. Assumes nothing.
use Rattle.std.specs.Prelude.{Option, Some, None}
use mathlib.Core.Path.{◌≡◌, refl, sym, ◌∙◌, ap, subst}
use mathlib.Core.Logic.{◌⊎◌, inl, inr}
use mathlib.Core.Bool.{true, false}
use mathlib.Core.List.{List, [], ◌∷◌, Memᴰ}
use Prim.Native.Nat.{ℕ, zero, suc, ◌^◌, ◌<◌}
use borrow.Author.Tests.{eq-eqb}
use lib.Dec.{eqb}
use lib.ListN.{length, take}
use Rattle.model.specs.Octets.{value}
use Rattle.model.specs.Schema.{Schema, Database}
use Rattle.model.specs.Rows.{key_of, has}
use Rattle.model.specs.Records.{decode}
use Rattle.model.specs.Mirror.{Mirror, level, step, number_carried, column_bytes, column_answer}
use Rattle.model.proofs.StateDemand.{through, heard_of}
use Rattle.model.specs.Refusals.{is_refusal}
use Rattle.model.specs.Areas.{MirrorState, encode_mirror, mirror_of}
use Rattle.model.specs.Limits.{mirror_bytes}
use Rattle.model.specs.Calls.{mirror_hear, asked, no_progress, progress_of, mirror_progress, no_presence, presence_of, mirror_has_row, no_contents, contents_of, mirror_column}
use Rattle.model.specs.Histories.{heard_all, Arrivals, heard_numbers}
use Rattle.model.proofs.StateDemand.{Arrive}
use Rattle.model.specs.declared.Status.{Status}
use Rattle.model.specs.declared.Status.TheVariants.{Accepted, Disordered}
use Rattle.model.proofs.TextUtf8.{by_test}
use Rattle.model.proofs.Arrivals.{said, refused_same}
use Rattle.model.proofs.Areas.{mirror_of_encode, mirror_of_length}
use Rattle.model.proofs.States.{MirrorFine, mirror_whole, step_fine, hear_answer, hear_area}

-- the mirror's state that a mirror of a run and schema is
abbrev pub mirror_at : Database → ℕ → Mirror → MirrorState
mirror_at d run m = record { run = run; database = d; mirror = m }

-- a question to it is answered by it
pub asked_there : {A : Type 0} (m : MirrorState) → MirrorFine m → (refuse : Status → A) (ask : Mirror → A) → asked (encode_mirror m) refuse ask ≡ ask m.mirror
asked_there m f refuse ask =
    let there : mirror_of (encode_mirror m) ≡ Some m = mirror_of_encode m (mirror_whole m f) in
    let size : eqb (length (encode_mirror m)) mirror_bytes ≡ true = eq-eqb (length (encode_mirror m)) mirror_bytes (mirror_of_length (encode_mirror m) m there) in
    rw (asked, size) (ap (λ (o : Option MirrorState). elim o [ None ↦ refuse Disordered | Some y ↦ ask y.mirror ]) there)

pub progress_is : (m : MirrorState) → MirrorFine m → mirror_progress (encode_mirror m) ≡ record { status = Accepted; n = m.mirror.n; level = level m.mirror }
unfolding mirror_progress
progress_is m f = asked_there m f no_progress progress_of

pub has_row_is : (m : MirrorState) → MirrorFine m → (t : ℕ) (id : List ℕ) → mirror_has_row (encode_mirror m) t id ≡ record { status = Accepted; there = has (key_of t (value id)) m.mirror.rows }
unfolding mirror_has_row
has_row_is m f t id = asked_there m f no_presence (presence_of t id)

pub column_is : (m : MirrorState) → MirrorFine m → (t : ℕ) (id : List ℕ) (c : ℕ) (out : List ℕ) → length out ≡ column_bytes
    → mirror_column (encode_mirror m) t id c out ≡ record { status = Accepted; out = column_answer m.mirror t (value id) c }
unfolding mirror_column
column_is m f t id c out l = rw (mirror_column, eq-eqb (length out) column_bytes l) (asked_there m f (no_contents out) (contents_of t id c))

-- so far as they came, arrivals are arrivals
pub arrivals_take : (sent : List (List ℕ)) (a : List ℕ) (xs : List (List ℕ)) (i : ℕ) → Arrivals sent a xs → Arrivals sent a (take i xs)
arrivals_take sent a [] zero h = tt
arrivals_take sent a [] (suc i) h = tt
arrivals_take sent a (x ∷ xs) zero h = tt
arrivals_take sent a (x ∷ xs) (suc i) h = (h.0, arrivals_take sent (mirror_hear a x).area xs i h.1)

module _ (d : Database) (run : ℕ) where
  abbrev s : Schema
  s = d.tables

  -- one arrival
  pub answer_at : (m : Mirror) → MirrorFine (mirror_at d run m) → (x : List ℕ) → (mirror_hear (encode_mirror (mirror_at d run m)) x).status ≡ (step s run m x).status
  answer_at m g x = hear_answer (mirror_at d run m) g x

  pub area_at : (m : Mirror) → MirrorFine (mirror_at d run m) → (x : List ℕ)
      → (mirror_hear (encode_mirror (mirror_at d run m)) x).area ≡ encode_mirror (mirror_at d run (step s run m x).next)
  area_at m g x = hear_area (mirror_at d run m) g x

  pub good_at : (m : Mirror) → MirrorFine (mirror_at d run m) → (x : List ℕ) → number_carried (decode x) < 256 ^ 4 → MirrorFine (mirror_at d run (step s run m x).next)
  good_at m g x h = step_fine (mirror_at d run m) g x h

  -- all arrivals, of what was sent, whose numbers have their widths, and of what is refused
  module _ (sent : List (List ℕ)) (wide : (x : List ℕ) → Memᴰ x sent → number_carried (decode x) < 256 ^ 4) where
    pub record Came (m : Mirror) (xs : List (List ℕ)) : Type 0 where
      pub good : MirrorFine (mirror_at d run (through s run m xs))
      pub area : heard_all (encode_mirror (mirror_at d run m)) xs ≡ encode_mirror (mirror_at d run (through s run m xs))
      pub numbers : heard_numbers (encode_mirror (mirror_at d run m)) xs ≡ heard_of s run m xs
      pub arrive : Arrive s run sent m xs

    pub came : (m : Mirror) → MirrorFine (mirror_at d run m) → (xs : List (List ℕ)) → Arrivals sent (encode_mirror (mirror_at d run m)) xs → Came m xs
    came m g [] a = record { good = g; area = refl; numbers = refl; arrive = tt }
    came m g (x ∷ xs) a =
        let c = came (step s run m x).next (good (now a.0)) xs (subst (λ (y : List ℕ). Arrivals sent y xs) (area_at m g x) a.1) in
        record {
          good = c.good;
          area = ap (λ (y : List ℕ). heard_all y xs) (area_at m g x) ∙ c.area;
          numbers = numbers c.numbers;
          arrive = (now a.0, c.arrive);
        }
      where
        now : Memᴰ x sent ⊎ (is_refusal (mirror_hear (encode_mirror (mirror_at d run m)) x).status ≡ true) → Memᴰ x sent ⊎ (is_refusal (step s run m x).status ≡ true)
        now (inl h) = inl h
        now (inr h) = inr (ap is_refusal (sym (answer_at m g x)) ∙ h)

        good : Memᴰ x sent ⊎ (is_refusal (step s run m x).status ≡ true) → MirrorFine (mirror_at d run (step s run m x).next)
        good (inl h) = good_at m g x (wide x h)
        good (inr h) = rw (refused_same (said s run m (decode x)) h) g

        numbers : heard_numbers (encode_mirror (mirror_at d run (step s run m x).next)) xs ≡ heard_of s run (step s run m x).next xs → heard_numbers (encode_mirror (mirror_at d run m)) (x ∷ xs) ≡ heard_of s run m (x ∷ xs)
        numbers e =
            let a : List ℕ = encode_mirror (mirror_at d run m) in
            let p : is_refusal (mirror_hear a x).status ≡ is_refusal (step s run m x).status = ap is_refusal (answer_at m g x) in
            let rest : heard_numbers (mirror_hear a x).area xs ≡ heard_of s run (step s run m x).next xs = ap (λ (y : List ℕ). heard_numbers y xs) (area_at m g x) ∙ e in
            by_test (λ (l : List ℕ). l ≡ heard_of s run m (x ∷ xs)) (is_refusal (mirror_hear a x).status)
            (λ h. let q : is_refusal (step s run m x).status ≡ true = sym p ∙ h in rw q rest)
            (λ h. let q : is_refusal (step s run m x).status ≡ false = sym p ∙ h in rw q (ap (λ (l : List ℕ). number_carried (decode x) ∷ l) rest))
