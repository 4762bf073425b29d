-- The result of an operation, by what it answers. Assumes nothing.
use mathlib.Core.Path.{◌≡◌, sym, ap, subst, ◌∙◌}
use mathlib.Core.List.{List}
use Prim.Native.Nat.{ℕ}
use native.Mathlib.Omega.{arith}
use Rattle.model.specs.Base.{ascii}
use Rattle.model.specs.Octets.{value}
use Rattle.model.specs.Answers.{insert_text}
use Rattle.json_writer.specs.Put.{Put}
use Rattle.json_writer.specs.Texts.{count_result, insert_result}
use Rattle.json_writer.proofs.Putting.{put_is}
use Rattle.operations.specs.declared.on_table.Reply.{Reply}
use Rattle.operations.specs.declared.on_table.Reply.TheVariants.{Empty, Count, Id, Rows}
use Rattle.operations.specs.Ran.{Answers}

module _ (id at : ℕ) (begun entry : List ℕ) (q : Reply) (t : List ℕ) (h : Answers id at begun entry q t) where
  is : {x : Reply} → q ≡ x → Answers id at begun entry x t
  is e = subst (λ (x : Reply). Answers id at begun entry x t) e h

  -- a text that is written where the answer is as it was
  from : {n r : ℕ} {w exit : List ℕ} → entry ≡ begun → Put n entry at w r exit → Put n begun at w r exit
  from {n} {r} {w} {exit} e p = subst (λ (b : List ℕ). Put n b at w r exit) e p

  pub result_empty : q ≡ Empty → {r : ℕ} {exit : List ℕ} → Put 2 entry at (ascii "{}") r exit → Put 200000 begun at t r exit
  unfolding Answers
  result_empty e p = let w = is e in put_is (from w.1 p) (sym w.0) (omega arith)

  pub result_count : {k : ℕ} → q ≡ Count k → {r : ℕ} {exit : List ℕ} → Put 30 entry at (count_result k) r exit → Put 200000 begun at t r exit
  unfolding Answers count_result
  result_count e p = let w = is e in put_is (from w.1 p) (sym w.0) (omega arith)

  pub result_id : q ≡ Id → (bytes : List ℕ) → value bytes ≡ id → {r : ℕ} {exit : List ℕ} → Put 68 entry at (insert_result bytes) r exit → Put 200000 begun at t r exit
  unfolding Answers insert_result
  result_id e bytes v p = let w = is e in put_is (from w.1 p) (ap insert_text v ∙ sym w.0) (omega arith)

  pub result_rows : {e : ℕ} → q ≡ Rows e → Put 200000 begun at t e entry
  unfolding Answers
  result_rows e = is e
