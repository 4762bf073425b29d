-- Where a run stands between two operations. Assumes nothing.
use Rattle.std.specs.Prelude.{Option, Some, None}
use mathlib.Core.Path.{◌≡◌, refl, sym, ap, subst, subst₃, ◌∙◌}
use mathlib.Core.List.{List, [], ◌∷◌, ◌++◌, append-nil}
use mathlib.Core.Bool.{Bool, true, false, ◌||◌}
use Prim.Native.Nat.{ℕ, ◌+◌, ◌*◌, ◌≤◌, ◌<◌}
use native.Mathlib.Omega.{arith}
use lib.Dec.{eqb}
use borrow.Author.Tests.{eqb-true}
use lib.ListN.{length, take}
use Rattle.model.specs.declared.Fault.TheVariants.{Fine}
use Rattle.inner.specs.Positions.{tree_at, next_item, items_from, items_fine}
use Rattle.model.specs.Members.{members_in}
use Rattle.model.specs.Schema.{Schema}
use Rattle.model.specs.Catalog.{packed_tables}
use Rattle.model.specs.Faults.{is_fine}
use Rattle.inner.specs.Working.{working, Tidy}
use Rattle.model.specs.Transact as model
use Rattle.model.specs.Transact.{insert_name, with_name, followed}
use Rattle.model.proofs.Tests.{split, clash, or_l, or_r}
use Rattle.nav.proofs.Walk.{walk_rest, walk_fine}
use Rattle.json_writer.specs.Put.{Put}
use Rattle.json_writer.specs.Texts.{comma_text, joined, error_result}
use Rattle.json_writer.proofs.Putting.{put_then, put_is, Due, due_all, due_is, due_next, due_none}
use Rattle.fresh.specs.Fresh.{fresh_at}
use Rattle.uuids.specs.Named.{operations_at, names_at, place_in, place_named}
use Rattle.operations.specs.Clauses.{Earlier}
use Rattle.operations.specs.declared.on_table.Call.{Call}
use Rattle.operations.specs.declared.on_table.Done.{Done}
use Rattle.operations.specs.Ran as single
use Rattle.operations.proofs.Doing.{ran_as}
use Rattle.operations.specs.Performed.{Called}
use Rattle.operations.specs.declared.Finish.{Finish}
use Rattle.operations.specs.Running.{run_from, run_whole, nulls_from, Stopped, AllDone}
use Rattle.operations.proofs.Next.{Naming, naming_first, naming_earlier, naming_on, run_first, done, run_end, run_fine, run_bad, stopped_text}

not_first : (i : ℕ) → eqb (i + 1) 0 ≡ false
not_first i = split (eqb (i + 1) 0) (λ t. absurd (omega (arith, eqb-true (i + 1) 0 t))) (λ t. t)

module _ (schema : List (List ℕ)) (text : List ℕ) (ops : Option ℕ) (names : List ℕ) (rows₀ : List (List (List ℕ))) (n : ℕ) (answer₀ : List ℕ) (at₀ : ℕ) where
  abbrev whole : model.Ran
  whole = run_whole (packed_tables schema) text ops names (working (packed_tables schema) n rows₀)

  -- after i operations, with m rows left: what the operations from g on do is what is still due
  pub record Going (rows : List (List (List ℕ))) (answer : List ℕ) (at : ℕ) (g : Option ℕ) (i m : ℕ) (pending : Bool) : Type 0 where
    pub given : List (List ℕ)
    pub naming : (w : List ℕ) → Naming text ops given i g w
    pub fault : whole.fault ≡ (run_from (packed_tables schema) text names given i (working (packed_tables schema) m rows) g).fault
    pub left : whole.rows ≡ (run_from (packed_tables schema) text names given i (working (packed_tables schema) m rows) g).rows
    pub due : Due answer₀ at₀ (joined true whole.results) answer at (joined (eqb i 0) (run_from (packed_tables schema) text names given i (working (packed_tables schema) m rows) g).results)
    pub same : pending ≡ false → working (packed_tables schema) m rows ≡ working (packed_tables schema) n rows₀
    pub fine : items_fine text g ≡ true
    pub size : i + length (items_from text g) ≤ 16
    pub short : at ≤ at₀ + 200001 * i
    pub few : m ≤ 32
    pub room : single.Room m (length (items_from text g)) rows
    pub tidy : Tidy (packed_tables schema) (take n rows₀) → Tidy (packed_tables schema) (take m rows)

  pub going_start : items_fine text ops ≡ true → length (items_from text ops) ≤ 16 → (n ≤ 32) × single.Room n (length (items_from text ops)) rows₀ → Going rows₀ answer₀ at₀ ops 0 n false
  going_start f l h =
      let e = run_first (packed_tables schema) text ops names (working (packed_tables schema) n rows₀) in
      record {
        given = [];
        naming = naming_first text ops;
        fault = ap (λ r. r.fault) e;
        left = ap (λ r. r.rows) e;
        due = due_is (due_all answer₀ at₀ (joined true whole.results)) (ap (λ r. joined true r.results) e);
        same = λ _. refl;
        fine = f;
        size = omega arith;
        short = omega arith;
        few = h.0;
        room = h.1;
        tidy = λ t. t;
      }

module _ {schema : List (List ℕ)} {text : List ℕ} {ops : Option ℕ} {names : List ℕ} {rows₀ : List (List (List ℕ))} {n : ℕ} {answer₀ : List ℕ} {at₀ : ℕ} {rows : List (List (List ℕ))} {answer : List ℕ} {at : ℕ} {g : Option ℕ} {i m : ℕ} {pending : Bool}
    (c : Going schema text ops names rows₀ n answer₀ at₀ rows answer at g i m pending) where
  abbrev s : Schema
  s = packed_tables schema

  going_earlier : ((w : List ℕ) → place_in text names w ≡ place_named 0 w (operations_at text ops)) → Earlier text names i c.given
  going_earlier same = naming_earlier text ops names same c.naming

  pub going_end : {before : List ℕ} → Put 1 before 0 (91 ∷ []) at₀ answer₀ → g ≡ None → AllDone text ops names schema n rows₀ rows before answer (record { fault = Fine; pending = pending; count = m; at = at })
  going_end first h =
      let e = run_end s text ops names c.given i (working s m rows) h in
      record {
        fault = sym (c.fault ∙ ap (λ r. r.fault) e);
        fine = λ _. refl;
        same = λ h f. c.left ∙ ap (λ r. r.rows) e ∙ c.same h;
        few = c.few;
        long = c.room m (omega arith) c.few;
        rows = λ f. sym (c.left ∙ ap (λ r. r.rows) e);
        tidy = λ f t. c.tidy t;
        free = λ f t. c.tidy t;
        answer = put_then first (due_none (due_is c.due (ap (λ r. joined (eqb i 0) r.results) e)) 3999999 (omega (arith, c.short, c.size)));
      }

  module _ {p : ℕ} (h : g ≡ Some p) where
    pub going_more : i < 16
    going_more = omega (arith, c.size, ap length (walk_rest text h))

    module _ (places : (w : List ℕ) → place_in text names w ≡ place_named 0 w (operations_at text ops)) {answer1 answer2 : List ℕ} {at1 : ℕ} {rows2 : List (List (List ℕ))} {call : Call} {r : Done}
        (comma : Put 1 answer at (comma_text (eqb i 0)) at1 answer1) (called : Called text schema i p m call) (effect : single.Effect call.operation text names schema call rows rows2 at1 answer1 answer2 r) (kept : length rows2 ≡ length rows) where
      -- what the operation of a call does is what operation i does
      did : single.Ran s (done s text ops names c.given i (working s m rows) p) (single.Answers (fresh_at names i) at1 answer1 answer2) m rows rows2 r
      unfolding fresh_at
      did =
          ran_as (called.does (names_at text names) c.given (fresh_at names i) (working s m rows))
          (subst₃ (λ (j q k : ℕ). Earlier text names j c.given → single.Ran s (single.performed call.operation s (names_at text names) c.given (fresh_at names j) (working s k rows) (members_in (tree_at text q)) call.table) (single.Answers (fresh_at names j) at1 answer1 answer2) k rows rows2 r)
          called.number called.at called.count (effect.does c.given) (going_earlier places))

      pub going_on : is_fine r.fault ≡ true → {answer3 : List ℕ} {at2 : ℕ}
          → ((begun t : List ℕ) → single.Answers (fresh_at names i) at1 begun answer2 r.reply t → Put 200000 begun at1 t at2 answer3)
          → {k : ℕ} → k ≡ i + 1 → {g2 : Option ℕ} → g2 ≡ next_item text p → {moved : Bool} → moved ≡ single.may_change r.reply → Going schema text ops names rows₀ n answer₀ at₀ rows2 answer3 at2 g2 k r.count (pending || moved)
      going_on f put {k} ek {g2} eg {moved} em =
          let o = done s text ops names c.given i (working s m rows) p in
          let w = put answer1 o.answer (did.reply f) in
          let more = with_name (insert_name (members_in (tree_at text p))) c.given in
          let e : run_from s text names c.given i (working s m rows) g ≡ followed o.answer (run_from s text names more (i + 1) (working s r.count rows2) (next_item text p)) =
          run_fine s text ops names c.given i (working s m rows) h (ap is_fine (sym did.fault) ∙ f)
          ∙ ap (λ l. followed o.answer (run_from s text names more (i + 1) l (next_item text p))) (sym (did.rows f)) in
          rw (ek, eg) (record {
            given = more;
            naming = naming_on text ops h c.naming;
            fault = c.fault ∙ ap (λ r. r.fault) e;
            left = c.left ∙ ap (λ r. r.rows) e;
            due = due_is (due_next (due_next (due_is c.due (ap (λ r. joined (eqb i 0) r.results) e)) comma) w) (ap (λ b. joined b (run_from s text names more (i + 1) (working s r.count rows2) (next_item text p)).results) (sym (not_first i)));
            same = λ x. did.rows f ∙ did.same f (sym em ∙ or_r pending moved x) ∙ c.same (or_l pending moved x);
            fine = (walk_fine text h c.fine).1;
            size = omega (arith, c.size, ap length (walk_rest text h));
            short = omega (arith, c.short, comma.short, w.short);
            few = did.few;
            room = λ (j : ℕ) (low : j ≤ r.count + length (items_from text (next_item text p))) (h2 : j ≤ 32). omega (arith, kept, c.room j (omega (arith, low, did.grown, ap length (walk_rest text h))) h2);
            tidy = λ t. did.tidy (c.tidy t);
          })

      pub going_stop : {before : List ℕ} → Put 1 before 0 (91 ∷ []) at₀ answer₀ → is_fine r.fault ≡ false → {g2 : Option ℕ} → g2 ≡ next_item text p
          → {answer3 : List ℕ} {x : Finish} → Stopped text g2 r.fault m at1 answer2 answer3 x → AllDone text ops names schema n rows₀ rows2 before answer3 x
      going_stop first f {g2} eg {answer3} {x} y =
          let o = done s text ops names c.given i (working s m rows) p in
          let e = run_bad s text ops names c.given i (working s m rows) h (ap is_fine (sym did.fault) ∙ f) in
          let t = ap (λ r. joined (eqb i 0) r.results) e ∙ stopped_text text o.fault (working s m rows) (next_item text p) (eqb i 0) in
          let end = ap (λ l. comma_text (eqb i 0) ++ l) (sym (append-nil (error_result o.fault ++ joined false (nulls_from text (next_item text p))))) in
          let w : Put 123 answer1 at1 (error_result o.fault ++ joined false (nulls_from text (next_item text p))) x.at answer3 =
          put_is (subst (λ b. Put 123 b at1 (error_result r.fault ++ joined false (nulls_from text g2)) x.at answer3) (effect.answer f) y.answer) (λ j. error_result (did.fault j) ++ joined false (nulls_from text (eg j))) (omega arith) in
          let bad : is_fine x.fault ≡ false = ap is_fine y.fault ∙ f in
          record {
            fault = y.fault ∙ did.fault ∙ sym (c.fault ∙ ap (λ r. r.fault) e);
            fine = λ q. absurd (clash x.pending q y.idle);
            same = λ _ q. absurd (clash (is_fine x.fault) q bad);
            few = let z = y.count in omega (arith, c.few);
            long = let z = y.count in omega (arith, kept, c.room m (omega arith) c.few);
            rows = λ q. absurd (clash (is_fine x.fault) q bad);
            tidy = λ q. absurd (clash (is_fine x.fault) q bad);
            free = λ _ q. subst (λ (k : ℕ). Tidy s (take k rows2)) (did.still f ∙ sym y.count) (did.tidy (c.tidy q));
            answer = put_then first (due_none (due_next (due_next (due_is c.due (t ∙ end)) comma) w) 3999999 (omega (arith, c.short, comma.short, w.short, going_more)));
          }
