-- An operation by its word and its table. Assumes nothing.
use Rattle.std.specs.Prelude.{Option, Some, None}
use mathlib.Core.Path.{◌≡◌, refl, sym, ap, subst, ◌∙◌}
use mathlib.Core.Bool.{Bool, true, false, ◌&&◌}
use mathlib.Core.List.{List, [], ◌∷◌, map}
use Prim.Native.Nat.{ℕ, suc, ◌≤◌, ◌<◌}
use native.Mathlib.Omega.{arith}
use borrow.Author.Tests.{eq-eqb, ne_eqb}
use lib.Dec.{eqb}
use lib.ListN.{length, get_or, length-map}
use Rattle.model.specs.declared.Fault.TheVariants.{Fine, Syntax, Aborted}
use Rattle.model.specs.Octets.{eq_bytes}
use Rattle.model.specs.Base.{ascii, is_some, place_of}
use Rattle.model.specs.Json.{Json, null, bool, num, str, arr, obj, Named}
use Rattle.inner.specs.Positions.{tree_at}
use Rattle.model.specs.Nav.{kind_of, is_text}
use Rattle.model.specs.Members.{members_in, has_member, member_value}
use Rattle.inner.specs.Positions.{Means}
use Rattle.model.specs.Text.{is_word}
use Rattle.model.specs.Schema.{Table, Schema, table_named}
use Rattle.model.specs.Rows.{Row}
use Rattle.model.specs.Limits.{most_rows}
use Rattle.model.specs.Faults.{check}
use Rattle.model.specs.Written.{Names, string_in}
use Rattle.model.specs.Operations as Model
use Rattle.model.specs.Catalog.{packed_tables}
use Rattle.model.proofs.Tests.{split, clash}
use Rattle.members.specs.Fields.{choice_from, choice, slot_tree, Slots}
use Rattle.area.proofs.Schemas.{tables_count}
use Rattle.request_rows.specs.Assigned.{slotted}
use Rattle.request_rows.proofs.Faults.{find_there, find_missing}
use Rattle.conditions.specs.Lookup as lookup
use Rattle.operations.proofs.Slots.{slot_find}
use Rattle.operations.specs.declared.on_table.Call.{Call}
use Rattle.operations.specs.declared.on_table.Done.{Done}
use Rattle.operations.specs.declared.on_table.Reply.TheVariants.{Empty}
use Rattle.operations.specs.declared.on_table.Operation.{Operation}
use Rattle.operations.specs.declared.on_table.Operation.TheVariants.{Insert, Select, Update, Mutate, Delete, Comment, Abort, Unknown}
use Rattle.operations.specs.Ran.{Ready, Answers, performed, members_of, outcome, Effect, Silent}
use Rattle.operations.proofs.Doing.{effect_failed, effect_done}
use Rattle.operations.specs.Performed.{operation_by, operation_named, operation_in, is_on_table, Called, Begun}

-- ── comment and abort ──
and_false : (a : Bool) → (a && false) ≡ false
and_false true = refl
and_false false = refl

-- a slot stands for a string
string_is : (j : Json) → is_some (string_in j) ≡ is_text (kind_of j)
unfolding kind_of
string_is null = refl
string_is (bool b) = refl
string_is (num t) = refl
string_is (str t) = refl
string_is (arr xs) = refl
string_is (obj ms) = refl

abbrev string_or : Option Json → Option (List ℕ)
string_or o = elim o [ None ↦ None | Some j ↦ string_in j ]

string_slot : (s : List ℕ) (p : ℕ) → is_some (string_or (slotted s p)) ≡ is_text (kind_of (slot_tree s p))
unfolding slotted slot_tree kind_of
string_slot s p = split (eqb p 0) (λ e. rw (slotted, slot_tree, e) refl) (λ e. rw (slotted, slot_tree, e) (string_is (tree_at s p)))

module _ (text : List ℕ) (call : Call) {slots : List ℕ} (k : Slots text (ascii "op" ∷ ascii "comment" ∷ []) (members_of text call) slots) {t : Bool} (et : t ≡ is_text (kind_of (slot_tree text (get_or slots 1 0)))) (few : call.count ≤ most_rows)
    (names : List ℕ) (schema : List (List ℕ)) (rows : List (List (List ℕ))) where
  comment_fault : {b : Bool} → (eqb (get_or slots 9 0) 0 && t) ≡ b → (given : List (List ℕ)) → check b Syntax Fine ≡ (outcome Comment given text names schema call rows).fault
  unfolding performed
  comment_fault e given =
      sym ((λ i. check (k.listed i && (ap (λ (o : Option Json). is_some (string_or o)) (slot_find k 1 (omega arith)) ∙ string_slot text (get_or slots 1 0) ∙ sym et) i) Syntax Fine)
      ∙ ap (λ (b : Bool). check b Syntax Fine) e)

  pub comment_done : get_or slots 9 0 ≡ 0 → t ≡ true → Silent Comment text names schema call rows rows (record { fault = Fine; count = call.count; reply = Empty })
  unfolding performed Answers
  comment_done l y at out = effect_done Fine refl (few, omega arith) (λ x. x) (λ given _. (comment_fault (λ i. eq-eqb (get_or slots 9 0) 0 l i && y i) given, refl, (refl, refl))) (λ given h. refl)

  comment_failed : (eqb (get_or slots 9 0) 0 && t) ≡ false → Silent Comment text names schema call rows rows (record { fault = Syntax; count = call.count; reply = Empty })
  comment_failed e at out = effect_failed Syntax few refl (λ given _. comment_fault e given)

  pub comment_bare : t ≡ false → Silent Comment text names schema call rows rows (record { fault = Syntax; count = call.count; reply = Empty })
  comment_bare f = comment_failed (ap (λ (b : Bool). eqb (get_or slots 9 0) 0 && b) f ∙ and_false (eqb (get_or slots 9 0) 0))

  pub comment_extra : (get_or slots 9 0 ≡ 0 → ⊥) → Silent Comment text names schema call rows rows (record { fault = Syntax; count = call.count; reply = Empty })
  comment_extra f = comment_failed (ap (λ (b : Bool). b && t) (ne_eqb (get_or slots 9 0) 0 f))

module _ (text : List ℕ) (call : Call) {slots : List ℕ} (k : Slots text (ascii "op" ∷ []) (members_of text call) slots) (few : call.count ≤ most_rows) (names : List ℕ) (schema : List (List ℕ)) (rows : List (List (List ℕ))) where
  abort_fault : {b : Bool} → eqb (get_or slots 9 0) 0 ≡ b → (given : List (List ℕ)) → check b Syntax Aborted ≡ (outcome Abort given text names schema call rows).fault
  unfolding performed
  abort_fault e given = sym (ap (λ (b : Bool). check b Syntax Aborted) (k.listed ∙ e))

  pub abort_done : get_or slots 9 0 ≡ 0 → Silent Abort text names schema call rows rows (record { fault = Aborted; count = call.count; reply = Empty })
  abort_done l at out = effect_failed Aborted few refl (λ given _. abort_fault (eq-eqb (get_or slots 9 0) 0 l) given)

  pub abort_extra : (get_or slots 9 0 ≡ 0 → ⊥) → Silent Abort text names schema call rows rows (record { fault = Syntax; count = call.count; reply = Empty })
  abort_extra l at out = effect_failed Syntax few refl (λ given _. abort_fault (ne_eqb (get_or slots 9 0) 0 l) given)

-- ── the table ──
abbrev table_or : Schema → Option Json → Option ℕ
table_or s o = elim (string_or o) [ None ↦ None | Some w ↦ table_named s w ]

module _ (s : Schema) (text : List ℕ) (ms : List Named) where
  pub table_there : {f : Option ℕ} {p : ℕ} → Means text f (has_member (ascii "table") ms) (member_value (ascii "table") ms) → f ≡ Some p → {r : Option ℕ} → r ≡ (lookup.table_in s (tree_at text p)) → r ≡ (Model.table_in s ms)
  table_there m e h = h ∙ sym (ap (λ (o : Option Json). (table_or s o)) (find_there text ms m refl e).0)

  pub table_missing : {f : Option ℕ} → Means text f (has_member (ascii "table") ms) (member_value (ascii "table") ms) → f ≡ None → None ≡ (Model.table_in s ms)
  table_missing m e = sym (ap (λ (o : Option Json). (table_or s o)) (find_missing text ms m refl e))

place_small : (w : List ℕ) (ws : List (List ℕ)) (k : ℕ) → place_of w ws ≡ Some k → k < length ws
place_small w [] k e = absurd (let z : ◌≡◌ {A = ℕ} 0 1 = cc in omega arith)
place_small w (x ∷ ws) k e =
    split
    (eq_bytes w x)
    (λ h. let q : Some 0 ≡ Some k = rw (place_of, h) at e in let z : ◌≡◌ {A = ℕ} 0 k = cc in omega arith)
    (λ h. go (λ i q. place_small w ws i q) (place_of w ws) refl (rw (place_of, h) at e))
  where
    go : ((i : ℕ) → place_of w ws ≡ Some i → i < length ws) → (o : Option ℕ) → place_of w ws ≡ o → elim o [ None ↦ None | Some i ↦ Some (suc i) ] ≡ Some k → k < suc (length ws)
    go ih None q r = absurd (let z : ◌≡◌ {A = ℕ} 0 1 = cc in omega arith)
    go ih (Some i) q r = let z : suc i ≡ k = cc in let l = ih i q in omega arith

found_some : (o : Option ℕ) (k : ℕ) → o ≡ Some k → o ≡ Some k
found_some None k e = cc
found_some (Some i) k e = cc

found_none : (o : Option ℕ) → o ≡ None → o ≡ None
found_none None e = refl
found_none (Some i) e = cc

module _ (cells : List (List ℕ)) (ms : List Named) {r : Option ℕ} (e : r ≡ (Model.table_in (packed_tables cells) ms)) where
  pub table_is : {t : ℕ} → r ≡ Some t → Model.table_in (packed_tables cells) ms ≡ Some t
  table_is {t} h = found_some (Model.table_in (packed_tables cells) ms) t (sym e ∙ h)

  pub table_none : r ≡ None → Model.table_in (packed_tables cells) ms ≡ None
  table_none h = found_none (Model.table_in (packed_tables cells) ms) (sym e ∙ h)

  -- a table that is found is one of the schema's
  pub table_small : {t : ℕ} → r ≡ Some t → t < get_or (get_or cells 0 []) 25 0
  table_small {t} h = go (Model.member_as string_in (ascii "table") ms) (table_is h)
    where
      go : (o : Option (List ℕ)) → elim o [ None ↦ None | Some w ↦ table_named (packed_tables cells) w ] ≡ Some t → t < get_or (get_or cells 0 []) 25 0
      go None q = absurd (let z : ◌≡◌ {A = ℕ} 0 1 = cc in omega arith)
      go (Some w) q =
          let l = place_small w (map (λ (x : Table). x.name) (packed_tables cells)) t q in
          omega (arith, l, length-map (packed_tables cells) (λ (x : Table). x.name), tables_count cells 0 (get_or (get_or cells 0 []) 25 0))

-- ── the word ──
abbrev pub operations : List (List ℕ)
operations = ascii "insert" ∷ ascii "select" ∷ ascii "update" ∷ ascii "mutate" ∷ ascii "delete" ∷ ascii "comment" ∷ ascii "abort" ∷ []

numbered : (a b c d e f g : Bool)
    → operation_by (elim a [ true ↦ 0 | false ↦ elim b [ true ↦ 1 | false ↦ elim c [ true ↦ 2 | false ↦ elim d [ true ↦ 3 | false ↦ elim e [ true ↦ 4 | false ↦ elim f [ true ↦ 5 | false ↦ elim g [ true ↦ 6 | false ↦ 9 ] ] ] ] ] ] ])
    ≡ elim a [ true ↦ Insert | false ↦ elim b [ true ↦ Select | false ↦ elim c [ true ↦ Update | false ↦ elim d [ true ↦ Mutate | false ↦ elim e [ true ↦ Delete | false ↦ elim f [ true ↦ Comment | false ↦ elim g [ true ↦ Abort | false ↦ Unknown ] ] ] ] ] ] ]
unfolding operation_by
numbered true b c d e f g = refl
numbered false true c d e f g = refl
numbered false false true d e f g = refl
numbered false false false true e f g = refl
numbered false false false false true f g = refl
numbered false false false false false true g = refl
numbered false false false false false false true = refl
numbered false false false false false false false = refl

abbrev named_or : Option (List ℕ) → Operation
named_or o = elim o [ None ↦ Unknown | Some w ↦ operation_named w ]

-- by its number or by its word, an operation is the same
by_word : (j : Json) → operation_by (choice operations j) ≡ named_or (string_in j)
unfolding operation_by operation_named choice choice_from is_word
by_word null = refl
by_word (bool b) = refl
by_word (num t) = refl
by_word (str w) =
    numbered
    (eq_bytes w (ascii "insert"))
    (eq_bytes w (ascii "select"))
    (eq_bytes w (ascii "update"))
    (eq_bytes w (ascii "mutate"))
    (eq_bytes w (ascii "delete"))
    (eq_bytes w (ascii "comment"))
    (eq_bytes w (ascii "abort"))
by_word (arr xs) = refl
by_word (obj m) = refl

module _ (text : List ℕ) (ms : List Named) {f : Option ℕ} (m : Means text f (has_member (ascii "op") ms) (member_value (ascii "op") ms)) where
  pub operation_there : {p k : ℕ} {r : Operation} → f ≡ Some p → k ≡ choice operations (tree_at text p) → r ≡ operation_by k → r ≡ operation_in ms
  unfolding operation_in
  operation_there {p} e h q = q ∙ ap operation_by h ∙ by_word (tree_at text p) ∙ sym (ap (λ (o : Option Json). named_or (string_or o)) (find_there text ms m refl e).0)

  pub operation_missing : f ≡ None → Unknown ≡ operation_in ms
  unfolding operation_in
  operation_missing e = sym (ap (λ (o : Option Json). named_or (string_or o)) (find_missing text ms m refl e))

-- ── what the model does ──
module _ (s : Schema) (names : Names) (given : List (List ℕ)) (id : ℕ) (rows : List Row) (ms : List Named) where
  abbrev does : Operation → ℕ → Model.Done
  does k t = performed k s names given id rows ms t

  -- an operation by its table
  abbrev does_on : Operation → Option ℕ → Model.Done
  does_on k o = elim (is_on_table k) [ true ↦ elim o [ None ↦ Model.failed Syntax rows | Some t ↦ does k t ] | false ↦ does k 0 ]

  one_of : (o : Option ℕ) (a b c d e f g : Bool)
      → elim a [
        | true ↦ Model.on_table s (Model.run_insert names given id rows ms) rows o
        | false ↦ elim b [
          | true ↦ Model.on_table s (Model.run_select names rows ms) rows o
          | false ↦ elim c [
            | true ↦ Model.on_table s (Model.run_update names rows ms) rows o
            | false ↦ elim d [
              | true ↦ Model.on_table s (Model.run_mutate names rows ms) rows o
              | false ↦ elim e [
                | true ↦ Model.on_table s (Model.run_delete names rows ms) rows o
                | false ↦ elim f [ true ↦ Model.run_comment rows ms | false ↦ elim g [ true ↦ Model.run_abort rows ms | false ↦ Model.failed Syntax rows ] ]
              ]
            ]
          ]
        ]
      ]
      ≡ does_on (elim a [ true ↦ Insert | false ↦ elim b [ true ↦ Select | false ↦ elim c [ true ↦ Update | false ↦ elim d [ true ↦ Mutate | false ↦ elim e [ true ↦ Delete | false ↦ elim f [ true ↦ Comment | false ↦ elim g [ true ↦ Abort | false ↦ Unknown ] ] ] ] ] ] ]) o
  unfolding performed
  one_of None true b c d e f g = refl
  one_of (Some t) true b c d e f g = refl
  one_of None false true c d e f g = refl
  one_of (Some t) false true c d e f g = refl
  one_of None false false true d e f g = refl
  one_of (Some t) false false true d e f g = refl
  one_of None false false false true e f g = refl
  one_of (Some t) false false false true e f g = refl
  one_of None false false false false true f g = refl
  one_of (Some t) false false false false true f g = refl
  one_of o false false false false false true g = refl
  one_of o false false false false false false true = refl
  one_of o false false false false false false false = refl

  by_name : (w : Option (List ℕ)) → Model.perform s names given id rows ms w ≡ does_on (named_or w) (Model.table_in s ms)
  unfolding performed operation_named
  by_name None = refl
  by_name (Some w) =
      one_of
      (Model.table_in s ms)
      (eq_bytes w (ascii "insert"))
      (eq_bytes w (ascii "select"))
      (eq_bytes w (ascii "update"))
      (eq_bytes w (ascii "mutate"))
      (eq_bytes w (ascii "delete"))
      (eq_bytes w (ascii "comment"))
      (eq_bytes w (ascii "abort"))

  module _ {k : Operation} (ek : k ≡ operation_in ms) where
    operates : Model.operate s names given id rows ms ≡ does_on k (Model.table_in s ms)
    unfolding operation_in
    operates = by_name (Model.member_as string_in (ascii "op") ms) ∙ ap (λ (j : Operation). does_on j (Model.table_in s ms)) (sym ek)

    module _ (on : is_on_table k ≡ true) where
      on_table_lem : Model.operate s names given id rows ms ≡ elim (Model.table_in s ms) [ None ↦ Model.failed Syntax rows | Some t ↦ does k t ]
      on_table_lem =
          operates
          ∙ ap (λ (b : Bool). elim b [ true ↦ elim (Model.table_in s ms) [ None ↦ Model.failed Syntax rows | Some t ↦ does k t ] | false ↦ does k 0 ]) on

      pub operates_on : {t : ℕ} → Model.table_in s ms ≡ Some t → Model.operate s names given id rows ms ≡ does k t
      operates_on e = on_table_lem ∙ ap (λ (o : Option ℕ). elim o [ None ↦ Model.failed Syntax rows | Some t ↦ does k t ]) e

      pub operates_nowhere : Model.table_in s ms ≡ None → Model.operate s names given id rows ms ≡ does Unknown 0
      unfolding performed
      operates_nowhere e = on_table_lem ∙ ap (λ (o : Option ℕ). elim o [ None ↦ Model.failed Syntax rows | Some t ↦ does k t ]) e

    pub operates_off : is_on_table k ≡ false → Model.operate s names given id rows ms ≡ does k 0
    operates_off off =
        operates
        ∙ ap (λ (b : Bool). elim b [ true ↦ elim (Model.table_in s ms) [ None ↦ Model.failed Syntax rows | Some t ↦ does k t ] | false ↦ does k 0 ]) off

-- ── a call ──
module _ (text : List ℕ) (cells : List (List ℕ)) {i op n : ℕ} {k : Operation} (ek : k ≡ operation_in (members_in (tree_at text op))) where
  pub called_off : is_on_table k ≡ false → Called text cells i op n (record { operation = k; number = i; at = op; table = 0; count = n })
  called_off off =
      record {
        number = refl;
        at = refl;
        count = refl;
        does = λ names given id rows. operates_off (packed_tables cells) names given id rows (members_in (tree_at text op)) ek off;
        here = λ on. absurd (clash (is_on_table k) on off);
      }

  module _ (on : is_on_table k ≡ true) {f : Option ℕ} (ef : f ≡ (Model.table_in (packed_tables cells) (members_in (tree_at text op)))) where
    pub called_on : {t : ℕ} → f ≡ Some t → Called text cells i op n (record { operation = k; number = i; at = op; table = t; count = n })
    called_on h =
        record {
          number = refl;
          at = refl;
          count = refl;
          does = λ names given id rows. operates_on (packed_tables cells) names given id rows (members_in (tree_at text op)) ek on (table_is cells (members_in (tree_at text op)) ef h);
          here = λ _. table_small cells (members_in (tree_at text op)) ef h;
        }

    pub called_nowhere : f ≡ None → Called text cells i op n (record { operation = Unknown; number = i; at = op; table = 0; count = n })
    called_nowhere h =
        record {
          number = refl;
          at = refl;
          count = refl;
          does = λ names given id rows. operates_nowhere (packed_tables cells) names given id rows (members_in (tree_at text op)) ek on (table_none cells (members_in (tree_at text op)) ef h);
          here = λ x. absurd (clash false x refl);
        }

-- ── what is done is what the call is ──
module _ {text ends names : List ℕ} {schema : List (List ℕ)} {call : Call} {rows : List (List (List ℕ))} (b : Begun text ends names schema call rows) where
  pub ready : is_on_table call.operation ≡ true → Ready text ends names schema call rows
  ready on =
      record {
        running = b.running;
        well = b.well;
        early = b.early;
        accepted = b.accepted;
        here = b.here on;
        count = b.count;
        room = b.room;
      }

  pub unknown_done : {at : ℕ} {out : List ℕ} → Effect Unknown text names schema call rows rows at out out (record { fault = Syntax; count = call.count; reply = Empty })
  unfolding performed
  unknown_done = effect_failed Syntax b.count refl (λ _ _. refl)

pub effect_as : {j k : Operation} {text names : List ℕ} {schema : List (List ℕ)} {call : Call} {entry exit : List (List (List ℕ))} {at : ℕ} {before after : List ℕ} {r : Done}
    → k ≡ j → Effect j text names schema call entry exit at before after r → Effect k text names schema call entry exit at before after r
effect_as {text = text} {names} {schema} {call} {entry} {exit} {at} {before} {after} {r} e d = subst (λ (k : Operation). Effect k text names schema call entry exit at before after r) (sym e) d
