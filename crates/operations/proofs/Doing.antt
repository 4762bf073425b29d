-- How an operation's fault comes of its members, and what it does where there is none. Assumes nothing.
use Rattle.std.specs.Prelude.{Option}
use mathlib.Core.Path.{◌≡◌, refl, sym, ap, subst, ◌∙◌}
use mathlib.Core.Bool.{Bool, true, false}
use mathlib.Core.List.{List, [], ◌∷◌, ◌++◌, map, append-nil}
use Prim.Native.Nat.{ℕ, ◌+◌, ◌≤◌, ◌<◌}
use native.Mathlib.Omega.{arith}
use borrow.Author.Tests.{ltb-true}
use lib.Dec.{eqb, ltb}
use lib.ListN.{length, get_or, take, drop, replicate, length-map, length-take}
use lib.Seq.{length-take-le}
use Rattle.model.specs.declared.Fault.{Fault}
use Rattle.model.specs.declared.Fault.TheVariants.{Fine, Syntax, Resources}
use Rattle.model.specs.Limits.{most_rows}
use Rattle.model.specs.Base.{ascii, count}
use Rattle.model.specs.Schema.{Column, Schema, columns_of}
use Rattle.model.specs.Value.{Value, initial}
use Rattle.model.specs.Octets.{value}
use Rattle.model.specs.Rows.{Row, add}
use Rattle.model.specs.Faults.{is_fine, earlier, worst, check, Judged}
use Rattle.model.specs.Written.{member_named}
use Rattle.model.specs.Conditions.{Test, matches}
use Rattle.model.specs.Mutations.{Mutation}
use Rattle.model.specs.Answers.{count_text}
use Rattle.model.specs.SchemaText.{only}
use Rattle.model.specs.Operations as Model
use Rattle.model.specs.Catalog.{column_from, packed_tables}
use Rattle.model.specs.Areas.{row_from}
use Rattle.inner.specs.Working.{working, Tidy}
use Rattle.model.proofs.Tests.{split, clash}
use Rattle.model.proofs.FaultLaws.{fine_is, earlier_fine, earlier_first, earlier_last, earlier_assoc, check_true}
use Rattle.members.specs.Fields.{Slots}
use Rattle.uuids.specs.Named.{names_at}
use Rattle.rows.specs.Post.{Added}
use Rattle.marks.specs.Marks.{OfTable, MarkedRows, marked, Deleted}
use Rattle.marks.proofs.Marking.{marked_front, marked_count}
use Rattle.conditions.specs.Tests.{TestsNarrowed}
use Rattle.mutations.specs.Rows.{MarkedMutated}
use Rattle.fresh.specs.Fresh.{fresh_at, FreshId}
use Rattle.json_writer.proofs.Putting.{put_is}
use Rattle.selection.specs.declared.Columns.{Columns}
use Rattle.selection.specs.Shown.{slot_well, Flagged, ColumnsRead}
use Rattle.selection.specs.Picks.{selected, Selected}
use Rattle.request_rows.specs.Assigned.{slotted, written_row, RowRead, Born, Updates}
use Rattle.request_rows.proofs.Rows.{inserted_row}
use Rattle.request_rows.proofs.Updates.{updated_rows}
use Rattle.operations.specs.Clauses.{SlotFine, where_at, mutations_in, row_at, Earlier}
use Rattle.operations.proofs.Unmoved.{update_none, delete_none, mutate_none, counts_none}
use Rattle.operations.proofs.Slots.{slot_find, slot_fine_lem, where_by, mutations_by, row_by, row_fine, row_as}
use Rattle.operations.specs.declared.on_table.Call.{Call}
use Rattle.operations.specs.declared.on_table.Done.{Done}
use Rattle.operations.specs.declared.on_table.Matched.{Matched}
use Rattle.operations.specs.declared.on_table.Operation.{Operation}
use Rattle.operations.specs.declared.on_table.Operation.TheVariants.{Insert, Select, Update, Mutate, Delete}
use Rattle.operations.specs.declared.on_table.Reply.{Reply}
use Rattle.operations.specs.declared.on_table.Reply.TheVariants.{Empty, Count, Id, Rows}
use Rattle.operations.specs.Ran.{Ready, Ran, may_change, Answers, performed, members_of, outcome, is_mutate, Effect, Silent, TableColumns, Words, tests_of, Matching, listed_fault, count_unless, room_fault}

-- ── the fault of several checks ──
worst_two : (a b : Fault) → worst (a ∷ b ∷ []) ≡ earlier a b
worst_two a b = ap (earlier a) (earlier_last b)

worst_three : (a b c : Fault) → worst (a ∷ b ∷ c ∷ []) ≡ earlier a (earlier b c)
worst_three a b c = ap (earlier a) (worst_two b c)

-- a third fault behind two
worst_behind : {f x v : Fault} (a b c : Fault) → f ≡ earlier x v → x ≡ earlier a b → v ≡ c → f ≡ worst (a ∷ b ∷ c ∷ [])
worst_behind a b c e p q = e ∙ (λ i. earlier (p i) (q i)) ∙ sym (worst_three a b c ∙ earlier_assoc a b c)

pub listed_is : (p : ℕ) {b : Bool} → eqb p 0 ≡ b → check b Syntax Fine ≡ listed_fault p
unfolding listed_fault
listed_is p e = sym (ap (λ (b : Bool). check b Syntax Fine) e)

pub room_is : (n : ℕ) {b : Bool} → ltb n most_rows ≡ b → check b Resources Fine ≡ room_fault n
unfolding room_fault
room_is n e = sym (ap (λ (b : Bool). check b Resources Fine) e)

-- ── an operation that fails, and one that is done ──
pub ran_failed : {s : Schema} {d : Model.Done} {replies : Reply → List ℕ → Type 0} {n : ℕ} {rows : List (List (List ℕ))} {f : Fault} {q : Reply}
    → n ≤ most_rows → f ≡ d.fault → is_fine f ≡ false → Ran s d replies n rows rows (record { fault = f; count = n; reply = q })
ran_failed {f = f} few e bad =
    record {
      fault = e;
      few = few;
      grown = omega arith;
      rows = λ y. absurd (clash (is_fine f) y bad);
      reply = λ y. absurd (clash (is_fine f) y bad);
      same = λ y. absurd (clash (is_fine f) y bad);
      still = λ _. refl;
      tidy = λ t. t;
    }

pub ran_done : {s : Schema} {d : Model.Done} {replies : Reply → List ℕ → Type 0} {n m : ℕ} {entry exit : List (List (List ℕ))} {f : Fault} {q : Reply}
    → (m ≤ most_rows) × (m ≤ n + 1) → f ≡ d.fault → is_fine f ≡ true → working s m exit ≡ d.rows → (Tidy s (take n entry) → Tidy s (take m exit)) → replies q d.answer
    → (may_change q ≡ false → d.rows ≡ working s n entry) → Ran s d replies n entry exit (record { fault = Fine; count = m; reply = q })
ran_done {f = f} few e y rows tidy reply same =
    record {
      fault = sym (fine_is f y) ∙ e;
      few = few.0;
      grown = few.1;
      rows = λ _. rows;
      reply = λ _. reply;
      same = λ _. same;
      still = λ x. absurd (clash true refl x);
      tidy = tidy;
    }

-- what was done is what the operation is
pub ran_as : {s : Schema} {d x : Model.Done} {replies : Reply → List ℕ → Type 0} {n : ℕ} {entry exit : List (List (List ℕ))} {r : Done}
    → x ≡ d → Ran s d replies n entry exit r → Ran s x replies n entry exit r
ran_as {s} {replies = replies} {n} {entry} {exit} {r} e o = subst (λ (y : Model.Done). Ran s y replies n entry exit r) (sym e) o

module _ {k : Operation} {text names : List ℕ} {schema : List (List ℕ)} {call : Call} (f : Fault) where
  pub effect_failed : {rows : List (List (List ℕ))} → call.count ≤ most_rows → is_fine f ≡ false → ((given : List (List ℕ)) → Earlier text names call.number given → f ≡ (outcome k given text names schema call rows).fault)
      → {at : ℕ} {out : List ℕ} → Effect k text names schema call rows rows at out out (record { fault = f; count = call.count; reply = Empty })
  effect_failed few bad e = record { does = λ given g. ran_failed few (e given g) bad; rows = λ _ _. refl; answer = λ _. refl }

  pub effect_done : {entry exit : List (List (List ℕ))} {at m : ℕ} {before after : List ℕ} {q : Reply} → is_fine f ≡ true → (m ≤ most_rows) × (m ≤ call.count + 1)
      → (Tidy (packed_tables schema) (take call.count entry) → Tidy (packed_tables schema) (take m exit))
      → ((given : List (List ℕ)) → Earlier text names call.number given → (f ≡ (outcome k given text names schema call entry).fault) × (working (packed_tables schema) m exit ≡ (outcome k given text names schema call entry).rows) × Answers (fresh_at names call.number) at before after q (outcome k given text names schema call entry).answer)
      → ((given : List (List ℕ)) → may_change q ≡ false → (outcome k given text names schema call entry).rows ≡ working (packed_tables schema) call.count entry)
      → Effect k text names schema call entry exit at before after (record { fault = Fine; count = m; reply = q })
  effect_done y few tidy e same =
      record {
        does = λ given g. let p = e given g in ran_done few p.0 y p.1 tidy p.2 (same given);
        rows = λ _ bad. absurd (clash true refl bad);
        answer = λ bad. absurd (clash true refl bad);
      }

-- ── the rows that match ──
-- the rows of a call are there
pub enough : {text ends names : List ℕ} {schema : List (List ℕ)} {call : Call} {rows : List (List (List ℕ))} → Ready text ends names schema call rows → call.count ≤ length rows
enough {call = call} r = r.room call.count (omega arith) r.count

-- the first rows of a call
pub front : {text ends names : List ℕ} {schema : List (List ℕ)} {call : Call} {rows : List (List (List ℕ))} → Ready text ends names schema call rows
    → (call.count ≡ length (take call.count rows)) × (length (take call.count rows) ≤ most_rows)
front {call = call} {rows} r = let few = r.count in let e = length-take-le call.count rows (enough r) in (sym e, omega arith)

module _ (text names : List ℕ) (schema : List (List ℕ)) (call : Call) {columns ws : List (List ℕ)} {slots : List ℕ} (k : Slots text ws (members_of text call) slots) (words : Words ws) (here : TableColumns schema call.table columns) where
  tests_by : tests_of text names schema call ≡ where_at text names columns (get_or slots 2 0)
  unfolding tests_of
  tests_by =
      ap (λ (cs : List Column). Model.read_where (names_at text names) cs (members_of text call)) here.same
      ∙ where_by text names columns (members_of text call) (get_or slots 2 0) (ap (λ (w : List ℕ). member_named w (members_of text call)) (sym words.third) ∙ slot_find k 2 words.long)

  pub matching : {rows : List (List (List ℕ))} {l w f : Fault} {before after : List Bool} → l ≡ listed_fault (get_or slots 9 0) → OfTable call.table (take call.count rows) before
      → TestsNarrowed (map column_from columns) (where_at text names columns (get_or slots 2 0)) w (take call.count rows) before after → f ≡ earlier l w
      → Matching text names schema ws call rows (record { slots = slots; fault = f; marks = after })
  unfolding listed_fault
  matching {rows} {l} {w} {after = after} el o t ef =
      record {
        slots = k;
        fault = ef ∙ (λ i. earlier ((el ∙ ap (λ (b : Bool). check b Syntax Fine) (sym k.listed)) i) ((t.fault ∙ ap (λ (j : Judged (List Test)). j.fault) (sym tests_by)) i));
        marks = λ y. subst (λ (cs : List Column). Marked cs (tests_of text names schema call)) (sym here.same)
            (subst (Marked (map column_from columns)) (sym tests_by) (t.marks (ap is_fine (sym t.fault) ∙ (earlier_fine l w (ap is_fine (sym ef) ∙ y)).1) call.table o));
      }
    where
      Marked : List Column → Judged (List Test) → Type 0
      Marked cs j = MarkedRows cs j.got call.table (length (take call.count rows)) (take call.count rows) after

module _ {text names : List ℕ} {schema ws : List (List ℕ)} {call : Call} {rows : List (List (List ℕ))} {m : Matched} (k : Matching text names schema ws call rows m) (long : call.count ≤ length rows) (y : is_fine m.fault ≡ true) where
  marks_all : MarkedRows (columns_of (packed_tables schema) call.table) (tests_of text names schema call).got call.table call.count rows m.marks
  marks_all = marked_front (columns_of (packed_tables schema) call.table) (tests_of text names schema call).got call.table call.count rows m.marks (k.marks y) long

  -- the reply's count is that of the rows that match
  count_is : {c : ℕ} → c ≡ marked m.marks call.count → c ≡ count (matches call.table (tests_of text names schema call).got) (working (packed_tables schema) call.count rows)
  count_is e =
      e ∙ marked_count (columns_of (packed_tables schema) call.table) (tests_of text names schema call).got call.table rows m.marks (packed_tables schema) refl call.count long marks_all

  count_all : {c : ℕ} → c ≡ marked m.marks call.count → count_text (count (matches call.table (tests_of text names schema call).got) (working (packed_tables schema) call.count rows)) ≡ count_text c
  count_all e = sym (ap count_text (count_is e))

  -- where it is 0 no row matches
  count_none : {c : ℕ} → c ≡ marked m.marks call.count → may_change (Count c) ≡ false → count (matches call.table (tests_of text names schema call).got) (working (packed_tables schema) call.count rows) ≡ 0
  count_none e h = counts_none (count_is e) h

-- ── delete ──
abbrev delete_words : List (List ℕ)
delete_words = ascii "op" ∷ ascii "table" ∷ ascii "where" ∷ []

module _ {text names : List ℕ} {schema : List (List ℕ)} {call : Call} {rows : List (List (List ℕ))} {m : Matched} (k : Matching text names schema delete_words call rows m) where
  pub delete_fault_lem : (given : List (List ℕ)) → m.fault ≡ (outcome Delete given text names schema call rows).fault
  unfolding performed tests_of
  delete_fault_lem given = k.fault ∙ sym (worst_two (check (only delete_words (members_of text call)) Syntax Fine) (tests_of text names schema call).fault)

  pub delete_done : {c n at : ℕ} {exit : List (List (List ℕ))} {out : List ℕ} → call.count ≤ most_rows → call.count ≤ length rows → is_fine m.fault ≡ true → c ≡ marked m.marks call.count
      → ((cs : List Column) (table : ℕ) (ts : List Test) → MarkedRows cs ts table call.count rows m.marks → Deleted cs table ts call.count n rows exit)
      → Effect Delete text names schema call rows exit at out out (record { fault = Fine; count = n; reply = Count c })
  unfolding performed tests_of Answers
  delete_done few long y ec gone =
      let d = gone (columns_of (packed_tables schema) call.table) call.table (tests_of text names schema call).got (marks_all k long y) in
      let x = d.few in
      effect_done m.fault y (omega arith, omega arith) (d.tidy (packed_tables schema)) (λ given _. (delete_fault_lem given, d.rows (packed_tables schema) refl, (count_all k long y ec, refl)))
      (λ given h. delete_none (matches call.table (tests_of text names schema call).got) (working (packed_tables schema) call.count rows) (count_none k long y ec h))

-- ── a row that is read ──
-- without a fault it is there
row_there : (s names : List ℕ) (columns : List (List ℕ)) (p : ℕ) → SlotFine s p → (insert : Bool) {r : Fault} {entry exit : List (List ℕ)} {given : List Bool} → RowRead (row_at insert s names columns p) r entry exit given → is_fine r ≡ true
    → (row_at insert s names columns p ≡ written_row insert s names columns p) × RowRead (written_row insert s names columns p) r entry exit given × (is_fine (written_row insert s names columns p).fault ≡ true)
row_there s names columns p fine insert k y =
    let g = ap is_fine (sym k.fault) ∙ y in
    let e = (row_fine s names columns p fine insert g).1 in
    (e, row_as e k, ap (λ (j : Judged (List (Option Value))). is_fine j.fault) (sym e) ∙ g)

-- ── update ──
abbrev update_words : List (List ℕ)
update_words = ascii "op" ∷ ascii "table" ∷ ascii "where" ∷ ascii "row" ∷ []

module _ {text names : List ℕ} {schema columns : List (List ℕ)} {call : Call} {rows : List (List (List ℕ))} {m : Matched} (k : Matching text names schema update_words call rows m) (here : TableColumns schema call.table columns)
    {v f : Fault} {born row : List (List ℕ)} {flags : List Bool} (read : RowRead (row_at false text names columns (get_or m.slots 3 0)) v born row flags) (ef : f ≡ earlier m.fault v) where
  update_row_lem : Model.read_row (names_at text names) Model.no_fault Model.immutable_fault (columns_of (packed_tables schema) call.table) (members_of text call) ≡ row_at false text names columns (get_or m.slots 3 0)
  update_row_lem =
      ap (λ (cs : List Column). Model.read_row (names_at text names) Model.no_fault Model.immutable_fault cs (members_of text call)) here.same
      ∙ row_by text names columns (members_of text call) (get_or m.slots 3 0) false (slot_find k.slots 3 (omega arith))

  pub update_fault : (given : List (List ℕ)) → f ≡ (outcome Update given text names schema call rows).fault
  unfolding performed tests_of
  update_fault given =
      worst_behind (check (only update_words (members_of text call)) Syntax Fine) (tests_of text names schema call).fault (Model.read_row (names_at text names) Model.no_fault Model.immutable_fault (columns_of (packed_tables schema) call.table) (members_of text call)).fault
      ef k.fault (read.fault ∙ ap (λ (j : Judged (List (Option Value))). j.fault) (sym update_row_lem))

  pub update_done : {c at : ℕ} {exit : List (List (List ℕ))} {out : List ℕ} → call.count ≤ most_rows → call.count ≤ length rows → is_fine f ≡ true → c ≡ marked m.marks call.count
      → Updates (length columns) row flags m.marks call.count rows exit → Effect Update text names schema call rows exit at out out (record { fault = Fine; count = call.count; reply = Count c })
  unfolding performed tests_of Answers
  update_done few long y ec up =
      let s = packed_tables schema in
      let ts = (tests_of text names schema call).got in
      let p = earlier_fine m.fault v (ap is_fine (sym ef) ∙ y) in
      let w = row_there text names columns (get_or m.slots 3 0) (slot_fine_lem k.slots 3 (omega arith)) false read p.1 in
      let marks = subst (λ (cs : List Column). MarkedRows cs ts call.table call.count rows m.marks) here.same (marks_all k long p.0) in
      let d = updated_rows text names columns (get_or m.slots 3 0) call.count m.marks ts call.table w.1 w.2 up marks in
      effect_done f y (few, omega arith) (d.tidy s here.same)
      (λ given _. (update_fault given, d.rows s here.same ∙ ap (λ (j : Judged (List (Option Value))). map (Model.update_row (matches call.table ts) j.got) (working s call.count rows)) (sym (update_row_lem ∙ w.0)), (count_all k long p.0 ec, refl)))
      (λ given h. update_none (matches call.table ts) (Model.read_row (names_at text names) Model.no_fault Model.immutable_fault (columns_of s call.table) (members_of text call)).got (working s call.count rows) (count_none k long p.0 ec h))

-- ── select ──
pub slot_well_lem : (s : List ℕ) (p : ℕ) → SlotFine s p → slot_well s p ≡ true
unfolding slot_well SlotFine
slot_well_lem s p h = split (eqb p 0) (λ e. rw (slot_well, e)) (λ e. rw (slot_well, e) (h e))

abbrev select_words : List (List ℕ)
select_words = ascii "op" ∷ ascii "table" ∷ ascii "where" ∷ ascii "columns" ∷ []

module _ {text names : List ℕ} {schema columns : List (List ℕ)} {call : Call} {rows : List (List (List ℕ))} {m : Matched} (k : Matching text names schema select_words call rows m) (here : TableColumns schema call.table columns)
    {c : Columns} (read : ColumnsRead (Model.columns_fault (map column_from columns) (slotted text (get_or m.slots 3 0))) (Model.shows (slotted text (get_or m.slots 3 0))) columns c) {f : Fault} (ef : f ≡ earlier m.fault c.fault) where
  shown : member_named (ascii "columns") (members_of text call) ≡ slotted text (get_or m.slots 3 0)
  shown = slot_find k.slots 3 (omega arith)

  pub select_fault : (given : List (List ℕ)) → f ≡ (outcome Select given text names schema call rows).fault
  unfolding performed tests_of
  select_fault given =
      worst_behind (check (only select_words (members_of text call)) Syntax Fine) (tests_of text names schema call).fault (Model.columns_fault (columns_of (packed_tables schema) call.table) (member_named (ascii "columns") (members_of text call)))
      ef k.fault (read.fault ∙ sym (λ i. Model.columns_fault (here.same i) (shown i)))

  pub select_done : {at e : ℕ} {before after : List ℕ} → call.count ≤ most_rows → is_fine f ≡ true → Selected schema call.table (take call.count rows) c.flags m.marks before at e after
      → Effect Select text names schema call rows rows at before after (record { fault = Fine; count = call.count; reply = Rows e })
  unfolding performed tests_of Answers Selected selected working
  select_done few y put =
      let ts = (tests_of text names schema call).got in
      let p = earlier_fine m.fault c.fault (ap is_fine (sym ef) ∙ y) in
      let w = put (Model.shows (slotted text (get_or m.slots 3 0))) ts (subst (λ (l : List (List ℕ)). Flagged (Model.shows (slotted text (get_or m.slots 3 0))) l c.flags) here.cells (read.flags p.1)) (k.marks p.0) in
      effect_done f y (few, omega arith) (λ t. t)
      (λ given _. (select_fault given, refl, put_is w (sym (λ i. selected (Model.shows (shown i)) (columns_of (packed_tables schema) call.table) call.table ts (working (packed_tables schema) call.count rows))) (omega arith)))
      (λ given h. refl)

-- ── mutate ──
abbrev mutate_words : List (List ℕ)
mutate_words = ascii "op" ∷ ascii "table" ∷ ascii "where" ∷ ascii "mutations" ∷ []

pub unless_within : (u : Fault) (n : ℕ) {e size : ℕ} → e ≡ count_unless u n → n ≤ most_rows → n ≤ size → (e ≤ most_rows) × (e ≤ size)
unfolding count_unless
unless_within u n {e} ee few long = split (is_fine u)
    (λ y. let q : e ≡ n = ee ∙ ap (λ (b : Bool). elim b [ true ↦ n | false ↦ 0 ]) y in (omega arith, omega arith))
    (λ y. let q : e ≡ 0 = ee ∙ ap (λ (b : Bool). elim b [ true ↦ n | false ↦ 0 ]) y in (omega arith, omega arith))

module _ {text names : List ℕ} {schema columns : List (List ℕ)} {call : Call} {rows : List (List (List ℕ))} {m : Matched} (k : Matching text names schema mutate_words call rows m) (here : TableColumns schema call.table columns) where
  abbrev mutations : Judged (List Mutation)
  mutations = Model.read_mutation_list (names_at text names) (columns_of (packed_tables schema) call.table) (members_of text call)

  abbrev mutations_read : Judged (List Mutation)
  mutations_read = mutations_in text names columns (get_or m.slots 3 0)

  mutate_list : mutations ≡ mutations_read
  mutate_list =
      ap (λ (cs : List Column). Model.read_mutation_list (names_at text names) cs (members_of text call)) here.same
      ∙ mutations_by text names columns (members_of text call) (get_or m.slots 3 0) (slot_find k.slots 3 (omega arith))

  -- the fault of the members, and behind it that of the rows
  abbrev members_fault : Fault
  members_fault = worst (check (only mutate_words (members_of text call)) Syntax Fine ∷ (tests_of text names schema call).fault ∷ mutations.fault ∷ [])

  abbrev mutated : Judged (List Row)
  mutated = Model.mutate_rows (matches call.table (tests_of text names schema call).got) mutations.got (working (packed_tables schema) call.count rows)

  members_are : earlier m.fault mutations_read.fault ≡ members_fault
  members_are =
      worst_behind (check (only mutate_words (members_of text call)) Syntax Fine) (tests_of text names schema call).fault mutations.fault refl k.fault (ap (λ (j : Judged (List Mutation)). j.fault) (sym mutate_list))

  by_members : {f : Fault} → earlier m.fault mutations_read.fault ≡ f → (given : List (List ℕ)) → (outcome Mutate given text names schema call rows).fault ≡ elim (is_fine f) [ true ↦ mutated.fault | false ↦ f ]
  unfolding performed tests_of
  by_members e given = ap (λ (x : Fault). elim (is_fine x) [ true ↦ mutated.fault | false ↦ x ]) (sym members_are ∙ e)

  module _ {v f : Fault} {e c : ℕ} {exit : List (List (List ℕ))} (few : call.count ≤ most_rows) (long : call.count ≤ length rows) (ef : f ≡ earlier m.fault v) (ee : e ≡ count_unless m.fault call.count)
      (done : MarkedMutated (map column_from columns) mutations_read e m.marks v rows exit) (ec : c ≡ marked m.marks call.count) where
    -- where the members before the mutations have no fault, the rows are mutated
    mutate_done : is_fine m.fault ≡ true → Silent Mutate text names schema call rows exit (record { fault = f; count = call.count; reply = Count c })
    unfolding performed tests_of Answers is_mutate count_unless
    mutate_done y at out =
        let s = packed_tables schema in
        let ts = (tests_of text names schema call).got in
        let size : e ≡ call.count = ee ∙ ap (λ (b : Bool). elim b [ true ↦ call.count | false ↦ 0 ]) y in
        let all = subst (λ (i : ℕ). MarkedMutated (map column_from columns) mutations_read i m.marks v rows exit) size done in
        let d = all.each ts call.table (subst (λ (cs : List Column). MarkedRows cs ts call.table call.count rows m.marks) here.same (marks_all k long y)) in
        let alone : (g : Fault) → earlier m.fault g ≡ g = λ g. ap (λ (x : Fault). earlier x g) (fine_is m.fault y) ∙ earlier_first g in
        let is : f ≡ v = ef ∙ alone v in
        let same = ap (λ (j : Judged (List Mutation)). Model.mutate_rows (matches call.table ts) j.got (working s call.count rows)) (sym mutate_list) in
        record {
          does = λ given _. record {
            fault = is ∙ d.fault s here.same ∙ ap (λ (j : Judged (List Row)). elim (is_fine mutations_read.fault) [ true ↦ j.fault | false ↦ mutations_read.fault ]) same ∙ sym (by_members (alone mutations_read.fault) given);
            few = few;
            grown = omega arith;
            rows = λ x. d.rows s here.same (ap is_fine (sym is) ∙ x) ∙ ap (λ (j : Judged (List Row)). j.got) same;
            reply = λ _. (count_all k long y ec, refl);
            same = λ _ h. mutate_none (matches call.table ts) mutations.got (working s call.count rows) (count_none k long y ec h);
            still = λ _. refl;
            tidy = d.tidy s here.same;
          };
          rows = λ x. absurd (clash true refl x);
          answer = λ _. refl;
        }

    -- and else none is
    mutate_not : is_fine m.fault ≡ false → Silent Mutate text names schema call rows exit (record { fault = f; count = call.count; reply = Count c })
    unfolding performed tests_of is_mutate count_unless MarkedRows working
    mutate_not y at out =
        let size : e ≡ 0 = ee ∙ ap (λ (b : Bool). elim b [ true ↦ call.count | false ↦ 0 ]) y in
        let None = subst (λ (i : ℕ). MarkedMutated (map column_from columns) mutations_read i m.marks v rows exit) size done in
        let d = (None.each [] call.table (λ t h i q. absurd (omega (arith, q)))).fault (packed_tables schema) here.same in
        let is : v ≡ mutations_read.fault = d ∙ split (is_fine mutations_read.fault) (λ t. rw t (sym (fine_is mutations_read.fault t))) (λ t. rw t) in
        let bad : is_fine f ≡ false = split (is_fine f) (λ t. absurd (clash (is_fine m.fault) (earlier_fine m.fault v (ap is_fine (sym ef) ∙ t)).0 y)) (λ t. t) in
        let fault : (given : List (List ℕ)) → f ≡ (outcome Mutate given text names schema call rows).fault = λ given. sym (by_members (ap (earlier m.fault) (sym is) ∙ sym ef) given ∙ ap (λ (b : Bool). elim b [ true ↦ mutated.fault | false ↦ f ]) bad) in
        subst (λ (x : List (List (List ℕ))). Effect Mutate text names schema call rows x at out out (record { fault = f; count = call.count; reply = Count c })) (sym None.behind)
        (record { does = λ given _. ran_failed few (fault given) bad; rows = λ x. absurd (clash true refl x); answer = λ _. refl })

    pub mutate_ran : Silent Mutate text names schema call rows exit (record { fault = f; count = call.count; reply = Count c })
    mutate_ran = split (is_fine m.fault) mutate_done mutate_not

-- ── insert ──
abbrev insert_words : List (List ℕ)
insert_words = ascii "op" ∷ ascii "table" ∷ ascii "row" ∷ ascii "uuid-name" ∷ []

working_length : (s : Schema) (n : ℕ) (rows : List (List (List ℕ))) → n ≤ length rows → length (working s n rows) ≡ n
unfolding working
working_length s n rows h = length-map (take n rows) (row_from s) ∙ simp length-take (omega arith)

-- what an insert comes to, by its fault f and the row that it adds
pub record Insertion (text names : List ℕ) (schema : List (List ℕ)) (call : Call) (rows : List (List (List ℕ))) (row : List (List ℕ)) (f : Fault) : Type 0 where
  pub room : is_fine f ≡ true → call.count < most_rows
  pub failed : is_fine f ≡ false → Silent Insert text names schema call rows rows (record { fault = f; count = call.count; reply = Empty })
  pub done : is_fine f ≡ true → (exit : List (List (List ℕ))) → Added call.count row rows exit → Silent Insert text names schema call rows exit (record { fault = Fine; count = call.count + 1; reply = Id })

module _ (text names : List ℕ) (schema : List (List ℕ)) (call : Call) (rows : List (List (List ℕ))) (few : call.count ≤ most_rows) (long : call.count ≤ length rows) {columns : List (List ℕ)} {slots id : List ℕ}
    (k : Slots text insert_words (members_of text call) slots) (here : TableColumns schema call.table columns) (fresh : FreshId names call.number id)
    {l v r m a b f : Fault} {born row : List (List ℕ)} {flags : List Bool} (new : Born (map column_from columns) call.table (value id) born) (read : RowRead (row_at true text names columns (get_or slots 2 0)) v born row flags)
    (el : l ≡ listed_fault (get_or slots 9 0)) (er : r ≡ room_fault call.count) (em : (given : List (List ℕ)) → Earlier text names call.number given → m ≡ Model.name_fault given (slotted text (get_or slots 3 0)))
    (ea : a ≡ earlier r m) (eb : b ≡ earlier v a) (ef : f ≡ earlier l b) where
  insert_row : Model.read_row (names_at text names) Model.default_fault Model.no_fault (columns_of (packed_tables schema) call.table) (members_of text call) ≡ row_at true text names columns (get_or slots 2 0)
  insert_row =
      ap (λ (l : List Column). Model.read_row (names_at text names) Model.default_fault Model.no_fault l (members_of text call)) here.same
      ∙ row_by text names columns (members_of text call) (get_or slots 2 0) true (slot_find k 2 (omega arith))

  insert_fault_lem : (given : List (List ℕ)) → Earlier text names call.number given → f ≡ (outcome Insert given text names schema call rows).fault
  unfolding performed listed_fault room_fault
  insert_fault_lem given g =
      ef
      ∙ (λ j. earlier (el j) ((eb ∙ (λ h. earlier (read.fault h) ((ea ∙ (λ x. earlier (er x) (em given g x))) h))) j))
      ∙ sym
      ((λ j. worst (check (k.listed j) Syntax Fine ∷ (insert_row j).fault ∷ check (ltb (working_length (packed_tables schema) call.count rows long j) most_rows) Resources Fine ∷ Model.name_fault given (slot_find k 3 (omega arith) j) ∷ []))
      ∙ ap (earlier (check (eqb (get_or slots 9 0) 0) Syntax Fine)) (worst_three (row_at true text names columns (get_or slots 2 0)).fault (check (ltb call.count most_rows) Resources Fine) (Model.name_fault given (slotted text (get_or slots 3 0)))))

  insert_parts : is_fine f ≡ true → (is_fine v ≡ true) × (is_fine a ≡ true)
  insert_parts y = earlier_fine v a (ap is_fine (sym eb) ∙ (earlier_fine l b (ap is_fine (sym ef) ∙ y)).1)

  insert_room : is_fine f ≡ true → call.count < most_rows
  unfolding room_fault
  insert_room y = ltb-true call.count most_rows (check_true (ltb call.count most_rows) Resources refl (ap is_fine (sym er) ∙ (earlier_fine r m (ap is_fine (sym ea) ∙ (insert_parts y).1)).0))

  insert_done : is_fine f ≡ true → (exit : List (List (List ℕ))) → Added call.count row rows exit → Silent Insert text names schema call rows exit (record { fault = Fine; count = call.count + 1; reply = Id })
  unfolding performed Answers
  insert_done y exit added at out =
      let s = packed_tables schema in
      let z = insert_room y in
      let w = row_there text names columns (get_or slots 2 0) (slot_fine_lem k 2 (omega arith)) true read (insert_parts y).0 in
      let d = inserted_row text names columns (get_or slots 2 0) call.table (value id) call.count here.few new w.1 w.2 added in
      effect_done f y (omega arith, omega arith) (d.tidy s here.same)
      (λ given g. (
        insert_fault_lem given g,
        d.rows s here.same
            ∙ sym (λ j. add (record { table = call.table; id = sym fresh.is j; columns = Model.assigned ((insert_row ∙ w.0) j).got (map initial (here.same j)) }) (working s call.count rows)),
        (refl, refl),
      ))
      (λ given h. absurd (clash true refl h))

  pub insertion : Insertion text names schema call rows row f
  insertion = record { room = insert_room; failed = λ bad _ _. effect_failed f few bad insert_fault_lem; done = insert_done }

-- an id copied
pub id_copied : (fresh : List ℕ) (k : ℕ) (src : List ℕ) {r : List ℕ} → FreshId fresh k src → r ≡ src ++ drop (length src) (replicate 16 0) → FreshId fresh k r
id_copied fresh k src {r} id e =
    let same : r ≡ src = e ∙ ap (λ (n : ℕ). src ++ drop n (replicate 16 0)) id.size ∙ append-nil src in
    record { size = ap length same ∙ id.size; is = ap value same ∙ id.is }
