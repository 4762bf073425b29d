-- `row_types::column_meets` meets its contract.
use Rattle.std.proofs.Common.{◌≡◌, ℕ, List, ◌&&◌, take, leb, sym, ◌∙◌}
use borrow.Author.Tests.{le-leb, lt-leb}
use Rattle.model.specs.Value.{Value}
use Rattle.inner.specs.Working.{value_in}
use Rattle.row_types.specs.Met.{all_met}
use Rattle.row_types.proofs.Laws.{met_many, met_count, met_all}
use Rattle.row_types.proofs.column_meets.Goals as goal
use Rattle.row_types.proofs.column_meets.Goals.{then-k-le-ELEMENTS, else-k-le-ELEMENTS}

pub returns-then-minimum-n : goal.returns-then-minimum-n
returns-then-minimum-n c =
    let cell : List ℕ = c.args.entry.now in
    let held : Value = value_in c.args.c c.args.row.now in
    let n : c.count_of-n.result ≡ held.count = c.count_of-n.ensures in
    let k : c.wide-k.result ≡ held.count = c.wide-k.ensures ∙ n in
    elim c.if-k-le-ELEMENTS.branch [
      | then-k-le-ELEMENTS w ↦
          let few = (λ j. leb (sym k j) 4) ∙ le-leb _ _ w.if-k-le-ELEMENTS.true in
          let counts = (λ j. leb (sym w.minimum.ensures j) (sym n j) && leb (sym n j) (sym w.maximum.ensures j)) ∙ sym w.value-is ∙ c.if-minimum-n.true in
          c.all_meet.ensures ∙ (λ j. all_met cell (take (k j) (c.atoms_in.ensures.0 j))) ∙ sym (met_all cell held few counts)
      | else-k-le-ELEMENTS w ↦ cc (lt-leb _ _ w.if-k-le-ELEMENTS.false)
    ]

pub returns-else-minimum-n : goal.returns-else-minimum-n
returns-else-minimum-n c =
    let cell : List ℕ = c.args.entry.now in
    let held : Value = value_in c.args.c c.args.row.now in
    let n : c.count_of-n.result ≡ held.count = c.count_of-n.ensures in
    let k : c.wide-k.result ≡ held.count = c.wide-k.ensures ∙ n in
    elim c.if-k-le-ELEMENTS.branch [
      | then-k-le-ELEMENTS w ↦
          let counts = (λ j. leb (sym w.minimum.ensures j) (sym n j) && leb (sym n j) (sym w.maximum.ensures j)) ∙ sym w.value-is ∙ c.if-minimum-n.false in
          c.if-minimum-n.false ∙ sym (met_count cell held counts)
      | else-k-le-ELEMENTS w ↦ c.if-minimum-n.false ∙ sym (met_many cell held ((λ j. leb (sym k j) 4) ∙ lt-leb _ _ w.if-k-le-ELEMENTS.false))
    ]
