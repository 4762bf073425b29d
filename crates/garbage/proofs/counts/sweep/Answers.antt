-- `garbage::counts::sweep` meets its contract.
use Rattle.std.specs.Prelude.{Option, Some}
use mathlib.Core.Path.{◌∙◌, subst}
use mathlib.Core.List.{List}
use Prim.Native.Nat.{ℕ, ◌<◌}
use native.Mathlib.Omega.{arith}
use lib.ListN.{length-set}
use Rattle.model.specs.Schema.{Schema}
use Rattle.model.specs.Catalog.{packed_tables}
use Rattle.garbage.specs.Counts.{NextAt}
use Rattle.garbage.proofs.Marking.{sweep_end, sweep_on, sweep_less, next_within}
use Rattle.garbage.proofs.counts.sweep.Goals as goal

pub returns : goal.returns
returns c =
    let l = c.loop-i in
    let sc = packed_tables c.args.schema.now in
    l.invariant.2 l.marks (sweep_end sc c.args.n c.args.rows.now c.requires.ordered.0 l.marks l.counts (subst (λ (f : Option ℕ). NextAt sc c.args.n c.args.rows.now l.marks l.counts f) c.in_default.is c.next_to_go.ensures))

pub bounds-marks-i : goal.bounds-marks-i
bounds-marks-i c =
    let schema : Schema = packed_tables c.args.schema.now in
    let marks : List ℕ = c.loop-i.marks in
    let counts : List ℕ = c.loop-i.counts in
    let spot : ℕ = c.in-Some.i in
    let found_at_lem : NextAt schema c.args.n c.args.rows.now marks counts (Some spot) = subst (λ (f : Option ℕ). NextAt schema c.args.n c.args.rows.now marks counts f) c.in-Some.is c.next_to_go.ensures in
    let within : spot < c.args.n = next_within schema c.args.n c.args.rows.now c.requires.ordered.0 marks counts spot found_at_lem in
    omega (arith, within, c.loop-i.invariant.0, c.requires.ordered.1)

pub offset_bounds-rows-i : goal.offset_bounds-rows-i
offset_bounds-rows-i c =
    let schema : Schema = packed_tables c.args.schema.now in
    let marks : List ℕ = c.loop-i.marks in
    let counts : List ℕ = c.loop-i.counts in
    let spot : ℕ = c.in-Some.i in
    let found_at_lem : NextAt schema c.args.n c.args.rows.now marks counts (Some spot) = subst (λ (f : Option ℕ). NextAt schema c.args.n c.args.rows.now marks counts f) c.in-Some.is c.next_to_go.ensures in
    let within : spot < c.args.n = next_within schema c.args.n c.args.rows.now c.requires.ordered.0 marks counts spot found_at_lem in
    omega (arith, within, c.well_formed, c.requires.ordered.0.there)

pub bounds-rows-i : goal.bounds-rows-i
bounds-rows-i c =
    let schema : Schema = packed_tables c.args.schema.now in
    let marks : List ℕ = c.loop-i.marks in
    let counts : List ℕ = c.loop-i.counts in
    let spot : ℕ = c.in-Some.i in
    let found_at_lem : NextAt schema c.args.n c.args.rows.now marks counts (Some spot) = subst (λ (f : Option ℕ). NextAt schema c.args.n c.args.rows.now marks counts f) c.in-Some.is c.next_to_go.ensures in
    let within : spot < c.args.n = next_within schema c.args.n c.args.rows.now c.requires.ordered.0 marks counts spot found_at_lem in
    omega (arith, within, c.requires.ordered.0.there)

pub loop-i-smaller : goal.loop-i-smaller
loop-i-smaller c =
    let schema : Schema = packed_tables c.args.schema.now in
    let marks : List ℕ = c.loop-i.marks in
    let counts : List ℕ = c.loop-i.counts in
    let spot : ℕ = c.in-Some.i in
    let found_at_lem : NextAt schema c.args.n c.args.rows.now marks counts (Some spot) = subst (λ (f : Option ℕ). NextAt schema c.args.n c.args.rows.now marks counts f) c.in-Some.is c.next_to_go.ensures in
    sweep_less (schema) c.args.n c.args.rows.now c.requires.ordered.0 (marks) (counts) (spot) (found_at_lem)

pub loop-i-preserved : goal.loop-i-preserved
loop-i-preserved c =
    let schema : Schema = packed_tables c.args.schema.now in
    let marks : List ℕ = c.loop-i.marks in
    let counts : List ℕ = c.loop-i.counts in
    let spot : ℕ = c.in-Some.i in
    let found_at_lem : NextAt schema c.args.n c.args.rows.now marks counts (Some spot) = subst (λ (f : Option ℕ). NextAt schema c.args.n c.args.rows.now marks counts f) c.in-Some.is c.next_to_go.ensures in
    let l = c.loop-i in (
      length-set (marks) (spot) 0 ∙ l.invariant.0,
      c.count_row.auto.counts ∙ l.invariant.1,
      λ end t.
          l.invariant.2 end (sweep_on (schema) c.args.n c.args.rows.now c.requires.ordered.0 (marks) (counts) (spot) (found_at_lem) c.count_row.new.counts c.count_row.ensures end t),
    )
