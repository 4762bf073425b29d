-- `record::read` meets its contract.
use mathlib.Core.Path.{◌≡◌, sym, ap, ◌∙◌}
use mathlib.Core.List.{List}
use Prim.Native.Nat.{ℕ}
use native.Mathlib.Omega.{arith}
use lib.ListN.{length}
use Rattle.std.specs.Option.{option_copied}
use Rattle.model.specs.Records.{record_bytes}
use Rattle.record.proofs.Readings.{first_is, none_first, kind_five, none_read, wrong_read, born_read, gone_read, column_read, end_read, mark_read}
use Rattle.record.proofs.read.Goals as goal

pub returns-in_default : goal.returns-in_default
returns-in_default c =
    none_read c.args.bytes.now (none_first c.args.bytes.now (ap option_copied (sym c.in_default.is) ∙ c.first.ensures.value))

pub returns-then-bytes-len_of : goal.returns-then-bytes-len_of
returns-then-bytes-len_of c =
    let bytes : List ℕ = c.args.bytes.now in
    let first = first_is bytes c.in-Some.field-0.now (ap option_copied (sym c.in-Some.is) ∙ c.first.ensures.value) in
    wrong_read bytes first.0 (λ e. c.if-bytes-len_of.true (e ∙ ap record_bytes first.1 ∙ sym c.len_of.ensures))

pub returns-in-1 : goal.returns-in-1
returns-in-1 c =
    let first = first_is c.args.bytes.now c.in-Some.field-0.now (ap option_copied (sym c.in-Some.is) ∙ c.first.ensures.value) in
    born_read _ _ _ _ (first.1 ∙ c.in-1.is) (c.if-bytes-len_of.false ∙ c.len_of.ensures ∙ ap record_bytes c.in-1.is) c.four-run.ensures c.four-number.ensures c.new.ensures

pub returns-in-2 : goal.returns-in-2
returns-in-2 c =
    let first = first_is c.args.bytes.now c.in-Some.field-0.now (ap option_copied (sym c.in-Some.is) ∙ c.first.ensures.value) in
    gone_read _ _ _ _ (first.1 ∙ c.in-2.is) (c.if-bytes-len_of.false ∙ c.len_of.ensures ∙ ap record_bytes c.in-2.is) c.four-run.ensures c.four-number.ensures c.new-in-2.ensures

pub returns-in-3 : goal.returns-in-3
returns-in-3 c =
    let first = first_is c.args.bytes.now c.in-Some.field-0.now (ap option_copied (sym c.in-Some.is) ∙ c.first.ensures.value) in
    column_read _ _ _ _ (first.1 ∙ c.in-3.is) (c.if-bytes-len_of.false ∙ c.len_of.ensures ∙ ap record_bytes c.in-3.is) c.four-run.ensures c.four-number.ensures c.new-in-3.ensures

pub returns-in-4 : goal.returns-in-4
returns-in-4 c =
    let first = first_is c.args.bytes.now c.in-Some.field-0.now (ap option_copied (sym c.in-Some.is) ∙ c.first.ensures.value) in
    end_read _ _ _ _ (first.1 ∙ c.in-4.is) (c.if-bytes-len_of.false ∙ c.len_of.ensures ∙ ap record_bytes c.in-4.is) c.four-run.ensures c.four-number.ensures c.new-in-4.ensures

pub returns-in_default-kind : goal.returns-in_default-kind
returns-in_default-kind c =
    let kind : ℕ = c.in-Some.field-0.now in
    let first = first_is c.args.bytes.now kind (ap option_copied (sym c.in-Some.is) ∙ c.first.ensures.value) in
    let sized : length c.args.bytes.now ≡ record_bytes kind = c.if-bytes-len_of.false ∙ c.len_of.ensures in
    let five : kind ≡ 5 = kind_five kind (rw (← sized) first.0) (λ e. omega (arith, e)) (λ e. omega (arith, e)) (λ e. omega (arith, e)) (λ e. omega (arith, e)) in
    mark_read _ _ _ _ (first.1 ∙ five) (sized ∙ ap record_bytes five) c.four-run.ensures c.four-number.ensures c.new-in_default-kind.ensures
