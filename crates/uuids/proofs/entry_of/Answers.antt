-- `uuids::entry_of` meets its contract.
use native.Mathlib.Omega.{arith}
use Rattle.inner.specs.Positions.{tree_at}
use Rattle.model.specs.Members.{members_in}
use Rattle.uuids.proofs.Table.{entry_no_op, entry_no_insert, entry_no_name, entry_below, entry_some}
use Rattle.uuids.proofs.entry_of.Goals as goal

pub returns-in_default : goal.returns-in_default
returns-in_default c =
    let a = c.args in
    entry_no_op a.text.now (members_in (tree_at a.text.now a.at)) c.find-o.ensures c.in_default.is

pub returns-in_default-u : goal.returns-in_default-u
returns-in_default-u c =
    let a = c.args in
    entry_no_name a.text.now (members_in (tree_at a.text.now a.at)) c.find-o.ensures c.in-Some.is c.is_word-i.ensures c.if-i.true c.find-u.ensures c.in_default-u.is

pub overflow_add-result : goal.overflow_add-result
overflow_add-result c =
    let a = c.args in
    omega (arith, entry_below a.text.now (members_in (tree_at a.text.now a.at)) c.find-o.ensures c.in-Some.is c.is_word-i.ensures c.if-i.true c.find-u.ensures c.in-Some-u.is, c.requires.text_len_bound)

pub returns-then-i : goal.returns-then-i
returns-then-i c =
    let a = c.args in
    entry_some a.text.now (members_in (tree_at a.text.now a.at)) c.find-o.ensures c.in-Some.is c.is_word-i.ensures c.if-i.true c.find-u.ensures c.in-Some-u.is c.requires.text_len_bound

pub returns : goal.returns
returns c =
    let a = c.args in
    entry_no_insert a.text.now (members_in (tree_at a.text.now a.at)) c.find-o.ensures c.in-Some.is c.is_word-i.ensures c.if-i.false
