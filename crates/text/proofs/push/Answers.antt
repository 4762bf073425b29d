-- `text::push` meets its contract.
use borrow.Author.Tests.{lt-ltb, le-ltb}
use mathlib.Core.Path.{sym}
use Rattle.text.specs.Push.{push_to, push_out, push_all_to, push_all_out}
use lib.Seq.{set_out}
use Rattle.text.proofs.push.Goals as goal

pub returns-then-o-out : goal.returns-then-o-out
unfolding push_all_to push_all_out push_to push_out
returns-then-o-out c =
    record { to = rw (c.in-Some.is, push_to, lt-ltb _ _ c.if-o-out.true); out = rw c.in-Some.is }

pub returns-else-o-out : goal.returns-else-o-out
unfolding push_all_to push_all_out push_to push_out
returns-else-o-out c =
    record { to = rw (c.in-Some.is, push_to, le-ltb _ _ c.if-o-out.false); out = rw c.in-Some.is (sym (set_out _ _ _ c.if-o-out.false)) }

pub returns-in-None : goal.returns-in-None
unfolding push_all_to push_all_out push_to push_out
returns-in-None c = record { to = rw c.in-None.is; out = rw c.in-None.is }
