-- `text::encode` meets its contract.
use borrow.Author.Tests.{lt-ltb, le-ltb}
use Rattle.model.specs.Strings.{utf8}
use Rattle.text.proofs.encode.Goals as goal

pub returns-then-v-lt128 : goal.returns-then-v-lt128
unfolding utf8
returns-then-v-lt128 c = rw (utf8, lt-ltb _ _ c.if-v-lt128.true) c.push.ensures

pub returns-then-v-lt2048 : goal.returns-then-v-lt2048
unfolding utf8
returns-then-v-lt2048 c =
    rw (utf8, le-ltb _ _ c.if-v-lt128.false, lt-ltb _ _ c.if-v-lt2048.true) c.two.ensures

pub returns-then-v-lt65536 : goal.returns-then-v-lt65536
unfolding utf8
returns-then-v-lt65536 c =
    rw (utf8, le-ltb _ _ c.if-v-lt128.false, le-ltb _ _ c.if-v-lt2048.false, lt-ltb _ _ c.if-v-lt65536.true) c.three.ensures

pub returns : goal.returns
unfolding utf8
returns c =
    rw (utf8, le-ltb _ _ c.if-v-lt128.false, le-ltb _ _ c.if-v-lt2048.false, le-ltb _ _ c.if-v-lt65536.false) c.four.ensures
