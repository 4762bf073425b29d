-- `nav::kind_by` meets its contract.
use borrow.Author.Tests.{ne_eqb}
use Rattle.inner.specs.Positions.{kind_by}
use Rattle.nav.proofs.kind_by.Goals as goal

pub returns-then-b-eq-BRACKET : goal.returns-then-b-eq-BRACKET
unfolding kind_by
returns-then-b-eq-BRACKET c = rw c.if-b-eq-BRACKET.true

pub returns-then-b-eq-BRACE : goal.returns-then-b-eq-BRACE
unfolding kind_by
returns-then-b-eq-BRACE c = rw c.if-b-eq-BRACE.true

pub returns-then-b-eq-QUOTE : goal.returns-then-b-eq-QUOTE
unfolding kind_by
returns-then-b-eq-QUOTE c = rw c.if-b-eq-QUOTE.true

pub returns-then-b-eq-LETTER_N : goal.returns-then-b-eq-LETTER_N
unfolding kind_by
returns-then-b-eq-LETTER_N c = rw c.if-b-eq-LETTER_N.true

pub returns-then-b-eq-LETTER_T : goal.returns-then-b-eq-LETTER_T
unfolding kind_by
returns-then-b-eq-LETTER_T c = rw c.if-b-eq-LETTER_T.true

pub returns-then-b-eq-LETTER_F : goal.returns-then-b-eq-LETTER_F
unfolding kind_by
returns-then-b-eq-LETTER_F c = rw c.if-b-eq-LETTER_F.true

pub returns : goal.returns
unfolding kind_by
returns c = rw (kind_by, ne_eqb _ _ c.if-b-eq-BRACKET.false, ne_eqb _ _ c.if-b-eq-BRACE.false, ne_eqb _ _ c.if-b-eq-QUOTE.false, ne_eqb _ _ c.if-b-eq-LETTER_N.false, ne_eqb _ _ c.if-b-eq-LETTER_T.false, ne_eqb _ _ c.if-b-eq-LETTER_F.false)
