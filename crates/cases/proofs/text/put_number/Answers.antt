-- By the test: a space is put before a number that stands at no front.
-- Assumes nothing.
use Rattle.cases.specs.Answer.{number_text}
use Rattle.cases.proofs.text.put_number.Goals as goal

pub returns-then-front : goal.returns-then-front
unfolding number_text
returns-then-front c = rw c.if-front.true c.put_decimal.ensures

pub returns : goal.returns
unfolding number_text
returns c = rw c.if-front.false c.put_after.ensures
