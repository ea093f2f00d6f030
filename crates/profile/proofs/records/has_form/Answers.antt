-- Below the head and one region the first test fails; from there on it holds and the others are the code's.
-- Assumes nothing.
use Rattle.profile.proofs.Forms.{form_short, form_rest}
use Rattle.profile.proofs.records.has_form.Goals as goal

pub returns-then-length-head : goal.returns-then-length-head
returns-then-length-head c = let a = c.args in form_short a.two a.length c.head_length-head.ensures.value c.if-length-head.true

pub returns : goal.returns
returns c = let a = c.args in form_rest a.two a.length c.head_length-head.ensures.value c.if-length-head.false
