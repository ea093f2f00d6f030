-- The payload's state, with its chunks.
-- Assumes nothing.
use Rattle.holdlist.proofs.Puts.{puts_as}
use Rattle.cases.specs.Kinds.{stated_text}
use Rattle.cases.proofs.answers.put_stated.Goals as goal

pub returns : goal.returns
unfolding stated_text
returns c = puts_as c.put_answered.ensures (rw (c.answer_in.ensures, c.take_cut-upload.ensures, c.state_of.ensures, c.rules_at-rules.ensures))
