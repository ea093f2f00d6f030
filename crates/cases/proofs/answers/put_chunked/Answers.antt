-- The upload from the start, with its chunks.
-- Assumes nothing.
use Rattle.holdlist.proofs.Puts.{puts_as}
use Rattle.cases.specs.Kinds.{chunked_text}
use Rattle.cases.proofs.answers.put_chunked.Goals as goal

pub returns : goal.returns
unfolding chunked_text
returns c = puts_as c.put_answered.ensures (rw (c.answer_in.ensures, c.take_cut-upload.ensures, c.start.ensures, c.rules_at-rules.ensures))
