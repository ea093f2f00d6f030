-- The room holds the text whole.
-- Assumes nothing.
use Rattle.ask.proofs.Answering.{short_whole}
use Rattle.ask.proofs.answers.put_answer.Goals as goal

pub returns : goal.returns
returns c = let w = short_whole c.put_asked.ensures c.requires in record { upper_bound = w.0; out_after = w.1 }
