-- The numbers, then the end of the line.
-- Assumes nothing.
use Rattle.cases.proofs.Putting.{putting}
use Rattle.cases.proofs.text.put_words.Goals as goal

pub returns : goal.returns
returns c = search putting
