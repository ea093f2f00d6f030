-- The space, then the number.
-- Assumes nothing.
use Rattle.cases.proofs.Putting.{putting}
use Rattle.cases.proofs.text.put_after.Goals as goal

pub returns : goal.returns
returns c = search putting
