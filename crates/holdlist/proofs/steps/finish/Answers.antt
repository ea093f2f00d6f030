-- `steps::finish` meets its contract.
-- Assumes nothing.
use Rattle.holdlist.proofs.Fills.{flush-none, flush-step}
use Rattle.holdlist.proofs.steps.finish.Goals as goal

pub returns-then-o-eq0 : goal.returns-then-o-eq0
returns-then-o-eq0 c = search flush-none

pub returns : goal.returns
returns c = search flush-step
