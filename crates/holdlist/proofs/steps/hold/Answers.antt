-- `steps::hold` meets its contract.
-- Assumes nothing.
use Rattle.holdlist.proofs.Fills.{hold_joins, hold_none, hold_starts}
use Rattle.holdlist.proofs.steps.hold.Goals as goal

pub returns-then-o-word : goal.returns-then-o-word
returns-then-o-word c = search hold_joins

pub returns-then-times-eq0 : goal.returns-then-times-eq0
returns-then-times-eq0 c = search hold_none

pub returns : goal.returns
returns c = search hold_starts
