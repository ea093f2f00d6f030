-- The toggles up to the number of lengths gone by; of length 0, all.
-- Assumes nothing.
use Rattle.level.proofs.Parts.{times_at_zero, times_at_gone}
use Rattle.level.proofs.first.First.times_at.Goals as goal

pub returns-then-l-eq0 : goal.returns-then-l-eq0
returns-then-l-eq0 c = let a = c.args in
    record { value = times_at_zero a.self a.t c.if-l-eq0.true c.six.ensures.value; upper_bound = c.six.ensures.upper_bound }

pub returns : goal.returns
returns c = let a = c.args in
    record { value = times_at_gone a.self a.t c.if-l-eq0.false c.cap.ensures c.six-2.ensures.value; upper_bound = c.six-2.ensures.upper_bound }
