-- The words up to a stop are pushed, and the word there is held up to the next.
-- Assumes nothing.
use Rattle.holdlist.proofs.LineLoops.{Pushed, Reached}
use Rattle.holdlist.proofs.filling.EdgesEngine.fill_line.Given as goal

abbrev pub invariant-loop-end : goal.invariant-loop-end
invariant-loop-end l = let line = l.fn.line in Pushed line l.initial.filled.held l.initial.counts l.initial.words l.start l.filled.steps l.filled.held l.counts l.words × Reached line l.initial.end-iterator l.start l.yielded
