-- The loop's invariant is the record Cutting.
-- Assumes nothing.
use Rattle.cases.proofs.Cutting.{Cutting}
use Rattle.cases.proofs.chunks.take_cut.Given as goal

abbrev pub invariant-loop-i : goal.invariant-loop-i
invariant-loop-i l = Cutting l.payload l.at l.n l.initial.after l.after l.from l.i
