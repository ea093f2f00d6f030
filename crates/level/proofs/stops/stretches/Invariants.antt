-- The loop has written the stretches up to the stop that it reached: each turn works out one word and the next stop, and leaves when a slice is full.
-- Assumes nothing.
use Prim.Native.Nat.{◌-◌}
use Rattle.level.proofs.Stopping.{Stretching}
use Rattle.level.proofs.stops.stretches.Given as goal

abbrev pub invariant-loop-p : goal.invariant-loop-p
invariant-loop-p l = Stretching l.line l.initial.ends l.initial.words l.ends l.words l.p l.n

abbrev pub decreases-loop-p : goal.decreases-loop-p
decreases-loop-p l = l.line.length - l.p
