-- The place stays inside the array.
-- Assumes nothing.
use Prim.Native.Nat.{◌<◌}
use Rattle.bench.proofs.numbers.Given as goal

abbrev pub invariant-loop-c : goal.invariant-loop-c
invariant-loop-c l = l.k < 240
