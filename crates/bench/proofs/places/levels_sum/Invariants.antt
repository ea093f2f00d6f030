-- Each word adds at most 65,535.
-- Assumes nothing.
use Prim.Native.Nat.{◌≤◌, ◌*◌}
use Rattle.bench.proofs.places.levels_sum.Given as goal

abbrev pub invariant-loop-k : goal.invariant-loop-k
invariant-loop-k l = l.sum ≤ 65535 * l.k
