-- Each verdict adds at most 65,535.
-- Assumes nothing.
use Prim.Native.Nat.{◌≤◌, ◌*◌}
use Rattle.bench.proofs.places.checks_sum.Given as goal

abbrev pub invariant-loop : goal.invariant-loop
invariant-loop l = l.sum ≤ 65535 * l.counter
