-- Each answer adds at most 65,535.
-- Assumes nothing.
use Prim.Native.Nat.{◌≤◌, ◌*◌}
use Rattle.bench.proofs.uploads.reads_sum.Given as goal

abbrev pub invariant-loop : goal.invariant-loop
invariant-loop l = l.sum ≤ 65535 * l.counter
