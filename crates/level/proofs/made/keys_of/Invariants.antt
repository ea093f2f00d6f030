-- The keys so far are what the calls gave.
-- Assumes nothing.
use Prim.Native.Nat.{ℕ, ◌<◌}
use mathlib.Core.Path.{◌≡◌}
use lib.ListN.{length, get_or}
use Rattle.level.proofs.made.keys_of.Given as goal

abbrev pub invariant-loop-i : goal.invariant-loop-i
invariant-loop-i g l = (length l.keys ≡ 18) × ((k : ℕ) → k < l.i → goal.F-post g l.key (get_or l.t k 0) (get_or l.keys k 0))
