-- The loop's invariant: the place is in the script, and what is left from it on is read as the whole is. The measure is how much is left.
-- Assumes nothing.
use mathlib.Core.Path.{◌≡◌}
use Prim.Native.Nat.{◌-◌, ◌≤◌}
use lib.ListN.{length, drop}
use Rattle.profile.specs.Upload.{reached}
use Rattle.profile.proofs.records.records_from.Given as goal

abbrev pub invariant-loop-at : goal.invariant-loop-at
invariant-loop-at l = record {
  within : l.at ≤ length l.script;
  on : reached 0 (drop l.at l.script) l.profile ≡ reached 0 (drop l.initial.at l.script) l.initial.profile;
}

abbrev pub decreases-loop-at : goal.decreases-loop-at
decreases-loop-at l = length l.script - l.at
