-- The loop's invariant: the first i regions are read and in range, and the rest are empty.
-- Assumes nothing.
use Rattle.profile.proofs.Readers.{Filled}
use Rattle.profile.proofs.records.regions_from.Given as goal

abbrev pub invariant-loop-i : goal.invariant-loop-i
invariant-loop-i l = Filled l.head l.body l.regions l.i
