-- After i turns the first i regions are stored, six bytes each.
-- Assumes nothing.
use Prim.Native.Nat.{◌+◌, ◌*◌}
use Rattle.profile.specs.Script.{region_length}
use Rattle.profile.specs.Writing.{region_bytes}
use Rattle.profile.proofs.Stores.{StoredTo}
use Rattle.profile.proofs.writing.put_regions.Given as goal

abbrev pub invariant-loop-i : goal.invariant-loop-i
invariant-loop-i l = StoredTo (region_bytes l.f) l.n l.initial.out l.at l.i l.out (l.at + region_length * l.i)
