-- The loop keeps the sizes of the regions passed, seven at most.
-- Assumes nothing.
use Prim.Native.Nat.{◌≤◌, ◌*◌}
use mathlib.Core.Path.{◌≡◌}
use Rattle.profile.specs.Lists.{sum}
use Rattle.profile.specs.Geometry.{region_size}
use Rattle.profile.proofs.geometry.pixel_count.Given as goal

abbrev pub invariant-loop-i : goal.invariant-loop-i
invariant-loop-i l = record { so_far : l.pixels ≡ sum (region_size l.tables l.field) 0 l.i; most : l.pixels ≤ l.i * 4294901760 }
