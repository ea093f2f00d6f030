-- The loop keeps that the sizes of the regions passed and what is left of n add up to n.
-- So the first region larger than what is left has pixel n, and past the last region n is past the field's pixels.
-- Assumes nothing.
use Prim.Native.Nat.{◌≤◌, ◌+◌}
use mathlib.Core.Path.{◌≡◌}
use Rattle.profile.specs.Lists.{sum}
use Rattle.profile.specs.Geometry.{region_count, region_size}
use Rattle.level.proofs.place.place_of.Given as goal

abbrev pub invariant-loop-i : goal.invariant-loop-i
invariant-loop-i l = (l.i ≤ l.count) × (l.count ≡ region_count l.field) × (l.count ≤ 7) × (sum (region_size l.tables l.field) 0 l.i + l.left ≡ l.n)
