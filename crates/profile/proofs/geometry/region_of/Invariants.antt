-- The regions are looked at from the last down: the line's is among the first i.
-- Assumes nothing.
use mathlib.Core.Path.{◌≡◌}
use Rattle.profile.specs.Geometry.{region_of, first_line}
use Rattle.profile.specs.Lists.{last_start}
use Rattle.profile.proofs.geometry.region_of.Given as goal

abbrev pub invariant-loop-i : goal.invariant-loop-i
invariant-loop-i l = last_start (first_line l.field) l.i l.line ≡ region_of l.field l.line
