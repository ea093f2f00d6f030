-- The regions passed obey 8 to 13; the first that does not answers for all.
-- Assumes nothing.
use Rattle.profile.specs.Geometry.{region_count}
use Rattle.profile.specs.Rules.{region_entries}
use Rattle.profile.proofs.Judging.{Fine}
use Rattle.profile.proofs.rules.check_regions.Given as goal

abbrev pub invariant-loop-i : goal.invariant-loop-i
invariant-loop-i l = Fine l.i-end (region_count l.field) (region_entries l.tables l.field) l.i
