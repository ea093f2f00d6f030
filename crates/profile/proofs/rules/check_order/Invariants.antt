-- The regions passed are in order; the first that is not answers for all.
-- Assumes nothing.
use Rattle.profile.specs.Geometry.{region_count}
use Rattle.profile.specs.Rules.{order_entries}
use Rattle.profile.proofs.Judging.{Fine}
use Rattle.profile.proofs.rules.check_order.Given as goal

abbrev pub invariant-loop-i : goal.invariant-loop-i
invariant-loop-i l = Fine l.i-end (region_count l.field) (order_entries l.field) l.i
