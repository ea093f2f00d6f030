-- The shutters passed are right; the first that is not answers for both.
-- Assumes nothing.
use Rattle.profile.specs.Rules.{shutter_entries}
use Rattle.profile.proofs.Judging.{Fine}
use Rattle.profile.proofs.rules.check_shutters.Given as goal

abbrev pub invariant-loop-k : goal.invariant-loop-k
invariant-loop-k l = Fine 2 2 (shutter_entries l.tables l.field) l.k
