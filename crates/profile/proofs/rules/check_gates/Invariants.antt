-- The gates passed are right on the shortest gate line, whose length is answered once; the first that is not answers for all.
-- Assumes nothing.
use Rattle.profile.proofs.Judging.{gates_on, Fine}
use Rattle.profile.proofs.rules.check_gates.Given as goal

abbrev pub invariant-loop-k : goal.invariant-loop-k
invariant-loop-k l = Fine 5 5 (gates_on l.tables l.length) l.k
