-- The outputs passed have their toggles in order; the first that has not answers for all, with its fault.
-- Assumes nothing.
use mathlib.Core.List.{[]}
use lib.ListN.{get_or}
use Rattle.profile.specs.Patterns.{used}
use Rattle.profile.specs.Rules.{row_entries}
use Rattle.profile.proofs.Judging.{Fine}
use Rattle.profile.proofs.rules.check_toggles.Given as goal

abbrev pub invariant-loop-k : goal.invariant-loop-k
invariant-loop-k l = Fine 6 6 (λ j. row_entries l.i (used l.mode l.length) (get_or l.rows j []) j) l.k
