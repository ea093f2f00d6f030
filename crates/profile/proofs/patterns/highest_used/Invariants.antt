-- The loop keeps the highest used toggle of the outputs passed.
-- Assumes nothing.
use mathlib.Core.List.{[]}
use lib.ListN.{get_or}
use mathlib.Core.Path.{◌≡◌}
use Rattle.profile.specs.Patterns.{highest_used}
use Rattle.profile.proofs.patterns.highest_used.Given as goal

abbrev pub invariant-loop-row : goal.invariant-loop-row
invariant-loop-row l = l.highest ≡ highest_used (λ j. get_or l.row-items j []) l.row-index
