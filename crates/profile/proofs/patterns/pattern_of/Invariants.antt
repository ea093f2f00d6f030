-- After i turns the pattern has the first i half registers: the table follows the layout, so each goes where the definition puts it.
-- Assumes nothing.
use mathlib.Core.Path.{◌≡◌}
use Rattle.profile.specs.Patterns.{pattern_up_to}
use Rattle.profile.proofs.patterns.pattern_of.Given as goal

abbrev pub invariant-loop-i : goal.invariant-loop-i
invariant-loop-i l = l.pattern ≡ pattern_up_to l.registers l.k l.i
